-- the values so far are written
use Rattle.std.proofs.Common.{map, take}
use Rattle.std.specs.Fmt.{HasWritten, IsPlainFormatter}
use Rattle.words.specs.Layout.{load_part}
use Rattle.listing.specs.ItemLine.{spaced}
use Rattle.listing.proofs.text.ValuesDisplay.fmt.Given as goal

abbrev pub invariant-loop-word : goal.invariant-loop-word
invariant-loop-word g l =
    IsPlainFormatter l.initial.f → HasWritten g.W.Write.write_str_gives l.initial.f (spaced (map load_part (take l.word-index l.word-items))) l.f
