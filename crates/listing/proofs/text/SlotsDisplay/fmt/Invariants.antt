-- what is written, and the slots in the rest of the mask, are the slots in the mask
use Rattle.std.proofs.Common.{◌≡◌, ℕ, ◌-◌, List, ◌++◌, drop}
use Rattle.std.specs.Fmt.{HasWritten, IsPlainFormatter}
use Rattle.sheet.specs.Scope.{picked, slot_numbers, scope_of}
use Rattle.listing.specs.ItemLine.{spaced}
use Rattle.listing.proofs.text.SlotsDisplay.fmt.Given as goal

abbrev pub invariant-loop-number : goal.invariant-loop-number
invariant-loop-number g l =
    (done : List ℕ) × (done ++ picked l.rest (drop (l.number-counter - 1) slot_numbers) ≡ scope_of l.self.0)
    × (IsPlainFormatter l.initial.f → HasWritten g.W.Write.write_str_gives l.initial.f (spaced done) l.f)
