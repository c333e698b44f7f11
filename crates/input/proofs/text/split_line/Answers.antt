-- The first line ends at the first line feed, and is the whole text where there is none.
use Rattle.std.proofs.Common.{rules}
use Rattle.std.proofs.lemmas.List.{take_rest}
use Rattle.input.specs.Lines.{lines_of}
use Rattle.input.proofs.CutLines.{lines_at, open_line}
use Rattle.input.proofs.text.split_line.Goals as goal

pub returns-then-byte-eq10 : goal.returns-then-byte-eq10
returns-then-byte-eq10 c = rw take_rest (lines_at c.args.text.now c.loop-end.end (search rules) (search rules) c.loop-end.invariant)

pub returns : goal.returns
unfolding lines_of
returns c = open_line c.args.text.now (search rules) c.requires
