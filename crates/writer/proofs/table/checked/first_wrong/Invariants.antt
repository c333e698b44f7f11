use Rattle.std.proofs.Common.{◌≡◌, map, drop, None}
use Rattle.writer.specs.Writing.{row_of, values_in, first_wrong}
use Rattle.writer.proofs.table.checked.first_wrong.Given as goal

abbrev pub invariant-loop-i : goal.invariant-loop-i
invariant-loop-i g l =
    first_wrong g.R.Reckoning.meaning l.dims (values_in l.previous) l.i (map row_of (drop l.i l.rows))
    ≡ first_wrong g.R.Reckoning.meaning l.dims None 0 (map row_of l.rows)
