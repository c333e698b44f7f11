use Rattle.std.proofs.Common.{◌≡◌}
use Rattle.sheet.specs.Readers.{to_come}
use Rattle.sheet.specs.Verify.{verdict, items}
use Rattle.sheet.proofs.reader.Reader.finish.Given as goal

abbrev pub invariant-loop : goal.invariant-loop
invariant-loop g l = verdict (to_come g.R.Reckoning.meaning g.F.ReaderFault.form l.self) ≡ verdict (to_come g.R.Reckoning.meaning g.F.ReaderFault.form l.initial.self)

abbrev pub decreases-loop : goal.decreases-loop
decreases-loop g l = items (to_come g.R.Reckoning.meaning g.F.ReaderFault.form l.self)
