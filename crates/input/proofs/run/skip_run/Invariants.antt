-- The run behind which the lines are to be left ends where the run that is left ends.
use Rattle.std.proofs.Common.{◌≡◌, length}
use Rattle.input.specs.Lines.{to_come}
use Rattle.input.specs.Runs.{after_run}
use Rattle.input.proofs.run.skip_run.Given as goal

abbrev pub invariant-loop : goal.invariant-loop
invariant-loop l = after_run (to_come l.lines) ≡ after_run (to_come l.initial.lines)

abbrev pub decreases-loop : goal.decreases-loop
decreases-loop l = length (to_come l.lines)
