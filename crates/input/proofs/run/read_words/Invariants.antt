-- The words so far, and the run that is left, are the whole run; both runs end at one place.
use Rattle.std.proofs.Common.{◌≡◌, ◌≤◌, ◌++◌, length, vec_items, vec_len}
use Rattle.input.specs.Lines.{to_come}
use Rattle.input.specs.Runs.{run, after_run}
use Rattle.input.proofs.run.read_words.Given as goal

abbrev pub invariant-loop-word : goal.invariant-loop-word
invariant-loop-word l =
    (vec_items l.words ++ run (to_come l.lines) ≡ run (to_come l.initial.lines))
    × (after_run (to_come l.lines) ≡ after_run (to_come l.initial.lines))
    × (vec_len l.words ≤ l.limit)

abbrev pub decreases-loop-word : goal.decreases-loop-word
decreases-loop-word l = length (to_come l.lines)
