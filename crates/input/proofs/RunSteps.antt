-- The run at the front of some lines, by the word of their first line.
use Rattle.std.proofs.Common.{◌≡◌, ℕ, List, [], ◌∷◌, Some, None, refl, append_assoc, append-nil, length-append}
use Rattle.std.proofs.lemmas.Bool.Decides.{nat_tests}
use Rattle.input.specs.Lines.{later_lines}
use Rattle.input.specs.Runs.{front_word, run, after_run}

pub run_by_front : (lines : List (List ℕ)) → run lines ≡ (elim (front_word lines) [ None ↦ [] | Some word ↦ word ∷ run (later_lines lines) ])
unfolding run
run_by_front [] = refl
run_by_front (line ∷ rest) = refl

pub after_by_front : (lines : List (List ℕ)) → after_run lines ≡ (elim (front_word lines) [ None ↦ later_lines lines | Some word ↦ after_run (later_lines lines) ])
unfolding after_run
after_by_front [] = refl
after_by_front (line ∷ rest) = refl

-- the run step by step, and the length of the words that were kept
pub ruleset run_steps = (run_by_front, after_by_front, append_assoc, append-nil, length-append, nat_tests)
