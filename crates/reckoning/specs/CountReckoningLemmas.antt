-- What holds of both gathers of Count holds of the gather by its mark.
use Rattle.std.specs.Prelude.{ℕ, cond, ◌==◌}
use Rattle.std.proofs.lemmas.Bool.{cond_both}
use Rattle.reckoning.specs.Cut.{cut_sum, greater}
use Rattle.reckoning.specs.declared.weight.Capped.{Capped}

-- what holds of the cut sum and of the greater holds of the gather by any mark
pub by_mark : (m : ℕ) (P : (Capped → Capped → Capped) → Type 0) → P cut_sum → P greater → P (cond (m == 1) cut_sum greater)
by_mark m P of-sum of-greater = cond_both (m == 1) cut_sum greater P (λ _. of-sum) (λ _. of-greater)
