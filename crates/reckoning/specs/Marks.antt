-- A mark that is accepted by a test for 1, or for 1 and 2, is one of them.
use Rattle.std.specs.Prelude.{◌≡◌, ℕ, true, ◌||◌, ◌⊎◌, ◌==◌}
use Rattle.std.proofs.Common.{inl, inr, ⊎_elim}
use Rattle.std.proofs.lemmas.Bool.{eqb-true, or_cases}

pub first : (m : ℕ) → (m == 1) ≡ true → (m ≡ 1) ⊎ (m ≡ 2)
first m e = inl (eqb-true m 1 e)

pub first_or_second : (m : ℕ) → (m == 1 || m == 2) ≡ true → (m ≡ 1) ⊎ (m ≡ 2)
first_or_second m e = ⊎_elim (first m) (λ q. inr (eqb-true m 2 q)) (or_cases _ _ e)
