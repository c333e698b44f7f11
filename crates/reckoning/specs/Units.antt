-- What is known of the codes of zero and one in every reckoning.
use Rattle.std.specs.Prelude.{◌≡◌, ℕ, Some}
use Rattle.reckoning.specs.Algebra.{Algebra}

-- The first number is the code of zero, the second that of one; they differ, and each stands for its weight.
pub record Units {W : Type 0} (a : Algebra W) (codes : ℕ × ℕ) : Type 0 where
  pub zero_code : codes.0 ≡ a.code a.zero
  pub one_code : codes.1 ≡ a.code a.one
  pub differ : codes.0 ≡ codes.1 → ⊥
  pub zero_decodes : a.decode codes.0 ≡ Some a.zero
  pub one_decodes : a.decode codes.1 ≡ Some a.one
