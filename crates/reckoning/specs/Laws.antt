-- The laws that every reckoning obeys: the product and each gather form a commutative semiring, and a weight has one code.
use Rattle.std.specs.Prelude.{◌≡◌, ℕ, ◌^◌, ◌<◌, true, ◌⊎◌, Some}
use Rattle.reckoning.specs.Algebra.{Algebra}

-- What holds of an algebra that is the meaning of a reckoning.
pub record Laws {W : Type 0} (a : Algebra W) : Type 0 where
  -- The order of two factors does not matter.
  pub times_comm : (x y : W) → a.times x y ≡ a.times y x
  -- The grouping of three factors does not matter.
  pub times_assoc : (x y z : W) → a.times (a.times x y) z ≡ a.times x (a.times y z)
  -- One is neutral for the product.
  pub times_one : (x : W) → a.times x a.one ≡ x
  -- A product with zero is zero.
  pub times_zero : (x : W) → a.times x a.zero ≡ a.zero
  -- The order of two gathered weights does not matter.
  pub gather_comm : (m : ℕ) → a.has m ≡ true → (x y : W) → a.gather m x y ≡ a.gather m y x
  -- The grouping of three gathered weights does not matter.
  pub gather_assoc : (m : ℕ) → a.has m ≡ true → (x y z : W) → a.gather m (a.gather m x y) z ≡ a.gather m x (a.gather m y z)
  -- Zero is neutral for each gather.
  pub gather_zero : (m : ℕ) → a.has m ≡ true → (x : W) → a.gather m x a.zero ≡ x
  -- The product distributes over each gather.
  pub times_gather : (m : ℕ) → a.has m ≡ true → (x y z : W) → a.times x (a.gather m y z) ≡ a.gather m (a.times x y) (a.times x z)
  -- Zero and one are different weights.
  pub zero_not_one : a.zero ≡ a.one → ⊥
  -- A code fits 56 bits.
  pub code_below : (w : W) → a.code w < 2 ^ 56
  -- The code of a weight stands for that weight.
  pub decode_code : (w : W) → a.decode (a.code w) ≡ Some w
  -- A number that stands for a weight is its code, so a weight has only one.
  pub code_decode : (c : ℕ) (w : W) → a.decode c ≡ Some w → a.code w ≡ c
  -- Every reckoning has a gather of mark 1.
  pub has_first : a.has 1 ≡ true
  -- A gather has mark 1 or mark 2.
  pub marks : (m : ℕ) → a.has m ≡ true → (m ≡ 1) ⊎ (m ≡ 2)
