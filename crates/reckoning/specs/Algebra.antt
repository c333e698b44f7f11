-- What a reckoning means: weights with a product and with one or two sums, which are called gathers and told apart by a mark.
use Rattle.std.specs.Prelude.{ℕ, Bool, cond, Some, None, Option}

-- The weights of a reckoning with their codes, and how two weights are combined.
pub record Algebra (W : Type 0) : Type 0 where
  -- The weight of a combination that is not listed.
  pub zero : W
  -- The weight of a product of no factors.
  pub one : W
  -- The product of two weights.
  pub times : W → W → W
  -- Whether the reckoning has a gather of this mark.
  pub has : ℕ → Bool
  -- The gather of two weights by a mark that the reckoning has; by any other it means nothing.
  pub gather : ℕ → W → W → W
  -- The number that stands for a weight where weights are written down.
  pub code : W → ℕ
  -- The weight that a number stands for, or none.
  pub decode : ℕ → Option W

-- What gathering two weights by a mark answers: their gather, or none if the reckoning lacks the mark.
abbrev pub gathered : {W : Type 0} → Algebra W → ℕ → W → W → Option W
gathered a m x y = cond (a.has m) (Some (a.gather m x y)) None
