-- The weight that a card gives to a combination.
use Rattle.std.specs.Prelude.{ℕ, Bool, cond, List, [], ◌∷◌, Some, None, Option, nat_eq}
use Rattle.std.specs.Cmp.Lexicographic.{pointwise}
use Rattle.std.specs.Option.{unwrap_or}
use Rattle.reckoning.specs.Algebra.{Algebra}
use Rattle.sheet.specs.Syntax.{Row, Card}

-- Whether two lists of numbers are the same.
abbrev pub same : List ℕ → List ℕ → Bool
same us vs = pointwise nat_eq us vs

-- The code of the row with these values, if there is one.
unfoldable pub lookup : List ℕ → List Row → Option ℕ
lookup values [] = None
lookup values (r ∷ rs) = cond (same values r.values) (Some r.code) (lookup values rs)

-- The weight that a looked-up code stands for: zero where there is no row.
abbrev pub weight_of : {W : Type 0} → Algebra W → Option ℕ → W
weight_of a None = a.zero
weight_of a (Some code) = unwrap_or (a.decode code) a.zero

-- The weight of a card at a value for each of its slots.
abbrev pub weight : {W : Type 0} → Algebra W → Card → List ℕ → W
weight a c values = weight_of a (lookup values c.rows)
