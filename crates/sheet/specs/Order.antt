-- The order of rows, and of slot numbers.
use Rattle.std.specs.Prelude.{ℕ, Bool, true, false, ◌&&◌, ◌||◌, List, [], ◌∷◌, Some, None, Option, ◌==◌, nat_lt}

-- Whether the values us come before the values vs, compared value by value from the first.
unfoldable pub before : List ℕ → List ℕ → Bool
before [] vs = false
before (u ∷ us) [] = false
before (u ∷ us) (v ∷ vs) = nat_lt u v || (u == v && before us vs)

-- Whether a row with the values vs may follow the row before it, if there is one.
abbrev pub follows : Option (List ℕ) → List ℕ → Bool
follows None vs = true
follows (Some us) vs = before us vs

-- Whether numbers rise strictly, and all exceed n.
unfoldable pub rising : ℕ → List ℕ → Bool
rising n [] = true
rising n (m ∷ ms) = nat_lt n m && rising m ms
