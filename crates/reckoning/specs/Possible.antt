-- The meaning of the reckoning Possible.
use Rattle.std.specs.Prelude.{ℕ, Bool, true, false, cond, ◌&&◌, ◌||◌, Some, None, Option, ◌==◌}
use Rattle.reckoning.specs.Algebra.{Algebra}

-- The code 1 stands for possible, 0 for not possible, and any other number for no weight.
abbrev pub possible_from : ℕ → Option Bool
possible_from c = cond (c == 0) (Some false) (cond (c == 1) (Some true) None)

-- A weight says whether something is possible; a product is so if both factors are, and a gather by mark 1 (some) if either weight is.
abbrev pub possible_algebra : Algebra Bool
possible_algebra = record {
  zero = false;
  one = true;
  times = ◌&&◌;
  has = λ m. (m == 1);
  gather = λ _. ◌||◌;
  code = λ w. cond w 1 0;
  decode = possible_from;
}
