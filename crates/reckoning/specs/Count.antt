-- The meaning of the reckoning Count.
use Rattle.std.specs.Prelude.{cond, ◌||◌, ◌==◌}
use Rattle.reckoning.specs.Algebra.{Algebra}
use Rattle.reckoning.specs.Codes.{code_of, from_code}
use Rattle.reckoning.specs.Cut.{cut, cut_sum, cut_product, greater}
use Rattle.reckoning.specs.declared.weight.Capped.{Capped}

-- A weight is a number of ways, the largest meaning that many or more; mark 1 (total) adds two weights, and mark 2 (most) takes the greater.
abbrev pub count_algebra : Algebra Capped
count_algebra = record {
  zero = cut 0;
  one = cut 1;
  times = cut_product;
  has = λ m. (m == 1) || (m == 2);
  gather = λ m. cond (m == 1) cut_sum greater;
  code = code_of;
  decode = from_code;
}
