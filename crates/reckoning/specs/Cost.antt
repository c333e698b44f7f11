-- The meaning of the reckoning Cost.
use Rattle.std.specs.Prelude.{◌==◌}
use Rattle.reckoning.specs.Algebra.{Algebra}
use Rattle.reckoning.specs.Codes.{code_of, from_code}
use Rattle.reckoning.specs.Cut.{cut, cut_sum, lesser, largest}
use Rattle.reckoning.specs.declared.weight.Capped.{Capped}

-- A weight is a price in cents, the largest meaning "not to be had"; a product adds two prices, and mark 1 (least) takes the lesser.
abbrev pub cost_algebra : Algebra Capped
cost_algebra = record {
  zero = cut largest;
  one = cut 0;
  times = cut_sum;
  has = λ m. (m == 1);
  gather = λ _. lesser;
  code = code_of;
  decode = from_code;
}
