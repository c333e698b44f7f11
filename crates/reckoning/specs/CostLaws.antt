-- The reckoning Cost obeys the laws.
use Rattle.std.specs.Prelude.{refl}
use Rattle.std.proofs.Common.{ap, arith}
use Rattle.reckoning.specs.CodesLemmas.{from_code_of, code_of_from}
use Rattle.reckoning.specs.Cost.{cost_algebra}
use Rattle.reckoning.specs.Laws.{Laws}
use Rattle.reckoning.specs.Marks.{first}
use Rattle.reckoning.specs.Weights as weights

pub cost_laws : Laws cost_algebra
cost_laws = record {
  times_comm = weights.sum_comm;
  times_assoc = weights.sum_assoc;
  times_one = weights.sum_zero;
  times_zero = weights.sum_largest;
  gather_comm = λ _ _. weights.lesser_comm;
  gather_assoc = λ _ _. weights.lesser_assoc;
  gather_zero = λ _ _. weights.lesser_largest;
  times_gather = λ _ _. weights.sum_lesser;
  zero_not_one = λ e. omega (arith, ap (λ w. w.value) e);
  code_below = λ w. w.within;
  decode_code = from_code_of;
  code_decode = code_of_from;
  has_first = refl;
  marks = first;
}
