-- The reckoning Count obeys the laws.
use Rattle.std.specs.Prelude.{◌≡◌, refl}
use Rattle.std.proofs.Common.{ap, arith}
use Rattle.reckoning.specs.CodesLemmas.{from_code_of, code_of_from}
use Rattle.reckoning.specs.Count.{count_algebra}
use Rattle.reckoning.specs.CountReckoningLemmas.{by_mark}
use Rattle.reckoning.specs.Cut.{cut, cut_product}
use Rattle.reckoning.specs.Laws.{Laws}
use Rattle.reckoning.specs.Marks.{first_or_second}
use Rattle.reckoning.specs.Weights as weights
use Rattle.reckoning.specs.declared.weight.Capped.{Capped}

pub count_laws : Laws count_algebra
count_laws = record {
  times_comm = weights.product_comm;
  times_assoc = weights.product_assoc;
  times_one = weights.product_one;
  times_zero = weights.product_zero;
  gather_comm = λ m _. by_mark m (λ g. (x y : Capped) → g x y ≡ g y x) weights.sum_comm weights.greater_comm;
  gather_assoc = λ m _. by_mark m (λ g. (x y z : Capped) → g (g x y) z ≡ g x (g y z)) weights.sum_assoc weights.greater_assoc;
  gather_zero = λ m _. by_mark m (λ g. (x : Capped) → g x (cut 0) ≡ x) weights.sum_zero weights.greater_zero;
  times_gather = λ m _. by_mark m (λ g. (x y z : Capped) → cut_product x (g y z) ≡ g (cut_product x y) (cut_product x z)) weights.product_sum weights.product_greater;
  zero_not_one = λ e. omega (arith, ap (λ w. w.value) e);
  code_below = λ w. w.within;
  decode_code = from_code_of;
  code_decode = code_of_from;
  has_first = refl;
  marks = first_or_second;
}
