-- A number of 56 bits is its own code, and stands for itself alone.
use Rattle.std.specs.Prelude.{◌≡◌, ℕ, ◌^◌, ◌<◌, ◌≤◌, min, Some, None}
use Rattle.std.proofs.Common.{ap, ◌∙◌, ⊎_elim, arith}
use Rattle.std.proofs.lemmas.Bool.{cases_lt, lt-ltb, le-ltb, cond-true, cond-false}
use Rattle.reckoning.specs.Codes.{code_of, from_code}
use Rattle.reckoning.specs.Cut.{cut, largest}
use Rattle.reckoning.specs.declared.weight.Capped.{Capped}
use Rattle.reckoning.specs.Equality.{cut_value}

-- a code of 56 bits
pub from_code_below : (c : ℕ) → c < 2 ^ 56 → from_code c ≡ Some (cut c)
from_code_below c h = cond-true _ _ _ (lt-ltb c (2 ^ 56) h)

-- a code of more
pub from_code_above : (c : ℕ) → 2 ^ 56 ≤ c → from_code c ≡ None
from_code_above c h = cond-false _ _ _ (le-ltb c (2 ^ 56) h)

pub from_code_of : (a : Capped) → from_code (code_of a) ≡ Some a
from_code_of a = from_code_below a.value a.within ∙ ap Some (cut_value a)

pub code_of_from : (c : ℕ) (a : Capped) → from_code c ≡ Some a → code_of a ≡ c
code_of_from c a e =
    ⊎_elim
    (λ below. let p = from_code_below c below in let q : cut c ≡ a = cc in let v : min c largest ≡ a.value = ap (λ w. w.value) q in omega arith)
    (λ above. let p = from_code_above c above in let z : ◌≡◌ {A = ℕ} 0 1 = cc in omega arith)
    (cases_lt c (2 ^ 56))
