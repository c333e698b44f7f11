-- What a reading without a fault has passed: each step of it gave a value.
use Rattle.std.proofs.Common.{◌≡◌, ℕ, Bool, true, false, cond, Ok, Err, Result, sym, refl, arith}
use Rattle.sheet.specs.Reading.{Entry, Reading, item, on_read, hand, Built, put, built}

pub fault_not_ok : {A F : Type 0} {f : F} {y : A} → Err f ≡ Ok y → ⊥
fault_not_ok e = let z : ◌≡◌ {A = ℕ} 0 1 = cc in omega arith

pub ok_same : {A F : Type 0} {x y : A} → ◌≡◌ {A = Result A F} (Ok x) (Ok y) → x ≡ y
ok_same e = cc

pub cond_passed : {A F : Type 0} (b : Bool) (r : Result A F) (f : F) (y : A) → cond b r (Err f) ≡ Ok y → (b ≡ true) × (r ≡ Ok y)
cond_passed true r f y e = (refl, e)
cond_passed false r f y e = absurd (fault_not_ok e)

module _ {A E F : Type 0} (rise : E → F) where
  pub on_read_passed : {B : Type 0} (r : Result A E) (next : A → Result B F) (y : B) → on_read rise r next ≡ Ok y → (x : A) × (r ≡ Ok x) × (next x ≡ Ok y)
  on_read_passed (Ok x) next y e = (x, refl, e)
  on_read_passed (Err f) next y e = absurd (fault_not_ok e)

  pub hand_passed : (r : Result A E) (next : A → Reading F) (b : Built) → built (hand rise r next) ≡ Ok b → (x : A) × (r ≡ Ok x) × (built (next x) ≡ Ok b)
  unfolding built
  hand_passed (Ok x) next b e = (x, refl, e)
  hand_passed (Err f) next b e = absurd (fault_not_ok e)

pub item_passed : {F : Type 0} (e : Entry) (r : Reading F) (b : Built) → built (item e r) ≡ Ok b → (after : Built) × (built r ≡ Ok after) × (b ≡ put e after)
unfolding built
item_passed e r b made =
    let (after, read, same) = on_read_passed (λ f. f) (built r) (λ b. Ok (put e b)) b made in
    (after, read, sym (ok_same same))
