-- The values of a row, one after another.
use Rattle.std.proofs.Common.{◌≡◌, ℕ, ◌+◌, ◌<◌, ◌≤◌, Bool, true, false, cond, eqb, ltb, List, [], ◌∷◌, map, length, get_or, take, drop, IsErrAnd, Ok, Err, Result, refl, ap, ◌∙◌, add-one, drop_of_length-le, drop-cons, le-ltb, lt-ltb}
use Rattle.std.proofs.lemmas.Result.{err_from_is_err_and}
use Rattle.words.specs.declared.fault.WordFault.{WordFault}
use Rattle.words.specs.declared.fault.WordFault.TheVariants.{WrongKind}
use Rattle.words.specs.declared.layout.Kind.TheVariants.{Value}
use Rattle.words.specs.Layout.{load_due, kind_part, load_part}
use Rattle.faults.specs.declared.fault.CardFault.{CardFault}
use Rattle.faults.specs.declared.fault.CardFault.TheVariants.{Number}
use Rattle.faults.specs.Faults.{card_of_word}
use Rattle.sheet.specs.ReadCard.{values_at}
use Rattle.sheet.specs.Reading.{on_read, erased}

erased_push : {E : Type 0} (v : ℕ) (r : Result (List ℕ) E) → erased (on_read (λ f. f) r (λ vs. Ok (v ∷ vs))) ≡ erased r
erased_push v (Ok vs) = refl
erased_push v (Err f) = refl

module _ (dims : List ℕ) (i : ℕ) (place : ℕ) (ws : List ℕ) where
  module _ (within : i < length dims) where
    front : drop i dims ≡ get_or dims i 0 ∷ drop (i + 1) dims
    front = rw (add-one, drop-cons dims i 0 within)

    -- a value is read and is in range
    pub value_passed : {at : ℕ} {rest : List ℕ} → at ≡ place + 1 → rest ≡ drop 1 ws → (v : ℕ) → Ok v ≡ load_due Value place ws → v < get_or dims i 0
        → erased (values_at (drop i dims) place ws) ≡ erased (values_at (drop (i + 1) dims) at rest)
    unfolding values_at
    value_passed next behind v read h =
        rw (front, ← read, lt-ltb v (get_or dims i 0) h, erased_push v (values_at (drop (i + 1) dims) (place + 1) (drop 1 ws)), next, behind)

    -- a value is read and is out of range
    pub value_large : (v : ℕ) → Ok v ≡ load_due Value place ws → get_or dims i 0 ≤ v → erased (values_at (drop i dims) place ws) ≡ Err (Number place)
    unfolding values_at
    value_large v read h = rw (front, ← read, le-ltb v (get_or dims i 0) h)

    -- no value is read
    pub value_risen : (s : Result (Unit {0}) CardFault) {f : WordFault} → IsErrAnd s (λ y. y ≡ card_of_word f) → Err f ≡ load_due Value place ws
        → s ≡ erased (values_at (drop i dims) place ws)
    unfolding values_at
    value_risen s by read = rw (front, ← read) (let p = err_from_is_err_and s by in p.1 ∙ ap Err p.2)

  -- there is no further value
  pub values_none : length dims ≤ i → Ok tt ≡ erased (values_at (drop i dims) place ws)
  unfolding values_at
  values_none past = rw (drop_of_length-le dims past)

one_value : (v : ℕ) (t : Bool) (r : Result (List ℕ) CardFault) (bad : CardFault) (rest vs : List ℕ)
    → ((us : List ℕ) → r ≡ Ok us → us ≡ rest) → cond t (on_read (λ f. f) r (λ us. Ok (v ∷ us))) (Err bad) ≡ Ok vs → vs ≡ v ∷ rest
one_value v true (Ok us) bad rest vs ih e = let h = ih us refl in cc
one_value v true (Err f) bad rest vs ih e = cc
one_value v false r bad rest vs ih e = cc

-- the values that are read are the loads of the words
pub values_are : (dims : List ℕ) (place : ℕ) (ws vs : List ℕ) → values_at dims place ws ≡ Ok vs → vs ≡ map load_part (take (length dims) ws)
unfolding values_at load_due
values_are [] place ws vs e = cc
values_are (size ∷ dims) place [] vs e = cc
values_are (size ∷ dims) place (w ∷ ws) vs e =
    go (eqb (kind_part w) 4) (values_at dims (place + 1) ws) (values_are dims (place + 1) ws) e
  where
    go : (b : Bool) (r : Result (List ℕ) CardFault) → ((us : List ℕ) → r ≡ Ok us → us ≡ map load_part (take (length dims) ws))
        → on_read card_of_word (cond b (Ok (load_part w)) (Err (WrongKind place)))
        (λ v. cond (ltb v size) (on_read (λ f. f) r (λ us. Ok (v ∷ us))) (Err (Number place))) ≡ Ok vs
        → vs ≡ load_part w ∷ map load_part (take (length dims) ws)
    go true r ih e = one_value (load_part w) (ltb (load_part w) size) r (Number place) _ vs ih e
    go false r ih e = cc
