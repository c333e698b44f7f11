-- The numbers of a card's slots and the mask of them say the same, and pick the same sizes.
use Rattle.std.proofs.Common.{◌≡◌, ℕ, zero, suc, ◌+◌, ◌-◌, ◌*◌, ◌/◌, ◌%◌, ◌^◌, ◌<◌, ◌≤◌, Bool, true, false, not, eqb, List, [], ◌∷◌, map, length, get_or, drop, refl, ◌∙◌, subst, inl, inr, pow-suc, sub-one, one-add, arith, lit<, drop-cons}
use Rattle.std.proofs.lemmas.List.FromFn.{get_or-range_with_len}
use Rattle.std.proofs.lemmas.List.{get_or_past, drop_all, length-set}
use Rattle.std.proofs.lemmas.Bool.{and_parts, and_from, not-true, ltb-true, lt-ltb, eqb-false, cases_lt, cases_eq}
use Rattle.sheet.specs.declared.item.Slot.{Slot}
use Rattle.sheet.specs.Order.{rising}
use Rattle.sheet.specs.Scope.{picked, slot_numbers, scope_of, mask_of, mask_in, size_in, all_there, declare, declare_all}

-- rising slot numbers among the left ones after k, and the mask of them in which bit 0 stands for the first of these
pub data Masked : ℕ → ℕ → List ℕ → ℕ → Type 0 where
  none : {k : ℕ} → Masked k 0 [] 0
  skip : {k left m : ℕ} {ns : List ℕ} → Masked (suc k) left ns m → Masked k (suc left) ns (m * 2)
  pick : {k left m : ℕ} {ns : List ℕ} → Masked (suc k) left ns m → Masked k (suc left) (suc k ∷ ns) (m * 2 + 1)

mask_shifted : {k left m : ℕ} {ns : List ℕ} → Masked k left ns m → mask_of ns ≡ m * 2 ^ k
unfolding mask_of
mask_shifted none = omega arith
mask_shifted (skip w) = let e = rw pow-suc at (mask_shifted w) in omega arith
mask_shifted (pick w) = let e = rw pow-suc at (mask_shifted w) in rw sub-one (omega arith)

picked_shifted : (xs : List ℕ) {k left m : ℕ} {ns : List ℕ} → Masked k left ns m → length xs ≡ k + left → picked m (drop k xs) ≡ map (size_in xs) ns
unfolding picked
picked_shifted xs (none {k}) e = rw (drop_all k xs (omega arith))
picked_shifted xs (skip {k} {m = m} w) e =
    let low : m * 2 % 2 ≡ 0 = omega arith in
    let rest : m * 2 / 2 ≡ m = omega arith in
    rw (drop-cons xs k 0 (omega arith), low, rest, picked_shifted xs w (omega arith))
picked_shifted xs (pick {k} {m = m} w) e =
    let low : (m * 2 + 1) % 2 ≡ 1 = omega arith in
    let rest : (m * 2 + 1) / 2 ≡ m = omega arith in
    rw (drop-cons xs k 0 (omega arith), low, rest, picked_shifted xs w (omega arith), sub-one)

numbers_named : {k left m : ℕ} {ns : List ℕ} → Masked k left ns m → k + left ≡ 12 → map (size_in slot_numbers) ns ≡ ns
numbers_named none e = refl
numbers_named (skip w) e = numbers_named w (omega arith)
numbers_named (pick {k} w) e =
    let here : get_or slot_numbers k 0 ≡ 1 + k = get_or-range_with_len 1 12 k 0 (omega arith) in
    rw (sub-one, numbers_named w (omega arith), here, one-add)

numbers_rise : {k left m : ℕ} {ns : List ℕ} → Masked k left ns m → (below : ℕ) → below ≤ k → rising below ns ≡ true
unfolding rising
numbers_rise none below h = refl
numbers_rise (skip w) below h = numbers_rise w below (omega arith)
numbers_rise (pick {k} w) below h = and_from _ _ (lt-ltb below (suc k) (omega arith)) (numbers_rise w (suc k) (omega arith))

mask_below : {k left m : ℕ} {ns : List ℕ} → Masked k left ns m → m < 2 ^ left
mask_below none = lit< tt
mask_below (skip w) = let h = mask_below w in rw pow-suc (omega arith)
mask_below (pick w) = let h = mask_below w in rw pow-suc (omega arith)

numbers_few : {k left m : ℕ} {ns : List ℕ} → Masked k left ns m → length ns ≤ left
numbers_few none = omega arith
numbers_few (skip w) = let h = numbers_few w in omega arith
numbers_few (pick w) = let h = numbers_few w in omega arith

-- every mask has its numbers
from_mask : (left k m : ℕ) → m < 2 ^ left → (ns : List ℕ) × Masked k left ns m
from_mask zero k m h = let e : 0 ≡ m = omega arith in ([], subst (Masked k 0 []) e none)
from_mask (suc left) k m h =
    let (ns, w) = from_mask left (suc k) (m / 2) (omega (arith, pow-suc 2 left)) in
    elim (cases_eq (m % 2) 1) [
      | inl odd ↦ (suc k ∷ ns, subst (Masked k (suc left) (suc k ∷ ns)) (omega arith) (pick w))
      | inr even ↦ (ns, subst (Masked k (suc left) ns) (omega arith) (skip w))
    ]

slot_there : (sizes : List ℕ) (n : ℕ) → not (eqb (size_in sizes n) 0) ≡ true → n - 1 < length sizes
slot_there sizes n t = elim (cases_lt (n - 1) (length sizes)) [
  | inl h ↦ h
  | inr h ↦ absurd (eqb-false (size_in sizes n) 0 (not-true _ t) (get_or_past sizes (n - 1) 0 h))
]

-- rising numbers of slots that are there have a mask
from_numbers : (sizes : List ℕ) (left k : ℕ) (ns : List ℕ) → length sizes ≡ k + left → rising k ns ≡ true → all_there (map (size_in sizes) ns) ≡ true
    → (m : ℕ) × Masked k left ns m
unfolding rising
from_numbers sizes zero k [] e r t = (0, none)
from_numbers sizes zero k (n ∷ ns) e r t =
    let above = ltb-true k n (and_parts _ _ r).0 in
    let there = slot_there sizes n (and_parts _ _ t).0 in absurd (omega arith)
from_numbers sizes (suc left) k [] e r t = let (m, w) = from_numbers sizes left (suc k) [] (omega arith) refl refl in (m * 2, skip w)
from_numbers sizes (suc left) k (n ∷ ns) e r t =
    let above = ltb-true k n (and_parts _ _ r).0 in
    elim (cases_lt (suc k) n) [
      | inl h ↦ let (m, w) = from_numbers sizes left (suc k) (n ∷ ns) (omega arith) (and_from _ _ (lt-ltb _ _ h) (and_parts _ _ r).1) t in (m * 2, skip w)
      | inr h ↦
          let here : suc k ≡ n = omega arith in
          let (m, w) = from_numbers sizes left (suc k) ns (omega arith) (rw here (and_parts _ _ r).1) (and_parts _ _ t).1 in
          subst (λ x. (m : ℕ) × Masked k (suc left) (x ∷ ns) m) here (m * 2 + 1, pick w)
    ]

-- the slots of a card and the mask of them
abbrev pub SlotsMasked : List ℕ → ℕ → Type 0
SlotsMasked = Masked 0 12

module _ {scope : List ℕ} {mask : ℕ} (w : SlotsMasked scope mask) where
  pub mask_again : mask_of scope ≡ mask
  mask_again = let e = mask_shifted w in omega arith

  pub scope_again : scope_of mask ≡ scope
  scope_again = picked_shifted slot_numbers w refl ∙ numbers_named w refl

  pub sizes_picked : (sizes : List ℕ) → length sizes ≡ 12 → picked mask sizes ≡ map (size_in sizes) scope
  sizes_picked sizes twelve = picked_shifted sizes w twelve

  pub scope_rises : rising 0 scope ≡ true
  scope_rises = numbers_rise w 0 (omega arith)

  pub mask_fits : mask < 2 ^ 12
  mask_fits = mask_below w

  pub scope_few : length scope ≤ 12
  scope_few = numbers_few w

pub slots_of_mask : (mask : ℕ) → mask < 2 ^ 12 → SlotsMasked (scope_of mask) mask
slots_of_mask mask h = let (ns, w) = from_mask 12 0 mask h in rw (scope_again w) w

pub mask_of_slots : (sizes scope : List ℕ) → length sizes ≡ 12 → rising 0 scope ≡ true → all_there (map (size_in sizes) scope) ≡ true → SlotsMasked scope (mask_of scope)
mask_of_slots sizes scope twelve rises there = let (m, w) = from_numbers sizes 12 0 scope twelve rises there in rw (mask_again w) w

-- the slots that are there are all there
pub all_there_exactly : (sizes : List ℕ) → all_there (picked (mask_in sizes) sizes) ≡ true
unfolding picked mask_in
all_there_exactly [] = refl
all_there_exactly (size ∷ sizes) = by (eqb size 0) refl (all_there_exactly sizes)
  where
    by : (missing : Bool) → eqb size 0 ≡ missing → all_there (picked (mask_in sizes) sizes) ≡ true → all_there (picked (mask_in (size ∷ sizes)) (size ∷ sizes)) ≡ true
    by true e others =
        let bit : (0 + 2 * mask_in sizes) % 2 ≡ 0 = omega arith in
        let rest : (0 + 2 * mask_in sizes) / 2 ≡ mask_in sizes = omega arith in
        rw (e, bit, rest) others
    by false e others =
        let bit : (1 + 2 * mask_in sizes) % 2 ≡ 1 = omega arith in
        let rest : (1 + 2 * mask_in sizes) / 2 ≡ mask_in sizes = omega arith in
        rw (e, bit, rest, e) others

pub length_declared : (sizes : List ℕ) (slots : List Slot) → length (declare_all sizes slots) ≡ length sizes
unfolding declare_all
length_declared sizes [] = refl
length_declared sizes (s ∷ ss) = length_declared (declare sizes s) ss ∙ length-set sizes (s.number - 1) s.size
