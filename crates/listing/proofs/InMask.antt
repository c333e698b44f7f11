-- One slot more of a mask: the slots so far, and those in the rest of the mask, are the slots in the mask.
use Rattle.std.proofs.Common.{◌≡◌, ℕ, ◌+◌, ◌-◌, ◌/◌, ◌%◌, ◌≤◌, List, [], ◌∷◌, ◌++◌, get_or, drop, suc, append_assoc, arith, drop-cons, ne_eqb}
use Rattle.std.proofs.lemmas.List.FromFn.{get_or-range_with_len}
use Rattle.sheet.specs.Scope.{picked, slot_numbers}

slots_from : (n : ℕ) → 1 ≤ n → n ≤ 12 → drop (n - 1) slot_numbers ≡ n ∷ drop (n + 1 - 1) slot_numbers
slots_from n first last =
    let at : get_or slot_numbers (n - 1) 0 ≡ 1 + (n - 1) = get_or-range_with_len 1 12 (n - 1) 0 (omega arith) in
    let here : get_or slot_numbers (n - 1) 0 ≡ n = omega arith in
    let behind : suc (n - 1) ≡ n + 1 - 1 = omega arith in
    let split = drop-cons slot_numbers (n - 1) 0 (omega arith) in
    cc

module _ (done total : List ℕ) (n mask : ℕ) (first : 1 ≤ n) (last : n ≤ 12) (h : done ++ picked mask (drop (n - 1) slot_numbers) ≡ total) where
  pub slot_in : mask % 2 ≡ 1 → (done ++ n ∷ []) ++ picked (mask / 2) (drop (n + 1 - 1) slot_numbers) ≡ total
  unfolding picked
  slot_in odd = rw append_assoc (rw (slots_from n first last, odd) at h)

  pub slot_out : (mask % 2 ≡ 1 → ⊥) → done ++ picked (mask / 2) (drop (n + 1 - 1) slot_numbers) ≡ total
  unfolding picked
  slot_out even = rw (slots_from n first last, ne_eqb _ _ even) at h
