-- One step of the loops over the sizes of slots.
use Rattle.std.proofs.Common.{◌≡◌, ℕ, ◌+◌, ◌*◌, ◌/◌, ◌%◌, ◌<◌, List, [], ◌∷◌, ◌++◌, length, get_or, drop, append_assoc, mul_assoc, mul-zero, mul-one, mul-add, add-one, arith, drop-cons, ne_eqb}
use Rattle.sheet.specs.Scope.{picked, mask_in}

module _ (xs : List ℕ) (i : ℕ) (within : i < length xs) where
  front : drop i xs ≡ get_or xs i 0 ∷ drop (i + 1) xs
  front = rw (add-one, drop-cons xs i 0 within)

  module _ (chosen : List ℕ) (mask : ℕ) (total : List ℕ) (so_far : chosen ++ picked mask (drop i xs) ≡ total) where
    pub picked_with : mask % 2 ≡ 1 → (next : List ℕ) → next ≡ chosen ++ get_or xs i 0 ∷ [] → next ++ picked (mask / 2) (drop (i + 1) xs) ≡ total
    unfolding picked
    picked_with odd next e = rw (e, append_assoc) (rw (front, odd) at so_far)

    pub picked_without : (mask % 2 ≡ 1 → ⊥) → chosen ++ picked (mask / 2) (drop (i + 1) xs) ≡ total
    unfolding picked
    picked_without even = rw (front, ne_eqb _ _ even) at so_far

  mask_in_there : (get_or xs i 0 ≡ 0 → ⊥) → mask_in (drop i xs) ≡ 1 + 2 * mask_in (drop (i + 1) xs)
  unfolding mask_in
  mask_in_there ne = rw (front, ne_eqb _ _ ne)

  mask_in_not : get_or xs i 0 ≡ 0 → mask_in (drop i xs) ≡ 0 + 2 * mask_in (drop (i + 1) xs)
  unfolding mask_in
  mask_in_not e = rw (front, e)

  module _ (mask bit total : ℕ) (so_far : mask + bit * mask_in (drop i xs) ≡ total) (next : ℕ) where
    pub mask_with : (get_or xs i 0 ≡ 0 → ⊥) → next ≡ mask + bit → next + bit * 2 * mask_in (drop (i + 1) xs) ≡ total
    mask_with ne e =
        let split = rw (mask_in_there ne, mul-add bit 1 (2 * mask_in (drop (i + 1) xs)), mul-one bit) at so_far in
        omega (arith, split, mul_assoc bit 2 (mask_in (drop (i + 1) xs)))

    pub mask_without : get_or xs i 0 ≡ 0 → next ≡ mask → next + bit * 2 * mask_in (drop (i + 1) xs) ≡ total
    mask_without z e =
        let split = rw (mask_in_not z, mul-add bit 0 (2 * mask_in (drop (i + 1) xs)), mul-zero bit) at so_far in
        omega (arith, split, mul_assoc bit 2 (mask_in (drop (i + 1) xs)))
