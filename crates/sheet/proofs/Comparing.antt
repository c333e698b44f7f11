-- One step of the comparison of two rows, whose values f takes out of their words.
use Rattle.std.proofs.Common.{◌≡◌, ℕ, ◌+◌, ◌<◌, ◌≤◌, min, Bool, true, false, ltb, ◌||◌, List, ◌∷◌, map, length, get_or, drop, refl, add-one, arith, drop_of_length-le, drop-cons, ltb-false, ltb-true, le-ltb, eq-eqb, ne_eqb}
use Rattle.sheet.specs.Order.{before}

module _ (f : ℕ → ℕ) (us vs : List ℕ) (i : ℕ) where
  module _ (left : i < length us) (right : i < length vs) where
    us_front : drop i us ≡ get_or us i 0 ∷ drop (i + 1) us
    us_front = rw (add-one, drop-cons us i 0 left)

    vs_front : drop i vs ≡ get_or vs i 0 ∷ drop (i + 1) vs
    vs_front = rw (add-one, drop-cons vs i 0 right)

    -- two values differ: the lesser comes first
    pub differ_here : (f (get_or us i 0) ≡ f (get_or vs i 0) → ⊥) → before (map f (drop i us)) (map f (drop i vs)) ≡ ltb (f (get_or us i 0)) (f (get_or vs i 0))
    unfolding before
    differ_here ne = rw (us_front, vs_front, ne_eqb _ _ ne) (or_none (ltb (f (get_or us i 0)) (f (get_or vs i 0))))
      where
        or_none : (b : Bool) → b || false ≡ b
        or_none true = refl
        or_none false = refl

    pub same_here : f (get_or us i 0) ≡ f (get_or vs i 0) → before (map f (drop i us)) (map f (drop i vs)) ≡ before (map f (drop (i + 1) us)) (map f (drop (i + 1) vs))
    unfolding before
    same_here h = rw (us_front, vs_front, le-ltb (f (get_or us i 0)) (f (get_or vs i 0)) (omega (arith, h)), eq-eqb _ _ h)

  -- where one row has no more values, none comes before the other
  pub none_before : min (length us) (length vs) ≤ i → before (map f (drop i us)) (map f (drop i vs)) ≡ false
  unfolding before
  none_before h = go (ltb i (length us)) refl
    where
      go : (b : Bool) → ltb i (length us) ≡ b → before (map f (drop i us)) (map f (drop i vs)) ≡ false
      go true e =
          let long : i < length us = ltb-true i (length us) e in
          let past : length vs ≤ i = omega arith in
          rw (drop_of_length-le vs past, drop-cons us i 0 long)
      go false e = rw (drop_of_length-le us (ltb-false i (length us) e))
