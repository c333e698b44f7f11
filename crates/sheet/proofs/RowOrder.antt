-- Values of one length are strictly and totally ordered, and valid rows have no values from before their first row.
use Rattle.std.proofs.Common.{◌≡◌, ℕ, suc, ◌<◌, true, false, ◌⊎◌, List, [], ◌∷◌, length, Some, None, Option, sym, refl, ap, ◌∙◌, ap₂, inl, inr, ⊎_elim, arith}
use Rattle.std.proofs.lemmas.Bool.{false≢true, both_ways, ltb-true, eqb-true, lt-ltb, eq-eqb, and_parts, and_from, or_cases, or_left, or_right, cases_order, cases_Bool, cond-true, cond-false}
use Rattle.std.specs.Cmp.Lexicographic.{same_text, nat_list_eq_equiv}
use Rattle.reckoning.specs.Algebra.{Algebra}
use Rattle.sheet.specs.Order.{before, follows}
use Rattle.sheet.specs.Rules.{listed}
use Rattle.sheet.specs.Syntax.{Row}
use Rattle.sheet.specs.Valid.{in_range, valid_rows}
use Rattle.sheet.specs.Weight.{same, lookup}

pub same_true : (us vs : List ℕ) → same us vs ≡ true → us ≡ vs
same_true us vs e = same_text us vs (sym e)

pub same_refl : (us : List ℕ) → same us us ≡ true
same_refl us = nat_list_eq_equiv.refl us

pub same_false : (us vs : List ℕ) → (us ≡ vs → ⊥) → same us vs ≡ false
same_false us vs differ = ⊎_elim (λ e. absurd (differ (same_true us vs e))) (λ e. e) (cases_Bool (same us vs))

pub cases_same : (us vs : List ℕ) → (us ≡ vs) ⊎ (us ≡ vs → ⊥)
cases_same us vs =
    ⊎_elim
    (λ e. inl (same_true us vs e))
    (λ e. inr (λ p. both_ways (same us vs) e (rw p (same_refl vs))))
    (cases_Bool (same us vs))

-- values come before others by the first value, or by the rest where the first values are equal
before_cases : (u v : ℕ) (us vs : List ℕ) → before (u ∷ us) (v ∷ vs) ≡ true → (u < v) ⊎ ((u ≡ v) × (before us vs ≡ true))
unfolding before
before_cases u v us vs e =
    ⊎_elim
    (λ less. inl (ltb-true u v less))
    (λ rest. let parts = and_parts _ _ rest in inr (eqb-true u v parts.0, parts.1))
    (or_cases _ _ e)

before_from : (u v : ℕ) (us vs : List ℕ) → (u < v) ⊎ ((u ≡ v) × (before us vs ≡ true)) → before (u ∷ us) (v ∷ vs) ≡ true
unfolding before
before_from u v us vs (inl less) = or_left _ _ (lt-ltb u v less)
before_from u v us vs (inr rest) = or_right _ _ (and_from _ _ (eq-eqb u v rest.0) rest.1)

pub before_irreflexive : (us : List ℕ) → before us us ≡ true → ⊥
unfolding before
before_irreflexive [] e = false≢true e
before_irreflexive (u ∷ us) e = ⊎_elim (λ less. omega arith) (λ rest. before_irreflexive us rest.1) (before_cases u u us us e)

pub before_transitive : (us vs ws : List ℕ) → before us vs ≡ true → before vs ws ≡ true → before us ws ≡ true
unfolding before
before_transitive [] vs ws p q = absurd (false≢true p)
before_transitive (u ∷ us) [] ws p q = absurd (false≢true p)
before_transitive (u ∷ us) (v ∷ vs) [] p q = absurd (false≢true q)
before_transitive (u ∷ us) (v ∷ vs) (w ∷ ws) p q =
    before_from u w us ws
    (⊎_elim
    (λ less. ⊎_elim (λ less'. inl (omega arith)) (λ rest'. inl (omega arith)) (before_cases v w vs ws q))
    (λ rest. ⊎_elim (λ less'. inl (omega arith)) (λ rest'. inr (rest.0 ∙ rest'.0, before_transitive us vs ws rest.1 rest'.1)) (before_cases v w vs ws q))
    (before_cases u v us vs p))

pub before_or_same_or_after : (us vs : List ℕ) → length us ≡ length vs → (before us vs ≡ true) ⊎ ((us ≡ vs) ⊎ (before vs us ≡ true))
before_or_same_or_after [] [] l = inr (inl refl)
before_or_same_or_after [] (v ∷ vs) l = absurd (omega arith)
before_or_same_or_after (u ∷ us) [] l = absurd (omega arith)
before_or_same_or_after (u ∷ us) (v ∷ vs) l =
    ⊎_elim
    (λ equal.
    ⊎_elim
    (λ first. inl (before_from u v us vs (inr (equal, first))))
    (⊎_elim (λ rest. inr (inl (ap₂ ◌∷◌ equal rest))) (λ last. inr (inr (before_from v u vs us (inr (sym equal, last))))))
    (before_or_same_or_after us vs (omega arith)))
    (⊎_elim (λ less. inl (before_from u v us vs (inl less))) (λ more. inr (inr (before_from v u vs us (inl more)))))
    (cases_order u v)

-- values in range are as many as the slots
pub in_range_length : (dims vs : List ℕ) → in_range dims vs ≡ true → length vs ≡ length dims
unfolding in_range
in_range_length [] [] e = refl
in_range_length [] (v ∷ vs) e = absurd (false≢true e)
in_range_length (d ∷ dims) [] e = absurd (false≢true e)
in_range_length (d ∷ dims) (v ∷ vs) e = ap suc (in_range_length dims vs (and_parts _ _ e).1)

-- the first row answers for its own values, and the rest for all others
pub lookup_first : (vs : List ℕ) (r : Row) (rs : List Row) → vs ≡ r.values → lookup vs (r ∷ rs) ≡ Some r.code
unfolding lookup
lookup_first vs r rs e = rw e (cond-true _ _ _ (same_refl r.values))

pub lookup_rest : (vs : List ℕ) (r : Row) (rs : List Row) → (vs ≡ r.values → ⊥) → lookup vs (r ∷ rs) ≡ lookup vs rs
unfolding lookup
lookup_rest vs r rs differ = cond-false _ _ _ (same_false vs r.values differ)

lookup_past : (vs : List ℕ) (r : Row) (rs : List Row) → before vs r.values ≡ true → lookup vs (r ∷ rs) ≡ lookup vs rs
lookup_past vs r rs b = lookup_rest vs r rs (λ e. before_irreflexive r.values (rw e at b))

module _ {W : Type 0} (a : Algebra W) (dims : List ℕ) where
  -- what is known of valid rows by their first row
  pub record FirstValid (previous : Option (List ℕ)) (r : Row) (rs : List Row) : Type 0 where
    pub ranged : in_range dims r.values ≡ true
    pub after : follows previous r.values ≡ true
    pub coded : listed a r.code ≡ true
    pub rest : valid_rows a dims (Some r.values) rs ≡ true

  pub first_valid : (previous : Option (List ℕ)) (r : Row) (rs : List Row) → valid_rows a dims previous (r ∷ rs) ≡ true → FirstValid previous r rs
  unfolding valid_rows
  first_valid previous r rs e =
      let p = and_parts _ _ e in
      let q = and_parts _ _ p.0 in
      let f = and_parts _ _ q.0 in
      record { ranged = f.0; after = f.1; coded = q.1; rest = p.1 }

  -- no row has values that come before the first row's
  pub lookup_none_before : (previous : Option (List ℕ)) (vs : List ℕ) (r : Row) (rs : List Row) → valid_rows a dims previous (r ∷ rs) ≡ true → before vs r.values ≡ true → lookup vs (r ∷ rs) ≡ None
  unfolding lookup
  lookup_none_before previous vs r [] e b = lookup_past vs r [] b
  lookup_none_before previous vs r (q ∷ qs) e b =
      let v = (first_valid previous r (q ∷ qs) e).rest in
      lookup_past vs r (q ∷ qs) b
      ∙ lookup_none_before (Some r.values) vs q qs v (before_transitive vs r.values q.values b (first_valid (Some r.values) q qs v).after)

  -- no row has the values that all rows come after
  pub lookup_none_after : (vs : List ℕ) (rs : List Row) → valid_rows a dims (Some vs) rs ≡ true → lookup vs rs ≡ None
  unfolding lookup
  lookup_none_after vs [] e = refl
  lookup_none_after vs (r ∷ rs) e = lookup_none_before (Some vs) vs r rs e (first_valid (Some vs) r rs e).after
