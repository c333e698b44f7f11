-- Two tables of a sheet are equal words if they give every combination the same weight, and the same table if they are equal words.
use Rattle.std.proofs.Common.{◌≡◌, ℕ, true, List, [], ◌∷◌, ◌++◌, map, length, Some, None, Option, sym, refl, ap, ◌∙◌, ap₂, ⊎_elim, append_assoc, arith}
use Rattle.std.proofs.lemmas.Bool.{and_parts, eqb-true}
use Rattle.words.specs.declared.layout.Kind.TheVariants as kind
use Rattle.words.specs.Layout.{word_of, high_part, low_part}
use Rattle.reckoning.specs.Algebra.{Algebra}
use Rattle.reckoning.specs.Laws.{Laws}
use Rattle.sheet.specs.Laws.{SameWeights, EqualTables}
use Rattle.sheet.specs.Loads.{card_load}
use Rattle.sheet.specs.Rules.{listed, exactly}
use Rattle.sheet.specs.Scope.{scope_of, mask_of, mask_in, no_sizes, size_in, sizes_of, open_slots}
use Rattle.sheet.specs.Syntax.{Row, Card, Sheet}
use Rattle.sheet.specs.Valid.{in_range, valid_rows, valid_table}
use Rattle.sheet.specs.Weight.{lookup, weight_of}
use Rattle.sheet.specs.Written.{card_words, rows_words, table_words}
use Rattle.sheet.proofs.RowOrder.{before_or_same_or_after, cases_same, in_range_length, FirstValid, first_valid, lookup_first, lookup_rest, lookup_none_before, lookup_none_after}
use Rattle.sheet.proofs.ScopesLaws.{scope_again, mask_of_slots, length_declared}
use Rattle.sheet.proofs.ValidParts.{card_parts, listed_code, listed_not_zero}

same_row : (r q : Row) → r.values ≡ q.values → r.code ≡ q.code → r ≡ q
same_row r q values code = λ i. record { values = values i; code = code i }

module _ {W : Type 0} {a : Algebra W} (laws : Laws a) where
  module _ (dims : List ℕ) where
    -- two lists of rows give the same weight to all values in range
    abbrev pub Agree : List Row → List Row → Type 0
    Agree rs qs = (vs : List ℕ) → in_range dims vs ≡ true → weight_of a (lookup vs rs) ≡ weight_of a (lookup vs qs)

    -- rows that agree with other rows have no first row that these lack
    no_row_more : (previous : Option (List ℕ)) (r : Row) (rs qs : List Row) → FirstValid a dims previous r rs → Agree (r ∷ rs) qs → lookup r.values qs ≡ None → ⊥
    no_row_more previous r rs qs v agree none =
        listed_not_zero laws r.code v.coded (ap (weight_of a) (sym (lookup_first r.values r rs refl)) ∙ agree r.values v.ranged ∙ ap (weight_of a) none)

    -- where the first rows have the same values, they have the same code, and the other rows agree
    module _ (r q : Row) (rs qs : List Row) (equal : r.values ≡ q.values) (agree : Agree (r ∷ rs) (q ∷ qs)) where
      same_code : in_range dims r.values ≡ true → listed a r.code ≡ true → listed a q.code ≡ true → r.code ≡ q.code
      same_code range l m =
          let weights = ap (weight_of a) (sym (lookup_first r.values r rs refl)) ∙ agree r.values range ∙ ap (weight_of a) (lookup_first r.values q qs equal) in
          sym (listed_code laws r.code l) ∙ ap a.code weights ∙ listed_code laws q.code m

      rest_agree : valid_rows a dims (Some r.values) rs ≡ true → valid_rows a dims (Some q.values) qs ≡ true → Agree rs qs
      rest_agree v w vs range =
          ⊎_elim
          (λ first.
          let none = ap (λ us. lookup us rs) first ∙ lookup_none_after a dims r.values rs v in
          let none' = ap (λ us. lookup us qs) (first ∙ equal) ∙ lookup_none_after a dims q.values qs w in
          ap (weight_of a) (none ∙ sym none'))
          (λ other. ap (weight_of a) (sym (lookup_rest vs r rs other)) ∙ agree vs range ∙ ap (weight_of a) (lookup_rest vs q qs (λ e. other (e ∙ sym equal))))
          (cases_same vs r.values)

    -- valid rows are the only ones that give their weights
    pub same_rows : (previous previous' : Option (List ℕ)) (rs qs : List Row) → valid_rows a dims previous rs ≡ true → valid_rows a dims previous' qs ≡ true → Agree rs qs → rs ≡ qs
    unfolding lookup
    same_rows previous previous' [] [] v w agree = refl
    same_rows previous previous' [] (q ∷ qs) v w agree = absurd (no_row_more previous' q qs [] (first_valid a dims previous' q qs w) (λ vs range. sym (agree vs range)) refl)
    same_rows previous previous' (r ∷ rs) [] v w agree = absurd (no_row_more previous r rs [] (first_valid a dims previous r rs v) agree refl)
    same_rows previous previous' (r ∷ rs) (q ∷ qs) v w agree =
        let p = first_valid a dims previous r rs v in
        let p' = first_valid a dims previous' q qs w in
        ⊎_elim
        (λ first. absurd (no_row_more previous r rs (q ∷ qs) p agree (lookup_none_before a dims previous' r.values q qs w first)))
        (⊎_elim
        (λ equal.
        let code = same_code r q rs qs equal agree p.ranged p.coded p'.coded in
        ap₂ ◌∷◌ (same_row r q equal code) (same_rows (Some r.values) (Some q.values) rs qs p.rest p'.rest (rest_agree r q rs qs equal agree p.rest p'.rest)))
        (λ last. absurd (no_row_more previous' q qs (r ∷ rs) p' (λ vs range. sym (agree vs range)) (lookup_none_before a dims previous q.values r rs v last))))
        (before_or_same_or_after r.values q.values (in_range_length dims r.values p.ranged ∙ sym (in_range_length dims q.values p'.ranged)))

-- words of values with other words behind them: as many values, and the same words, are the same values
same_values : (us vs xs ys : List ℕ) → length us ≡ length vs → map (word_of kind.Value) us ++ xs ≡ map (word_of kind.Value) vs ++ ys → (us ≡ vs) × (xs ≡ ys)
same_values [] [] xs ys l e = (refl, e)
same_values [] (v ∷ vs) xs ys l e = absurd (omega arith)
same_values (u ∷ us) [] xs ys l e = absurd (omega arith)
same_values (u ∷ us) (v ∷ vs) xs ys l e =
    let first : word_of kind.Value u ≡ word_of kind.Value v = cc in
    let (rest, behind) = same_values us vs xs ys (omega arith) (cc) in
    (ap₂ ◌∷◌ (omega arith) rest, behind)

words_from_row : (r : Row) (rs : List Row) (xs : List ℕ) → rows_words (r ∷ rs) ++ xs ≡ map (word_of kind.Value) r.values ++ (word_of kind.High (high_part r.code) ∷ word_of kind.Low (low_part r.code) ∷ (rows_words rs ++ xs))
unfolding rows_words
words_from_row r rs xs = simp append_assoc

-- the first word of a table, and its last
abbrev card_word : Card → ℕ
card_word c = word_of kind.Card (card_load (record { scope = mask_of c.scope; rows = length c.rows }))

abbrev end_word : Card → List ℕ
end_word c = word_of kind.End (length (card_words c)) ∷ []

module _ {W : Type 0} (a : Algebra W) where
  -- as many rows, and the same words, are the same rows
  same_row_words : (dims : List ℕ) (previous previous' : Option (List ℕ)) (rs qs : List Row) (xs ys : List ℕ) → length rs ≡ length qs → valid_rows a dims previous rs ≡ true → valid_rows a dims previous' qs ≡ true → rows_words rs ++ xs ≡ rows_words qs ++ ys → rs ≡ qs
  unfolding rows_words
  same_row_words dims previous previous' [] [] xs ys l v w e = refl
  same_row_words dims previous previous' [] (q ∷ qs) xs ys l v w e = absurd (omega arith)
  same_row_words dims previous previous' (r ∷ rs) [] xs ys l v w e = absurd (omega arith)
  same_row_words dims previous previous' (r ∷ rs) (q ∷ qs) xs ys l v w e =
      let p = first_valid a dims previous r rs v in
      let p' = first_valid a dims previous' q qs w in
      let lengths = in_range_length dims r.values p.ranged ∙ sym (in_range_length dims q.values p'.ranged) in
      let (values, behind) = same_values r.values q.values _ _ lengths (sym (words_from_row r rs xs) ∙ e ∙ words_from_row q qs ys) in
      let high : word_of kind.High (high_part r.code) ≡ word_of kind.High (high_part q.code) = cc in
      let low : word_of kind.Low (low_part r.code) ≡ word_of kind.Low (low_part q.code) = cc in
      ap₂ ◌∷◌ (same_row r q values (omega arith)) (same_row_words dims (Some r.values) (Some q.values) rs qs xs ys (omega arith) p.rest p'.rest (cc))

  -- what is used of a valid table
  module _ (s : Sheet) (t : Card) (v : valid_table a s t ≡ true) where
    abbrev sizes : List ℕ
    sizes = sizes_of (open_slots s.slots)

    table_scope : t.scope ≡ scope_of (mask_in sizes)
    table_scope =
        let parts = card_parts a (exactly sizes) sizes t v in
        let masked = mask_of_slots sizes t.scope (length_declared no_sizes (open_slots s.slots)) parts.rises parts.there in
        sym (scope_again masked) ∙ ap scope_of (eqb-true _ _ (and_parts _ _ parts.fits).0)

    table_rows : valid_rows a (map (size_in sizes) t.scope) None t.rows ≡ true
    table_rows = (card_parts a (exactly sizes) sizes t v).rowed

  module _ (s : Sheet) (t u : Card) (v : valid_table a s t ≡ true) (w : valid_table a s u ≡ true) where
    same_scopes : t.scope ≡ u.scope
    same_scopes = table_scope s t v ∙ sym (table_scope s u w)

    from_rows : t.rows ≡ u.rows → t ≡ u
    from_rows rows = λ i. record { scope = same_scopes i; rows = rows i }

    pub same_weights : Laws a → SameWeights a s t u → t ≡ u
    same_weights laws weights = from_rows (same_rows laws _ None None t.rows u.rows (table_rows s t v) (rw same_scopes (table_rows s u w)) weights)

    pub same_words : table_words t ≡ table_words u → t ≡ u
    same_words words =
        let head : card_word t ≡ card_word u = cc in
        let masks = ap mask_of same_scopes in
        let behind : rows_words t.rows ++ end_word t ≡ rows_words u.rows ++ end_word u = cc in
        from_rows (same_row_words _ None None t.rows u.rows _ _ (omega arith) (table_rows s t v) (rw same_scopes (table_rows s u w)) behind)

pub equal_tables : {W : Type 0} (a : Algebra W) → Laws a → EqualTables a
equal_tables a laws s t u v w weights = ap table_words (same_weights a s t u v w laws weights)
