-- Valid rows that were written are read back, and rows that are read without a fault are the written form of valid rows, those that are read.
use Rattle.std.proofs.Common.{◌≡◌, ℕ, zero, suc, ◌+◌, ◌*◌, ◌≤◌, true, ltb, List, [], ◌∷◌, ◌++◌, map, length, take, drop, Some, Ok, Option, sym, refl, ap, ◌∙◌, append_assoc, add-zero, one-add, arith, length-append}
use Rattle.std.specs.List.{AllByRecursion}
use Rattle.std.proofs.lemmas.List.{drop_at, drop-drop, length-map}
use Rattle.std.proofs.lemmas.Bool.{and_parts, and_from, ltb-true}
use Rattle.words.specs.declared.layout.Kind.TheVariants as kind
use Rattle.words.specs.Layout.{load_due, load_part, word_of, code_of, high_part, low_part}
use Rattle.reckoning.specs.Algebra.{Algebra}
use Rattle.reckoning.specs.Laws.{Laws}
use Rattle.faults.specs.declared.fault.CardFault.{CardFault}
use Rattle.faults.specs.declared.fault.CardFault.TheVariants.{Number, Order, Code}
use Rattle.faults.specs.Faults.{card_of_word}
use Rattle.sheet.specs.Order.{follows}
use Rattle.sheet.specs.ReadCard.{values_at, code_at, row_at, rows_from}
use Rattle.sheet.specs.Reading.{Reading, row, Built, put, built}
use Rattle.sheet.specs.Rules.{listed}
use Rattle.sheet.specs.Syntax.{Row}
use Rattle.sheet.specs.Valid.{in_range, valid_rows}
use Rattle.sheet.specs.Written.{row_words, rows_words}
use Rattle.sheet.proofs.LoadsLaws.{due_back, due_written, code_again, high_fits, low_fits, high_of_code, low_of_code}
use Rattle.sheet.proofs.Passed.{ok_same, cond_passed, on_read_passed, hand_passed, item_passed}
use Rattle.sheet.proofs.RowOrder.{in_range_length, FirstValid, first_valid}
use Rattle.sheet.proofs.RowValues.{values_are}
use Rattle.sheet.proofs.ValidParts.{listed_fits}

-- sizes of slots whose values are loads
abbrev pub Small : List ℕ → Type 0
Small = AllByRecursion (λ size. size ≤ 256)

values_back : (dims values : List ℕ) (place : ℕ) (rest : List ℕ) → Small dims → in_range dims values ≡ true
    → values_at dims place (map (word_of kind.Value) values ++ rest) ≡ Ok values
unfolding values_at in_range
values_back [] [] place rest s h = refl
values_back [] (v ∷ vs) place rest s h = cc
values_back (size ∷ sizes) [] place rest s h = cc
values_back (size ∷ sizes) (v ∷ vs) place rest s h =
    let (fits, others) = and_parts _ _ h in
    let below = ltb-true v size fits in
    rw (due_back kind.Value place v _ (omega arith), fits, values_back sizes vs (place + 1) rest s.1 others)

values_written : (dims : List ℕ) (place : ℕ) (ws values : List ℕ) → values_at dims place ws ≡ Ok values
    → (in_range dims values ≡ true) × (ws ≡ map (word_of kind.Value) values ++ drop (length dims) ws)
unfolding values_at in_range
values_written [] place ws values e = rw (← ok_same e) (refl, refl)
values_written (size ∷ dims) place ws values e =
    let (v, due, e₁) = on_read_passed card_of_word (load_due kind.Value place ws) _ values e in
    let (fits, e₂) = cond_passed (ltb v size) _ (Number place) values e₁ in
    let (vs, read, e₃) = on_read_passed (λ f. f) (values_at dims (place + 1) (drop 1 ws)) _ values e₂ in
    let (ranged, words) = values_written dims (place + 1) (drop 1 ws) vs read in
    let word = (due_written kind.Value place ws v due).0 in
    let behind : drop (length dims) (drop 1 ws) ≡ drop (suc (length dims)) ws = rw (drop-drop (length dims) 1 ws, one-add) in
    rw (← ok_same e₃) (and_from _ _ fits ranged, word ∙ ap (λ rest. word_of kind.Value v ∷ rest) (words ∙ ap (λ rest. map (word_of kind.Value) vs ++ rest) behind))

-- a row's words are as many as its values and two
module _ (dims : List ℕ) (r : Row) (ranged : in_range dims r.values ≡ true) where
  pub values_long : length (map (word_of kind.Value) r.values) ≡ length dims
  values_long = length-map r.values (word_of kind.Value) ∙ in_range_length dims r.values ranged

  pub row_long : length (row_words r) ≡ length dims + 2
  row_long = rw (length-append, values_long)

pub rows_long : {W : Type 0} (a : Algebra W) (dims : List ℕ) (previous : Option (List ℕ)) (rows : List Row) → valid_rows a dims previous rows ≡ true
    → length (rows_words rows) ≡ length rows * (length dims + 2)
unfolding rows_words
rows_long a dims previous [] valid = omega arith
rows_long a dims previous (r ∷ rs) valid =
    let here = first_valid a dims previous r rs valid in
    rw (length-append, row_long dims r here.ranged, rows_long a dims (Some r.values) rs here.rest) (omega arith)

-- what was read as a row
pub record RowWritten {W : Type 0} (a : Algebra W) (dims : List ℕ) (previous : Option (List ℕ)) (ws : List ℕ) (r : Row) : Type 0 where
  pub ranged : in_range dims r.values ≡ true
  pub after : follows previous r.values ≡ true
  pub coded : listed a r.code ≡ true
  pub shown : map load_part (take (length dims) ws) ≡ r.values
  pub words : ws ≡ row_words r ++ drop (length dims + 2) ws

-- what was read as so many rows, and what comes next
pub record RowsWritten {W F : Type 0} (a : Algebra W) (dims : List ℕ) (previous : Option (List ℕ)) (next : ℕ → List ℕ → Reading F) (many place : ℕ) (ws : List ℕ) (b : Built) : Type 0 where
  pub rows : List Row
  pub rest : List ℕ
  pub after : Built
  pub words : ws ≡ rows_words rows ++ rest
  pub count : length rows ≡ many
  pub valid : valid_rows a dims previous rows ≡ true
  pub goes_on : built (next (place + length (rows_words rows)) rest) ≡ Ok after
  pub made : b ≡ record { rows = rows ++ after.rows; cards = after.cards; slots = after.slots }

module _ {W : Type 0} {a : Algebra W} (laws : Laws a) where
  code_back : (code place : ℕ) (rest : List ℕ) → listed a code ≡ true
      → code_at a place (word_of kind.High (high_part code) ∷ word_of kind.Low (low_part code) ∷ rest) ≡ Ok code
  unfolding code_at
  code_back code place rest h =
      rw (due_back kind.High place (high_part code) _ (high_fits code (listed_fits laws code h)), due_back kind.Low (place + 1) (low_part code) rest (low_fits code), code_again code, h)

  module _ (dims : List ℕ) (small : Small dims) where
    -- the values of a row, and what is shown of them
    module _ (r : Row) (ranged : in_range dims r.values ≡ true) (place : ℕ) (rest : List ℕ) where
      row_values : values_at dims place (row_words r ++ rest) ≡ Ok r.values
      row_values = rw append_assoc (values_back dims r.values place _ small ranged)

      row_shown : map load_part (take (length dims) (row_words r ++ rest)) ≡ r.values
      row_shown = sym (values_are dims place _ _ row_values)

    row_back : (previous : Option (List ℕ)) (r : Row) (rs : List Row) (place : ℕ) (rest : List ℕ) → FirstValid a dims previous r rs
        → row_at a dims previous place (row_words r ++ rest) ≡ Ok r
    unfolding row_at
    row_back previous r rs place rest here =
        rw (
          row_values r here.ranged place rest,
          here.after,
          append_assoc,
          drop_at _ _ (length dims) (values_long dims r here.ranged),
          code_back r.code (place + length dims) rest here.coded,
        )

    pub rows_back : {F : Type 0} (rise : CardFault → F) (previous : Option (List ℕ)) (rows : List Row) (place : ℕ) (rest : List ℕ)
        (next : ℕ → List ℕ → Reading F) (b : Built)
        → valid_rows a dims previous rows ≡ true → built (next (place + length (rows_words rows)) rest) ≡ Ok b
        → built (rows_from a rise (length rows) dims previous place (rows_words rows ++ rest) next)
        ≡ Ok (record { rows = rows ++ b.rows; cards = b.cards; slots = b.slots })
    unfolding rows_from rows_words built
    rows_back rise previous [] place rest next b valid after = rw add-zero at after
    rows_back rise previous (r ∷ rs) place rest next b valid after =
        let here = first_valid a dims previous r rs valid in
        let later = rows_words rs ++ rest in
        let places : place + length (row_words r ++ rows_words rs) ≡ place + length dims + 2 + length (rows_words rs) = rw (length-append, row_long dims r here.ranged) (omega arith) in
        rw (
          append_assoc (row_words r) (rows_words rs) rest,
          row_back previous r rs place later here,
          drop_at (row_words r) later _ (row_long dims r here.ranged),
          rows_back rise (Some r.values) rs (place + length dims + 2) rest next b here.rest (rw places at after),
          row_shown r here.ranged place later,
        )

module _ {W : Type 0} (a : Algebra W) where
  code_written : (place : ℕ) (ws : List ℕ) (code : ℕ) → code_at a place ws ≡ Ok code
      → (listed a code ≡ true) × (ws ≡ word_of kind.High (high_part code) ∷ word_of kind.Low (low_part code) ∷ drop 2 ws)
  unfolding code_at
  code_written place ws code e =
      let (high, due₁, e₁) = on_read_passed card_of_word (load_due kind.High place ws) _ code e in
      let (low, due₂, e₂) = on_read_passed card_of_word (load_due kind.Low (place + 1) (drop 1 ws)) _ code e₁ in
      let (coded, e₃) = cond_passed (listed a (code_of high low)) _ (Code (place + 1)) code e₂ in
      let (word₁, _) = due_written kind.High place ws high due₁ in
      let (word₂, small) = due_written kind.Low (place + 1) (drop 1 ws) low due₂ in
      rw (← ok_same e₃) (coded, rw (high_of_code high low small, low_of_code high low small) (word₁ ∙ ap (λ rest. word_of kind.High high ∷ rest) (word₂ ∙ ap (λ rest. word_of kind.Low low ∷ rest) (drop-drop 1 1 ws))))

  pub row_written : (dims : List ℕ) (previous : Option (List ℕ)) (place : ℕ) (ws : List ℕ) (r : Row) → row_at a dims previous place ws ≡ Ok r → RowWritten a dims previous ws r
  unfolding row_at
  row_written dims previous place ws r e =
      let (values, read₁, e₁) = on_read_passed (λ f. f) (values_at dims place ws) _ r e in
      let (after, e₂) = cond_passed (follows previous values) _ (Order place) r e₁ in
      let (code, read₂, e₃) = on_read_passed (λ f. f) (code_at a (place + length dims) (drop (length dims) ws)) _ r e₂ in
      let (ranged, words₁) = values_written dims place ws values read₁ in
      let (coded, words₂) = code_written (place + length dims) (drop (length dims) ws) code read₂ in
      let two : List ℕ → List ℕ = λ rest. word_of kind.High (high_part code) ∷ word_of kind.Low (low_part code) ∷ rest in
      rw (← ok_same e₃) (record {
        ranged = ranged;
        after = after;
        coded = coded;
        shown = sym (values_are dims place ws values read₁);
        words = words₁ ∙ ap (λ rest. map (word_of kind.Value) values ++ rest) (words₂ ∙ ap two (drop-drop 2 (length dims) ws)) ∙ sym (append_assoc (map (word_of kind.Value) values) (two []) _);
      })

  module _ {F : Type 0} (dims : List ℕ) (next : ℕ → List ℕ → Reading F) where
    more_rows_written : (previous : Option (List ℕ)) (many place : ℕ) (ws : List ℕ) (r : Row) (others b : Built) → RowWritten a dims previous ws r
        → RowsWritten a dims (Some r.values) next many (place + length dims + 2) (drop (length dims + 2) ws) others
        → b ≡ put (row place (take (length dims) ws) r.code) others → RowsWritten a dims previous next (suc many) place ws b
    unfolding rows_words valid_rows
    more_rows_written previous many place ws r others b here more made =
        let places : place + length (row_words r ++ rows_words more.rows) ≡ place + length dims + 2 + length (rows_words more.rows) =
        rw (length-append (row_words r), row_long dims r here.ranged) (omega arith) in
        record {
          rows = r ∷ more.rows;
          rest = more.rest;
          after = more.after;
          words = rw (append_assoc (row_words r)) (here.words ∙ ap (λ rest. row_words r ++ rest) more.words);
          count = ap suc more.count;
          valid = rw (here.ranged, here.after, here.coded) more.valid;
          goes_on = rw places more.goes_on;
          made = made ∙ rw (here.shown, more.made);
        }

    pub rows_written : (rise : CardFault → F) (many : ℕ) (previous : Option (List ℕ)) (place : ℕ) (ws : List ℕ) (b : Built)
        → built (rows_from a rise many dims previous place ws next) ≡ Ok b → RowsWritten a dims previous next many place ws b
    unfolding rows_from rows_words valid_rows
    rows_written rise zero previous place ws b e =
        record { rows = []; rest = ws; after = b; words = refl; count = refl; valid = refl; goes_on = rw add-zero e; made = refl }
    rows_written rise (suc many) previous place ws b e =
        let (r, read, e₁) = hand_passed rise (row_at a dims previous place ws) _ b e in
        let (others, e₂, made) = item_passed (row place (take (length dims) ws) r.code) _ b e₁ in
        more_rows_written previous many place ws r others b (row_written dims previous place ws r read)
        (rows_written rise many (Some r.values) (place + length dims + 2) (drop (length dims + 2) ws) others e₂) made
