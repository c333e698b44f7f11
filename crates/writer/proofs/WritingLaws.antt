-- Which rows are refused, what is written, and that it reads back.
use Rattle.std.proofs.Common.{◌≡◌, ℕ, suc, ◌+◌, ◌*◌, ◌/◌, ◌%◌, ◌^◌, ◌<◌, ◌≤◌, true, not, ◌||◌, eqb, ltb, leb, List, [], ◌∷◌, ◌++◌, map, length, take, drop, is_some, Some, None, Ok, Err, Option, Result, sym, refl, ap, ◌∙◌, subst, inl, inr, pow-suc, arith}
use Rattle.std.specs.List.{All}
use Rattle.std.proofs.lemmas.List.{length-append, take_at}
use Rattle.std.proofs.lemmas.List.Elements.{All-nil, All-cons}
use Rattle.std.proofs.lemmas.Bool.{and_parts, and_from, cases_Bool, cases_lt, cond_both, eq-eqb, le-leb, lt-leb, lt-ltb, ltb-true, or_left, or_right}
use Rattle.std.proofs.lemmas.Grind.{common_steps}
use Rattle.reckoning.specs.Algebra.{Algebra}
use Rattle.reckoning.specs.Laws.{Laws}
use Rattle.faults.specs.declared.fault.SheetFault.{SheetFault}
use Rattle.faults.specs.declared.write.WriteFault.{WriteFault}
use Rattle.faults.specs.declared.write.WriteFault.TheVariants as refused
use Rattle.sheet.specs.Order.{before}
use Rattle.sheet.specs.Reading.{on_read}
use Rattle.sheet.specs.ReadSheet.{read_sheet}
use Rattle.sheet.specs.ReadTable.{read_table}
use Rattle.sheet.specs.Rules.{exactly, card_fits}
use Rattle.sheet.specs.Scope.{picked, scope_of, sizes_of, no_sizes, mask_of, mask_in, size_in, all_there, open_slots}
use Rattle.sheet.specs.Syntax.{Row, Card, Sheet}
use Rattle.sheet.specs.Valid.{in_range, valid_rows, valid_card, valid_table}
use Rattle.writer.specs.Writing.{Writable, laid, card_over, table_of, sizes_there, usable, unless, write_accepted, row_fits, first_wrong, accepted, write, WrittenReadsBack, RefusesInvalid, RefusesFirst}
use Rattle.sheet.specs.Written.{table_words}
use Rattle.sheet.proofs.CardsLaws.{card_long}
use Rattle.writer.proofs.Laying.{laid_front, length_table}
use Rattle.sheet.proofs.RowOrder.{first_valid}
use Rattle.sheet.proofs.RowsLaws.{Small, rows_long}
use Rattle.sheet.proofs.ScopesLaws.{SlotsMasked, mask_again, sizes_picked, scope_rises, slots_of_mask, all_there_exactly, length_declared}
use Rattle.sheet.proofs.SheetsLaws.{only_written_sheets}
use Rattle.sheet.proofs.SlotsLaws.{slots_small, open_small, sizes_small}
use Rattle.sheet.proofs.TablesLaws.{tables_read_back}
use Rattle.sheet.proofs.ValidParts.{card_parts, sheet_parts, listed_fits}

-- the mask of twelve slots has twelve bits
pub mask_in_below : (sizes : List ℕ) → mask_in sizes < 2 ^ length sizes
unfolding mask_in
mask_in_below [] = omega arith
mask_in_below (size ∷ sizes) = grind (arith, common_steps, mask_in_below sizes, pow-suc 2 (length sizes))

picked_none : {T : Type 0} (xs : List T) → picked 0 xs ≡ []
unfolding picked
picked_none [] = refl
picked_none (x ∷ xs) = picked_none xs

picked_small : (mask : ℕ) (sizes : List ℕ) → Small sizes → Small (picked mask sizes)
unfolding picked
picked_small mask [] small = tt
picked_small mask (size ∷ sizes) small =
    let rest = picked_small (mask / 2) sizes small.1 in
    cond_both (eqb (mask % 2) 1) (size ∷ picked (mask / 2) sizes) (picked (mask / 2) sizes) Small (λ _. (small.0, rest)) (λ _. rest)

values_writable : (dims values : List ℕ) → Small dims → in_range dims values ≡ true → All (λ v. v < 2 ^ 28) values
unfolding in_range
values_writable [] [] small e = All-nil _
values_writable [] (v ∷ vs) small e = absurd cc
values_writable (size ∷ dims) [] small e = absurd cc
values_writable (size ∷ dims) (v ∷ vs) small e =
    let (below, rest) = and_parts _ _ e in
    let h = ltb-true v size below in
    let s = small.0 in
    All-cons (λ v. v < 2 ^ 28) v vs (omega arith) (values_writable dims vs small.1 rest)

rows_writable : {W : Type 0} {a : Algebra W} → Laws a → (dims : List ℕ) → Small dims → (previous : Option (List ℕ)) (rows : List Row) → valid_rows a dims previous rows ≡ true → All Writable rows
rows_writable laws dims small previous [] valid = All-nil _
rows_writable {a = a} laws dims small previous (r ∷ rs) valid =
    let here = first_valid a dims previous r rs valid in
    All-cons Writable r rs (values_writable dims r.values small here.ranged, listed_fits laws r.code here.coded) (rows_writable laws dims small (Some r.values) rs here.rest)

module _ {W : Type 0} (a : Algebra W) (dims : List ℕ) where
  -- rows that are all accepted are valid, and few enough
  passed_valid : (previous : Option (List ℕ)) (index : ℕ) (rows : List Row) → index < 2 ^ 16 → first_wrong a dims previous index rows ≡ None
      → (valid_rows a dims previous rows ≡ true) × (index + length rows < 2 ^ 16)
  unfolding first_wrong valid_rows
  passed_valid previous index [] low e = (refl, omega arith)
  passed_valid previous index (r ∷ rs) low e = let others = passed_valid (Some r.values) (index + 1) rs in grind (arith, common_steps, others)

  -- valid rows that are few enough are all accepted
  valid_passed : (previous : Option (List ℕ)) (index : ℕ) (rows : List Row) → valid_rows a dims previous rows ≡ true → index + length rows < 2 ^ 16
      → first_wrong a dims previous index rows ≡ None
  unfolding first_wrong
  valid_passed previous index [] valid few = refl
  valid_passed previous index (r ∷ rs) valid few =
      let here = first_valid a dims previous r rs valid in
      let others = valid_passed (Some r.values) (index + 1) rs here.rest (omega arith) in
      grind (arith, common_steps)

  -- the rows before the first that is refused are accepted, and with it they are not
  first_wrong_at : (previous : Option (List ℕ)) (index : ℕ) (rows : List Row) (wrong : ℕ) → first_wrong a dims previous index rows ≡ Some wrong
      → (k : ℕ) × (wrong ≡ index + k) × (first_wrong a dims previous index (take k rows) ≡ None) × (first_wrong a dims previous index (take (suc k) rows) ≡ Some wrong)
  unfolding first_wrong
  first_wrong_at previous index [] wrong e = absurd cc
  first_wrong_at previous index (r ∷ rs) wrong e = elim (cases_Bool (row_fits a dims previous index r)) [
    | inl t ↦
        let (k, far, accepted, refused) = first_wrong_at (Some r.values) (index + 1) rs wrong (rw t at e) in
        (suc k, omega arith, rw t accepted, rw t refused)
    | inr t ↦ (0, grind arith, refl, rw t (rw t at e))
  ]

nothing_before : (us vs : List ℕ) → in_range [] us ≡ true → before us vs ≡ true → ⊥
unfolding in_range before
nothing_before [] vs ranged after = grind arith
nothing_before (u ∷ us) vs ranged after = grind arith

-- over no slots there is at most one row
one_row : {W : Type 0} (a : Algebra W) (rows : List Row) → valid_rows a [] None rows ≡ true → length rows ≤ 1
one_row a [] valid = omega arith
one_row a (r ∷ []) valid = omega arith
one_row a (r ∷ q ∷ rs) valid =
    let first = first_valid a [] None r (q ∷ rs) valid in
    let second = first_valid a [] (Some r.values) q rs first.rest in
    absurd (nothing_before r.values q.values first.ranged second.after)

module _ {W : Type 0} (a : Algebra W) (sizes : List ℕ) (twelve : length sizes ≡ 12) (rows : List Row) where
  masked : SlotsMasked (scope_of (mask_in sizes)) (mask_in sizes)
  masked = slots_of_mask (mask_in sizes) (rw twelve at (mask_in_below sizes))

  -- the sizes of the card's slots, in the two ways that they are named
  there_sizes : sizes_there sizes ≡ map (size_in sizes) (scope_of (mask_in sizes))
  there_sizes = sizes_picked masked sizes twelve

  slots_or_one_row : valid_rows a (sizes_there sizes) None rows ≡ true → (ltb 0 (mask_in sizes) || leb (length rows) 1) ≡ true
  slots_or_one_row valid = elim (cases_lt 0 (mask_in sizes)) [
    | inl some ↦ or_left _ _ (lt-ltb 0 (mask_in sizes) some)
    | inr none ↦
        let no-dims : sizes_there sizes ≡ [] = ap (λ mask. picked mask sizes) (omega arith) ∙ picked_none sizes in
        or_right _ _ (le-leb (length rows) 1 (one_row a rows (subst (λ dims. valid_rows a dims None rows ≡ true) no-dims valid)))
  ]

  pub accepted_valid : first_wrong a (sizes_there sizes) None 0 rows ≡ None → valid_card a (exactly sizes) sizes (card_over (mask_in sizes) rows) ≡ true
  accepted_valid e =
      let (valid, few) = passed_valid a (sizes_there sizes) None 0 rows (omega arith) e in
      let there : all_there (map (size_in sizes) (scope_of (mask_in sizes))) ≡ true = subst (λ dims. all_there dims ≡ true) there_sizes (all_there_exactly sizes) in
      let mask = mask_again masked in
      let fits : card_fits (exactly sizes) (record { scope = mask_of (scope_of (mask_in sizes)); rows = length rows }) ≡ true =
      and_from _ _ (eq-eqb _ _ mask) (subst (λ m. (ltb 0 m || leb (length rows) 1) ≡ true) (sym mask) (slots_or_one_row valid)) in
      and_from _ _ (and_from _ _ (and_from _ _ (and_from _ _ (scope_rises masked) there) fits) (lt-ltb (length rows) 65536 (omega arith)))
      (subst (λ dims. valid_rows a dims None rows ≡ true) there_sizes valid)

  valid_accepted : valid_card a (exactly sizes) sizes (card_over (mask_in sizes) rows) ≡ true → first_wrong a (sizes_there sizes) None 0 rows ≡ None
  valid_accepted valid =
      let parts = card_parts a (exactly sizes) sizes (card_over (mask_in sizes) rows) valid in
      valid_passed a (sizes_there sizes) None 0 rows (subst (λ dims. valid_rows a dims None rows ≡ true) (sym there_sizes) parts.rowed) (omega (arith, parts.few))

  refused_exactly : valid_card a (exactly sizes) sizes (card_over (mask_in sizes) rows) ≡ not (is_some (first_wrong a (sizes_there sizes) None 0 rows))
  refused_exactly = grind (arith, accepted_valid, valid_accepted)

pub refuses_invalid : {W : Type 0} (a : Algebra W) (sheet : List ℕ) (rows : List Row) → RefusesInvalid a sheet rows
refuses_invalid a sheet rows s read = refused_exactly a (sizes_of (open_slots s.slots)) (length_declared no_sizes (open_slots s.slots)) rows

-- only a row that is refused is answered as one
row_answered : (r : Result Card WriteFault) (out : List ℕ) (row : ℕ) → (write_accepted r out).0 ≡ Err (refused.Row row) → r ≡ Err (refused.Row row)
row_answered (Ok t) out row e = grind arith
row_answered (Err f) out row e = cc

row_refused : (o : Option ℕ) (t : Card) (row : ℕ) → unless o t ≡ Err (refused.Row row) → o ≡ Some row
row_refused (Some index) t row e = cc
row_refused None t row e = absurd cc

module _ {W : Type 0} (a : Algebra W) (sheet : List ℕ) (rows : List Row) where
  -- what was accepted or refused is written or answered
  pub written : {r : Result Card WriteFault} (out : List ℕ) → r ≡ accepted a sheet rows → write_accepted r out ≡ write a sheet rows out
  unfolding write
  written out e = ap (λ r. write_accepted r out) e

  module _ (answer : Result ℕ WriteFault) (out after : List ℕ) (is : (answer, after) ≡ write a sheet rows out) where
    row_at_fault : (s : Sheet) (row : ℕ) → read_sheet a sheet ≡ Ok s → answer ≡ Err (refused.Row row)
        → first_wrong a (sizes_there (sizes_of (open_slots s.slots))) None 0 rows ≡ Some row
    unfolding write
    row_at_fault s row read refuses = row_refused _ (table_of s rows) row (rw read at (row_answered (accepted a sheet rows) out row (ap (λ w. w.0) (sym is) ∙ refuses)))

    pub refuses_first : RefusesFirst a sheet rows answer
    refuses_first s row read refuses =
        let dims = sizes_there (sizes_of (open_slots s.slots)) in
        let (k, far, accepted, refused) = first_wrong_at a dims None 0 rows row (row_at_fault s row read refuses) in
        let same : k ≡ row = omega arith in
        let more : suc k ≡ row + 1 = omega arith in (
          rw (rw same at accepted) at (refuses_invalid a sheet (take row rows) s read),
          rw (rw more at refused) at (refuses_invalid a sheet (take (row + 1) rows) s read),
        )

-- the card that was accepted
unless_ok : (o : Option ℕ) (t u : Card) → Ok t ≡ unless o u → (o ≡ None) × (t ≡ u)
unless_ok (Some row) t u e = absurd cc
unless_ok None t u e = (refl, cc)

accepted_card : {W : Type 0} (a : Algebra W) (sheet : List ℕ) (rows : List Row) (t : Card) → Ok t ≡ accepted a sheet rows
    → (s : Sheet) × (read_sheet a sheet ≡ Ok s) × (first_wrong a (sizes_there (sizes_of (open_slots s.slots))) None 0 rows ≡ None) × (t ≡ table_of s rows)
accepted_card a sheet rows t e = by (read_sheet a sheet) refl e
  where
    by : (r : Result Sheet SheetFault) → read_sheet a sheet ≡ r
        → Ok t ≡ on_read refused.Sheet r (λ s. unless (first_wrong a (sizes_there (sizes_of (open_slots s.slots))) None 0 rows) (table_of s rows))
        → (s : Sheet) × (read_sheet a sheet ≡ Ok s) × (first_wrong a (sizes_there (sizes_of (open_slots s.slots))) None 0 rows ≡ None) × (t ≡ table_of s rows)
    by (Ok s) read e = let (none, is) = unless_ok _ _ _ e in (s, read, none, is)
    by (Err f) read e = absurd cc

-- what reading a sheet for the sizes of its open slots answers
abbrev open_sizes_in : {W : Type 0} → Algebra W → List ℕ → Result (List ℕ) SheetFault
open_sizes_in a sheet = on_read (λ f. f) (read_sheet a sheet) (λ s. Ok (sizes_of (open_slots s.slots)))

sheet_found : {W : Type 0} (a : Algebra W) (sheet sizes : List ℕ) → Ok sizes ≡ open_sizes_in a sheet → (s : Sheet) × (read_sheet a sheet ≡ Ok s) × (sizes ≡ sizes_of (open_slots s.slots))
sheet_found a sheet sizes e = by (read_sheet a sheet) refl e
  where
    by : (r : Result Sheet SheetFault) → read_sheet a sheet ≡ r → Ok sizes ≡ on_read (λ f. f) r (λ s. Ok (sizes_of (open_slots s.slots)))
        → (s : Sheet) × (read_sheet a sheet ≡ Ok s) × (sizes ≡ sizes_of (open_slots s.slots))
    by (Ok s) read e = (s, read, cc)
    by (Err g) read e = absurd cc

-- rows that are all accepted: their card can be written, by their number, the mask of its slots and the number of those
pub record Ready (rows : List Row) (count mask width : ℕ) : Type 0 where
  pub slots : mask < 2 ^ 12
  pub few : count < 2 ^ 16
  pub fits : All Writable rows
  pub long : count * (width + 2) + 2 ≡ length (table_words (card_over mask rows))
  pub short : length (table_words (card_over mask rows)) ≤ 2 ^ 20

module _ {W : Type 0} {a : Algebra W} (laws : Laws a) (sheet sizes : List ℕ) (found : Ok sizes ≡ open_sizes_in a sheet) (rows : List Row) where
  twelve_sizes : length sizes ≡ 12
  twelve_sizes =
      let (s, read, is) = sheet_found a sheet sizes found in
      ap length is ∙ length_declared no_sizes (open_slots s.slots)

  small_sizes : Small sizes
  small_sizes =
      let (s, read, is) = sheet_found a sheet sizes found in
      let slotted = (sheet_parts a s (only_written_sheets laws sheet s read).0).slotted in
      subst Small (sym is) (sizes_small (open_slots s.slots) (open_small s.slots (slots_small a s.slots _ no_sizes slotted)))

  all_ready : None ≡ first_wrong a (sizes_there sizes) None 0 rows → Ready rows (length rows) (mask_in sizes) (length (sizes_there sizes))
  all_ready none =
      let (valid, few) = passed_valid a (sizes_there sizes) None 0 rows (omega arith) (sym none) in
      let table-valid = accepted_valid a sizes twelve_sizes rows (sym none) in
      let card-short = card_long laws (exactly sizes) sizes twelve_sizes small_sizes (card_over (mask_in sizes) rows) table-valid in
      record {
        slots = rw twelve_sizes at (mask_in_below sizes);
        few = omega arith;
        fits = rows_writable laws (sizes_there sizes) (picked_small (mask_in sizes) sizes small_sizes) None rows valid;
        long = sym (length_table (mask_in sizes) rows ∙ ap (λ n. n + 2) (rows_long a (sizes_there sizes) None rows valid));
        short = rw length-append (omega arith);
      }

  -- the mask and the sizes of the card's slots, as they were found
  pub ready : (count : ℕ) → length rows ≡ count → (mask : ℕ) → mask ≡ mask_in sizes → (dims shown : List ℕ) → dims ≡ picked mask sizes → shown ≡ dims → (width : ℕ) → width ≡ length dims
      → None ≡ first_wrong a shown None 0 rows → Ready rows count mask width
  ready count counts mask masks dims shown picks shows width wide none =
      let there : dims ≡ sizes_there sizes = picks ∙ ap (λ mask. picked mask sizes) masks in
      rw (← counts, masks, wide, there) (all_ready (rw (shows, there) at none))

module _ {W : Type 0} (a : Algebra W) (sheet : List ℕ) (rows : List Row) (t : Card) (found : Ok t ≡ accepted a sheet rows) (out : List ℕ) where
  -- the output is too short
  pub write_full : (room : ℕ) → room ≡ usable out → room < length (table_words t) → (Err (refused.Full room), out) ≡ write a sheet rows out
  write_full room is h =
      let full : usable out < length (table_words t) = omega arith in
      rw is (rw (lt-leb (length (table_words t)) (usable out) full) at (written a sheet rows out found))

  module _ (after : List ℕ) (n : ℕ) (count : n ≡ length (table_words t)) (over : after ≡ laid 0 (table_words t) out) where
    front : after ≡ table_words t ++ drop (length (table_words t)) out
    front = over ∙ laid_front (table_words t) out

    -- the table is written
    pub write_done : length (table_words t) ≤ usable out → (Ok n, after) ≡ write a sheet rows out
    write_done fits = rw (count, front) (rw (le-leb (length (table_words t)) (usable out) fits) at (written a sheet rows out found))

    -- and reads back
    pub written_back : Laws a → WrittenReadsBack a sheet rows (Ok n) after
    written_back laws =
        let (s, read, none, is) = accepted_card a sheet rows t found in
        let valid : valid_table a s (table_of s rows) ≡ true = rw none at (refuses_invalid a sheet rows s read) in
        let words : take n after ≡ table_words (table_of s rows) = ap (take n) front ∙ take_at (table_words t) _ n (sym count) ∙ ap table_words is in
        (s, read, ap (read_table a sheet) words ∙ tables_read_back a laws sheet s (table_of s rows) read valid)
