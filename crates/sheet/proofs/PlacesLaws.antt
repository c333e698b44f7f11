-- What a reading hands out stands in the words, item after item, each where it says.
use Rattle.std.proofs.Common.{◌≡◌, ℕ, zero, suc, ◌+◌, ◌-◌, Bool, ltb, List, [], ◌∷◌, ◌++◌, map, length, take, drop, Some, None, Ok, Err, Option, Result, sym, refl, ap, ◌∙◌, append_assoc, arith, length-drop}
use Rattle.std.proofs.lemmas.List.{drop-drop, take_at}
use Rattle.words.specs.declared.fault.WordFault.{WordFault}
use Rattle.words.specs.declared.layout.Kind.TheVariants as kind
use Rattle.words.specs.Layout.{word_of, high_part, low_part}
use Rattle.reckoning.specs.Algebra.{Algebra}
use Rattle.faults.specs.declared.fault.CardFault.{CardFault}
use Rattle.faults.specs.declared.fault.CardFault.TheVariants as card_fault
use Rattle.faults.specs.declared.fault.SheetFault.{SheetFault}
use Rattle.faults.specs.declared.fault.SheetFault.TheVariants as sheet_fault
use Rattle.faults.specs.declared.fault.TableFault.TheVariants as table_fault
use Rattle.faults.specs.Faults.{card_of_word, sheet_of_word, sheet_of_card, table_of_word, table_of_card, table_of_sheet}
use Rattle.sheet.specs.Form.{sheet_form}
use Rattle.sheet.specs.Loads.{head_of, head_load, slot_of, slot_load, card_of, card_load}
use Rattle.sheet.specs.Places.{entry_words, Placed, Stands}
use Rattle.sheet.specs.ReadCard.{card_at, row_at, rows_from, card_from, end_at, ending}
use Rattle.sheet.specs.ReadSheet.{head_at, slot_at, slots_from, cards_from, head_from, sheet_reading, read_sheet}
use Rattle.sheet.specs.ReadTable.{table_reading}
use Rattle.sheet.specs.Reading.{Entry, head, slot, card, row, end, Reading, item, whole, fault, hand}
use Rattle.sheet.specs.Rules.{head_fits, slot_fits, card_fits, covered, exactly}
use Rattle.sheet.specs.Scope.{no_sizes, declare, picked, sizes_of, open_slots}
use Rattle.sheet.specs.Syntax.{Row}
use Rattle.sheet.specs.Written.{row_words}
use Rattle.sheet.proofs.CardsLaws.{end_word_written}
use Rattle.sheet.proofs.LoadsLaws.{word_written, head_again, slot_again, card_again}
use Rattle.sheet.proofs.RowsLaws.{values_long, row_long, RowWritten, row_written}

front : (ws es rest : List ℕ) → ws ≡ es ++ rest → take (length es) ws ≡ es
front ws es rest e = ap (take (length es)) e ∙ take_at es rest (length es) refl

-- what is shown of a row that was read is its written form
row_shown : {W : Type 0} (a : Algebra W) (dims : List ℕ) (previous : Option (List ℕ)) (at : ℕ) (ws : List ℕ) (r : Row) → RowWritten a dims previous ws r
    → entry_words (row at (take (length dims) ws) r.code) ≡ row_words r
row_shown a dims previous at ws r w =
    let code : List ℕ = word_of kind.High (high_part r.code) ∷ word_of kind.Low (low_part r.code) ∷ [] in
    let values : List ℕ = map (word_of kind.Value) r.values in
    ap (λ vs. vs ++ code) (ap (take (length dims)) (w.words ∙ append_assoc values code _) ∙ take_at values _ (length dims) (values_long dims r w.ranged))

module _ {F : Type 0} (all : List ℕ) where
  handed_on : {A E : Type 0} (rise : E → F) (r : Result A E) (next : A → Reading F) (at : ℕ) → ((x : A) → r ≡ Ok x → Stands all at (next x)) → Stands all at (hand rise r next)
  unfolding Stands
  handed_on rise (Ok x) next at h = h x refl
  handed_on rise (Err f) next at h = tt

  item_stands : (e : Entry) (at then : ℕ) (rest : Reading F) → drop at all ≡ entry_words e ++ drop (length (entry_words e)) (drop at all) → Placed all at e
      → at + length (entry_words e) ≡ then → Stands all then rest → Stands all at (item e rest)
  unfolding Stands
  item_stands e at then rest here told goes more = (front _ _ _ here, told, rw goes more)

  ending_stands : (rise : WordFault → F) (wrong : ℕ → F) (at : ℕ) → Stands all at (ending rise wrong at (drop at all))
  unfolding Stands
  ending_stands rise wrong at = handed_on rise (end_at at (drop at all)) _ at by
    where
      by : (r : Option ℕ) → end_at at (drop at all) ≡ Ok r → Stands all at (elim r [ None ↦ item (end (at + 1)) whole | Some place ↦ fault (wrong place) ])
      by None read =
          let last = end_word_written at (drop at all) read in
          let before : at + 1 - 1 ≡ at = omega arith in
          let total : at + 1 ≡ length all = omega (arith, sym (length-drop at all) ∙ ap length last) in
          item_stands (end (at + 1)) at (at + 1) whole
          (last ∙ ap (λ n. word_of kind.End n ∷ []) (sym before) ∙ ap (λ rest. word_of kind.End (at + 1 - 1) ∷ rest) (sym (ap (drop 1) last))) total refl total
      by (Some place) read = tt

  module _ {W : Type 0} (a : Algebra W) (rise : CardFault → F) (next : ℕ → List ℕ → Reading F) (goes_on : (at : ℕ) → Stands all at (next at (drop at all))) where
    rows_stand : (dims : List ℕ) (many : ℕ) (previous : Option (List ℕ)) (at : ℕ) → Stands all at (rows_from a rise many dims previous at (drop at all) next)
    unfolding rows_from
    rows_stand dims zero previous at = goes_on at
    rows_stand dims (suc many) previous at =
        handed_on rise (row_at a dims previous at (drop at all)) _ at (λ r read.
        let w = row_written a dims previous at (drop at all) r read in
        let shown = row_shown a dims previous at (drop at all) r w in
        let long = row_long dims r w.ranged in
        let behind : drop (length dims + 2) (drop at all) ≡ drop (at + length dims + 2) all = drop-drop _ at all ∙ ap (λ n. drop n all) (omega arith) in
        item_stands (row at (take (length dims) (drop at all)) r.code) at (at + length dims + 2) _ (rw (shown, long) w.words) refl
        (rw (shown, long) (omega arith)) (rw behind (rows_stand dims many (Some r.values) (at + length dims + 2))))

    card_stands : (rule : ℕ → Bool) (sizes : List ℕ) (at : ℕ) → Stands all at (card_from a rise rule sizes at (drop at all) next)
    unfolding card_at
    card_stands rule sizes at =
        handed_on rise (card_at rule at (drop at all)) _ at (λ c read.
        let w = word_written card_of_word kind.Card card_of card_load (card_fits rule) (card_fault.Number at) at card_again (drop at all) c read in
        item_stands (card c) at (at + 1) _ w.words tt refl (rw (drop-drop 1 at all) (rows_stand (picked c.scope sizes) c.rows None (at + 1))))

module _ {W : Type 0} (a : Algebra W) (all : List ℕ) where
  cards_stand : (many : ℕ) (sizes : List ℕ) (at : ℕ) → Stands all at (cards_from a sheet_form many sizes at (drop at all))
  unfolding cards_from
  cards_stand zero sizes at = ending_stands all sheet_of_word sheet_fault.End at
  cards_stand (suc many) sizes at = card_stands all a sheet_of_card (cards_from a sheet_form many sizes) (cards_stand many sizes) (covered sizes) sizes at

  slots_stand : (next : List ℕ → ℕ → List ℕ → Reading SheetFault) → ((sizes : List ℕ) (at : ℕ) → Stands all at (next sizes at (drop at all)))
      → (many free : ℕ) (sizes : List ℕ) (at : ℕ) → Stands all at (slots_from a sheet_form many free sizes at (drop at all) next)
  unfolding slots_from slot_at
  slots_stand next goes_on zero free sizes at = goes_on sizes at
  slots_stand next goes_on (suc many) free sizes at =
      handed_on all (λ f. f) (slot_at a (ltb 0 free) sizes at (drop at all)) _ at (λ s read.
      let w = word_written sheet_of_word kind.Slot slot_of slot_load (slot_fits a (ltb 0 free) sizes) (sheet_fault.Number at) at slot_again (drop at all) s read in
      item_stands all (slot s) at (at + 1) _ w.words tt refl (rw (drop-drop 1 at all) (slots_stand next goes_on many (free - 1) (declare sizes s) (at + 1))))

  pub sheet_stands : Stands all 0 (sheet_reading a all)
  unfolding head_from head_at
  sheet_stands =
      handed_on all (λ f. f) (head_at 0 all) _ 0 (λ h read.
      let w = word_written sheet_of_word kind.Head head_of head_load head_fits (sheet_fault.Number 0) 0 head_again all h read in
      item_stands all (head h) 0 1 _ w.words tt refl (slots_stand (cards_from a sheet_form h.cards) (cards_stand h.cards) h.slots h.«open» no_sizes 1))

  pub table_stands : (sheet : List ℕ) → Stands all 0 (table_reading a sheet all)
  unfolding cards_from
  table_stands sheet =
      handed_on all table_of_sheet (read_sheet a sheet) _ 0 (λ s read.
      let sizes = sizes_of (open_slots s.slots) in
      card_stands all a table_of_card (ending table_of_word table_fault.End) (ending_stands all table_of_word table_fault.End) (exactly sizes) sizes 0)
