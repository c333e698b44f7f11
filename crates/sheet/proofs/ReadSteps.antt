-- One step of a reading: the item that is due, or its fault, and what is to come after it.
use Rattle.std.proofs.Common.{◌≡◌, ℕ, zero, suc, ◌+◌, ◌-◌, ◌<◌, Bool, true, false, cond, ltb, List, map, length, take, drop, Some, None, Ok, Err, Option, Result, sym, refl, ap, ◌∙◌, add_assoc, add-one, arith}
use Rattle.words.specs.declared.fault.WordFault.{WordFault}
use Rattle.words.specs.Layout.{load_part}
use Rattle.reckoning.specs.Algebra.{Algebra}
use Rattle.faults.specs.declared.fault.CardFault.{CardFault}
use Rattle.faults.specs.declared.fault.CardFault.TheVariants.{Order}
use Rattle.faults.specs.declared.fault.SheetFault.{SheetFault}
use Rattle.sheet.specs.declared.item.CardHead.{CardHead}
use Rattle.sheet.specs.declared.item.Head.{Head}
use Rattle.sheet.specs.declared.item.Slot.{Slot}
use Rattle.sheet.specs.Form.{Form}
use Rattle.sheet.specs.Order.{follows}
use Rattle.sheet.specs.ReadCard.{card_at, values_at, code_at, row_at, rows_from, card_from, end_at, ending}
use Rattle.sheet.specs.ReadSheet.{head_at, slot_at, slots_from, cards_from, head_from}
use Rattle.sheet.specs.Reading.{Entry, head, slot, card, row, end, Reading, item, whole, fault, on_read, hand}
use Rattle.sheet.specs.Readers.{row_entry_at}
use Rattle.sheet.specs.Scope.{no_sizes, declare, picked}
use Rattle.sheet.specs.Syntax.{Row}
use Rattle.sheet.proofs.RowValues.{values_are}

module _ {W : Type 0} (a : Algebra W) {F : Type 0} (form : Form F) (place : ℕ) (ws : List ℕ) where
  pub head_stop : (f : SheetFault) → Err f ≡ head_at place ws → head_from a form place ws ≡ fault (form.of_sheet f)
  unfolding head_from
  head_stop f e = rw (← e)

  pub slot_stop : (free : ℕ) (sizes : List ℕ) (next : List ℕ → ℕ → List ℕ → Reading F) (n : ℕ) → 0 < n → (f : SheetFault) → Err f ≡ slot_at a (ltb 0 free) sizes place ws
      → slots_from a form n free sizes place ws next ≡ fault (form.of_sheet f)
  unfolding slots_from
  slot_stop free sizes next zero h f e = absurd (omega arith)
  slot_stop free sizes next (suc n) h f e = rw (← e)

  -- the word is read, and the reading goes on behind it
  module _ (at : ℕ) (rest : List ℕ) (there : at ≡ place + 1) (behind : rest ≡ drop 1 ws) where
    pub head_step : (h : Head) → Ok h ≡ head_at place ws
        → head_from a form place ws ≡ item (head h) (slots_from a form h.slots h.«open» no_sizes at rest (cards_from a form h.cards))
    unfolding head_from
    head_step h e = rw (← e, there, behind)

    pub slot_step : (free : ℕ) (sizes : List ℕ) (next : List ℕ → ℕ → List ℕ → Reading F) (n : ℕ) → 0 < n → (s : Slot) (fewer : ℕ) (more : List ℕ)
        → Ok s ≡ slot_at a (ltb 0 free) sizes place ws → fewer ≡ free - 1 → more ≡ declare sizes s
        → slots_from a form n free sizes place ws next ≡ item (slot s) (slots_from a form (n - 1) fewer more at rest next)
    unfolding slots_from
    slot_step free sizes next zero h s fewer more e f d = absurd (omega arith)
    slot_step free sizes next (suc n) h s fewer more e f d = let less : suc n - 1 ≡ n = omega arith in rw (← e, there, behind, less, f, d)

module _ {W : Type 0} (a : Algebra W) {F : Type 0} (rise : CardFault → F) (rule : ℕ → Bool) (sizes : List ℕ) (next : ℕ → List ℕ → Reading F) (place : ℕ) (ws : List ℕ) where
  pub card_step : (at : ℕ) (rest : List ℕ) → at ≡ place + 1 → rest ≡ drop 1 ws → (c : CardHead) (dims : List ℕ) → Ok c ≡ card_at rule place ws → dims ≡ picked c.scope sizes
      → card_from a rise rule sizes place ws next ≡ item (card c) (rows_from a rise c.rows dims None at rest next)
  card_step at rest there behind c dims e d = rw (← e, there, behind, d)

  pub card_stop : (f : CardFault) → Err f ≡ card_at rule place ws → card_from a rise rule sizes place ws next ≡ fault (rise f)
  card_stop f e = rw (← e)

module _ {W : Type 0} (a : Algebra W) (dims : List ℕ) (previous : Option (List ℕ)) where
  -- the values of a row that is read are the loads of its words
  row_values : (at : ℕ) (ws : List ℕ) (r : Row) → row_at a dims previous at ws ≡ Ok r → r.values ≡ map load_part (take (length dims) ws)
  unfolding row_at
  row_values at ws r e = go (values_at dims at ws) (values_are dims at ws) e
    where
      coded : (vs : List ℕ) (b : Bool) (c : Result ℕ CardFault) → cond b (on_read (λ f. f) c (λ code. Ok (record { values = vs; code = code }))) (Err (Order at)) ≡ Ok r → r.values ≡ vs
      coded vs true (Ok code) e = let same : record { values = vs; code = code } ≡ r = cc in ap (λ r. r.values) (sym same)
      coded vs true (Err f) e = cc
      coded vs false c e = cc

      go : (v : Result (List ℕ) CardFault) → ((vs : List ℕ) → v ≡ Ok vs → vs ≡ map load_part (take (length dims) ws))
          → on_read (λ f. f) v (λ values. cond (follows previous values) (on_read (λ f. f) (code_at a (at + length dims) (drop (length dims) ws)) (λ code. Ok (record { values = values; code = code }))) (Err (Order at))) ≡ Ok r
          → r.values ≡ map load_part (take (length dims) ws)
      go (Ok vs) are e = coded vs (follows previous vs) (code_at a (at + length dims) (drop (length dims) ws)) e ∙ are vs refl
      go (Err f) are e = cc

  module _ {F : Type 0} (rise : CardFault → F) (at : ℕ) (ws : List ℕ) (next : ℕ → List ℕ → Reading F) where
    one_row : (left : ℕ) (e : Entry) → Ok e ≡ row_entry_at a dims previous at ws
        → rows_from a rise (suc left) dims previous at ws next
        ≡ item e (rows_from a rise left dims (Some (map load_part (take (length dims) ws))) (at + (length dims + 2)) (drop (length dims + 2) ws) next)
    unfolding rows_from
    one_row left e read = go (row_at a dims previous at ws) (row_values at ws) read
      where
        go : (r : Result Row CardFault) → ((x : Row) → r ≡ Ok x → x.values ≡ map load_part (take (length dims) ws))
            → Ok e ≡ on_read (λ f. f) r (λ x. Ok (row at (take (length dims) ws) x.code))
            → hand rise r (λ x. item (row at (take (length dims) ws) x.code) (rows_from a rise left dims (Some x.values) (at + length dims + 2) (drop (length dims + 2) ws) next))
            ≡ item e (rows_from a rise left dims (Some (map load_part (take (length dims) ws))) (at + (length dims + 2)) (drop (length dims + 2) ws) next)
        go (Ok x) are read =
            let same : e ≡ row at (take (length dims) ws) x.code = cc in
            rw (same, are x refl, add_assoc at (length dims) 2)
        go (Err f) are read = cc

    pub row_step : (place : ℕ) (rest : List ℕ) → place ≡ at + (length dims + 2) → rest ≡ drop (length dims + 2) ws
        → (n left : ℕ) (dims' : List ℕ) (previous' : Option (List ℕ)) (e : Entry) → Ok e ≡ row_entry_at a dims previous at ws
        → left + 1 ≡ n → dims' ≡ dims → previous' ≡ Some (map load_part (take (length dims) ws))
        → rows_from a rise n dims previous at ws next ≡ item e (rows_from a rise left dims' previous' place rest next)
    row_step place rest there behind n left dims' previous' e read count same last =
        rw (← count, add-one left, last, same, there, behind) (one_row left e read)

    pub row_stop : (n : ℕ) → 0 < n → (f : CardFault) → Err f ≡ row_entry_at a dims previous at ws → rows_from a rise n dims previous at ws next ≡ fault (rise f)
    unfolding rows_from
    row_stop zero h f read = absurd (omega arith)
    row_stop (suc left) h f read = go (row_at a dims previous at ws) read
      where
        go : (r : Result Row CardFault) → Err f ≡ on_read (λ f. f) r (λ x. Ok (row at (take (length dims) ws) x.code))
            → hand rise r (λ x. item (row at (take (length dims) ws) x.code) (rows_from a rise left dims (Some x.values) (at + length dims + 2) (drop (length dims + 2) ws) next)) ≡ fault (rise f)
        go (Ok x) read = cc
        go (Err g) read = cc

module _ {F : Type 0} (rise : WordFault → F) (wrong : ℕ → F) (at : ℕ) (ws : List ℕ) where
  pub end_step : Ok None ≡ end_at at ws → ending rise wrong at ws ≡ item (end (at + 1)) whole
  end_step e = rw (← e)

  pub end_wrong : (place : ℕ) → Ok (Some place) ≡ end_at at ws → ending rise wrong at ws ≡ fault (wrong place)
  end_wrong place e = rw (← e)

  pub end_stop : (f : WordFault) → Err f ≡ end_at at ws → ending rise wrong at ws ≡ fault (rise f)
  end_stop f e = rw (← e)
