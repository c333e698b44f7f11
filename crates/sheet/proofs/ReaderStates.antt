-- What a body has still to hand out, by its counts.
use Rattle.std.proofs.Common.{◌≡◌, ℕ, zero, suc, ◌-◌, ◌<◌, List, length, take, IsErrAnd, Ok, Err, Option, Result, refl, sym, ap, ◌∙◌, arith}
use Rattle.std.proofs.lemmas.Result.{err_from_is_err_and}
use Rattle.reckoning.specs.Algebra.{Algebra}
use Rattle.words.specs.declared.cursor.Cursor.{Cursor}
use Rattle.faults.specs.declared.fault.CardFault.{CardFault}
use Rattle.sheet.specs.declared.body.Body.{Body}
use Rattle.sheet.specs.declared.item.Item.{Item}
use Rattle.sheet.specs.Form.{Form}
use Rattle.sheet.specs.ReadCard.{row_at, rows_from, card_from, ending}
use Rattle.sheet.specs.ReadSheet.{slots_from, cards_from}
use Rattle.sheet.specs.Reading.{Entry, row, Reading, item, fault, on_read}
use Rattle.sheet.specs.Readers.{entries, handed, left_after, end_or_fault, row_entry_at, rows_to_come, body_to_come, OfCounts}
use Rattle.sheet.specs.Syntax.{Row}

-- the exit of a `?`, which carries a fault as the layer's law says
pub handed_fault : {F : Type 0} {P : F → Type 0} (s : Result Item F) (after : Reading F) (f : F) → IsErrAnd s P → ((y : F) → P y → y ≡ f) → fault f ≡ handed (entries s) after
handed_fault s after f by law = let p = err_from_is_err_and s by in rw (p.1, law p.0 p.2)

pub end_fault : {F : Type 0} {P : F → Type 0} (s : Result ℕ F) (f : F) → IsErrAnd s P → ((y : F) → P y → y ≡ f) → fault f ≡ end_or_fault s
end_fault s f by law = let p = err_from_is_err_and s by in rw (p.1, law p.0 p.2)

module _ {W : Type 0} (a : Algebra W) {F : Type 0} (form : Form F) where
  pub cards_more : (n : ℕ) (sizes : List ℕ) (place : ℕ) (ws : List ℕ) → 0 < n
      → cards_from a form n sizes place ws ≡ card_from a form.of_card (form.rule sizes) sizes place ws (cards_from a form (n - 1) sizes)
  unfolding cards_from
  cards_more zero sizes place ws h = absurd (omega arith)
  cards_more (suc n) sizes place ws h = let less : suc n - 1 ≡ n = omega arith in rw less

  -- after a row there is more to come
  row_goes_on : (dims : List ℕ) (previous : Option (List ℕ)) (place : ℕ) (ws : List ℕ) (e : Entry) (rest : Reading F) → Ok e ≡ row_entry_at a dims previous place ws → left_after (Ok e) rest ≡ rest
  row_goes_on dims previous place ws e rest read = go (row_at a dims previous place ws) read
    where
      go : (r : Result Row CardFault) → Ok e ≡ on_read (λ f. f) r (λ x. Ok (row place (take (length dims) ws) x.code)) → left_after (Ok e) rest ≡ rest
      go (Ok x) read = let same : e ≡ row place (take (length dims) ws) x.code = cc in rw same
      go (Err f) read = cc

  -- what a body has still to hand out, by its counts
  module _ (b : Body) (at : Cursor) where
    pub at_slots : body_to_come a form b at ≡ slots_from a form b.slots b.opens b.sizes at.place at.rest.now (λ sizes place ws. rows_to_come a form.of_card b.rows place ws (cards_from a form b.cards sizes))
    unfolding body_to_come
    at_slots = refl

    pub at_rows : b.slots ≡ 0 → body_to_come a form b at ≡ rows_to_come a form.of_card b.rows at.place at.rest.now (cards_from a form b.cards b.sizes)
    unfolding slots_from
    at_rows none = at_slots ∙ ap (λ n. slots_from a form n b.opens b.sizes at.place at.rest.now (λ sizes place ws. rows_to_come a form.of_card b.rows place ws (cards_from a form b.cards sizes))) none

    pub at_cards : b.slots ≡ 0 → b.rows.left ≡ 0 → body_to_come a form b at ≡ cards_from a form b.cards b.sizes at.place at.rest.now
    unfolding rows_from
    at_cards none no_rows = at_rows none ∙ rw no_rows

    pub at_end : b.slots ≡ 0 → b.rows.left ≡ 0 → b.cards ≡ 0 → body_to_come a form b at ≡ ending form.of_word form.wrong_end at.place at.rest.now
    unfolding cards_from
    at_end none no_rows no_cards = at_cards none no_rows ∙ rw no_cards

    -- what comes after an item, by the counts that are left
    module _ (before : Reading F) (e : Entry) where
      pub then_slots : before ≡ item e (slots_from a form b.slots b.opens b.sizes at.place at.rest.now (λ sizes place ws. rows_to_come a form.of_card b.rows place ws (cards_from a form b.cards sizes)))
          → before ≡ item e (body_to_come a form b at)
      then_slots h = h ∙ ap (item e) (sym at_slots)

      pub then_rows : b.slots ≡ 0 → before ≡ item e (rows_to_come a form.of_card b.rows at.place at.rest.now (cards_from a form b.cards b.sizes))
          → before ≡ item e (body_to_come a form b at)
      then_rows none h = h ∙ ap (item e) (sym (at_rows none))

      pub then_row : (dims : List ℕ) (previous : Option (List ℕ)) (place : ℕ) (ws : List ℕ) → Ok e ≡ row_entry_at a dims previous place ws
          → b.slots ≡ 0 → before ≡ item e (rows_to_come a form.of_card b.rows at.place at.rest.now (cards_from a form b.cards b.sizes))
          → before ≡ item e (left_after (Ok e) (body_to_come a form b at))
      then_row dims previous place ws read none h = then_rows none h ∙ ap (item e) (sym (row_goes_on dims previous place ws e (body_to_come a form b at) read))

  -- what a body has to hand out of which no card is begun
  module _ (slots opens cards : ℕ) (sizes : List ℕ) (b : Body) (at : Cursor) (counts : OfCounts slots opens cards sizes b) where
    pub at_counts : body_to_come a form b at ≡ slots_from a form slots opens sizes at.place at.rest.now (cards_from a form cards)
    unfolding rows_from
    at_counts = at_slots b at ∙ rw (counts.rows, counts.cards_are, counts.slots_are, counts.opens_are, counts.sizes_are)

    pub then_counts : (before : Reading F) (e : Entry) → before ≡ item e (slots_from a form slots opens sizes at.place at.rest.now (cards_from a form cards)) → before ≡ item e (body_to_come a form b at)
    then_counts before e h = h ∙ ap (item e) (sym at_counts)
