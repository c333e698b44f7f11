-- What a reader has still to hand out, by the state that it keeps.
use Rattle.std.specs.Prelude.{◌≡◌, ℕ, ◌+◌, List, map, length, take, Some, Ok, Err, Option, Result}
use Rattle.words.specs.Layout.{load_part}
use Rattle.reckoning.specs.Algebra.{Algebra}
use Rattle.faults.specs.declared.fault.CardFault.{CardFault}
use Rattle.words.specs.declared.cursor.Cursor.{Cursor}
use Rattle.sheet.specs.declared.body.Body.{Body}
use Rattle.sheet.specs.declared.item.Item.{Item}
use Rattle.sheet.specs.declared.rows.CardRows.{CardRows}
use Rattle.sheet.specs.declared.reader.Reader.{Reader}
use Rattle.sheet.specs.declared.stage.Stage.{Stage}
use Rattle.sheet.specs.declared.stage.Stage.TheVariants as stage
use Rattle.sheet.specs.Dims.{dims_list}
use Rattle.sheet.specs.Form.{Form}
use Rattle.sheet.specs.ReadCard.{row_at, rows_from}
use Rattle.sheet.specs.ReadSheet.{slots_from, cards_from, head_from}
use Rattle.sheet.specs.Reading.{Entry, row, end, entry, Reading, item, whole, fault, on_read, loads}

-- What a call that must answer an item answered, by what the item shows.
abbrev pub entries : {E : Type 0} → Result Item E → Result Entry E
entries r = on_read (λ f. f) r (λ i. Ok (entry i))

-- What was to come before a call, from what it answered, an item or a fault, and from what is to come after it.
abbrev pub handed : {F : Type 0} → Result Entry F → Reading F → Reading F
handed (Ok e) after = item e after
handed (Err f) after = fault f

-- What is left after a call, from what it answered: after END nothing, else what is still to come.
abbrev pub left_after : {F : Type 0} → Result Entry F → Reading F → Reading F
left_after (Ok (end words)) rest = whole
left_after answer rest = rest

-- A call handed on what was due: what was to come before it is what it answered, and then what is left after it.
abbrev pub HandsOn : {F : Type 0} → Reading F → Result Item F → Reading F → Type 0
HandsOn before answer rest = before ≡ handed (entries answer) (left_after (entries answer) rest)

-- What was to come at the end, from what reading it answered, the number of all words or a fault.
abbrev pub end_or_fault : {F : Type 0} → Result ℕ F → Reading F
end_or_fault (Ok words) = item (end words) whole
end_or_fault (Err f) = fault f

module _ {W : Type 0} (a : Algebra W) where
  -- The item of a row that is due, over slots of these sizes.
  abbrev pub row_entry_at : List ℕ → Option (List ℕ) → ℕ → List ℕ → Result Entry CardFault
  row_entry_at dims previous place ws =
      on_read (λ f. f) (row_at a dims previous place ws) (λ r. Ok (row place (take (length dims) ws) r.code))

  -- The rows of a card that are still to come, and then what comes next.
  abbrev pub rows_to_come : {F : Type 0} → (CardFault → F) → CardRows → ℕ → List ℕ → (ℕ → List ℕ → Reading F) → Reading F
  rows_to_come rise rows place ws next = rows_from a rise rows.left (dims_list rows.dims) (loads rows.previous) place ws next

  -- What a body has still to hand out from a cursor on.
  unfoldable pub body_to_come : {F : Type 0} → Form F → Body → Cursor → Reading F
  body_to_come form b at =
      slots_from a form b.slots b.opens b.sizes at.place at.rest.now
      (λ sizes place ws. rows_to_come form.of_card b.rows place ws (cards_from a form b.cards sizes))

  -- What a reader has still to hand out.
  unfoldable pub to_come : {R F : Type 0} → Form F → Reader R F → Reading F
  to_come form r =
      elim r.stage [
        | stage.Start ↦ head_from a form r.cursor.place r.cursor.rest.now
        | stage.Within body ↦ body_to_come form body r.cursor
        | stage.Done ↦ whole
        | stage.Failed f ↦ fault f
      ]

-- One row fewer is to come, and the row before it has the values of the words in front.
abbrev pub NextRows : CardRows → CardRows → List ℕ → Type 0
NextRows before after ws =
    (after.left + 1 ≡ before.left) × (after.dims ≡ before.dims)
    × (loads after.previous ≡ Some (map load_part (take (length (dims_list before.dims)) ws)))

-- A body of so many slots, open ones among them, and cards, with these sizes, of which no card is begun.
pub record OfCounts (slots opens cards : ℕ) (sizes : List ℕ) (b : Body) : Type 0 where
  pub slots_are : b.slots ≡ slots
  pub opens_are : b.opens ≡ opens
  pub cards_are : b.cards ≡ cards
  pub sizes_are : b.sizes ≡ sizes
  pub rows : b.rows.left ≡ 0

-- A reader at the first of the words, at a stage that is given.
pub record AtFirst {R F : Type 0} (words : List ℕ) (at : Stage Body F) (r : Reader R F) : Type 0 where
  pub stage : r.stage ≡ at
  pub place : r.cursor.place ≡ 0
  pub rest : r.cursor.rest.now ≡ words
