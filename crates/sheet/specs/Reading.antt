-- What a reader hands out, item by item, and what the items make up.
use Rattle.std.specs.Prelude.{ℕ, List, [], ◌∷◌, map, Some, None, Ok, Err, Option, Result}
use Rattle.std.specs.Borrow.{Bor}
use Rattle.std.specs.Option.{option_map}
use Rattle.words.specs.Layout.{load_part}
use Rattle.sheet.specs.declared.item.Head.{Head}
use Rattle.sheet.specs.declared.item.Slot.{Slot}
use Rattle.sheet.specs.declared.item.CardHead.{CardHead}
use Rattle.sheet.specs.declared.item.Item.{Item}
use Rattle.sheet.specs.declared.item.Item.TheVariants as item_case
use Rattle.sheet.specs.Syntax.{Row, Card}
use Rattle.sheet.specs.Scope.{scope_of}

-- An item, by what it shows: of a row, the place of its first word, its VALUE words and its code.
pub data Entry : Type 0 where
  head : Head → Entry
  slot : Slot → Entry
  card : CardHead → Entry
  row : ℕ → List ℕ → ℕ → Entry
  end : ℕ → Entry

-- What an item of a reader shows.
abbrev pub entry : Item → Entry
entry (item_case.Head h) = head h
entry (item_case.Slot s) = slot s
entry (item_case.Card c) = card c
entry (item_case.Row place values code) = row place values.now code
entry (item_case.End words) = end words

-- A reading: items, and then that all is whole, or the first fault.
pub data Reading (F : Type 0) : Type 0 where
  item : Entry → Reading F → Reading F
  whole : Reading F
  fault : F → Reading F

-- What the next call answers: an item, nothing more, or the fault.
abbrev pub answer_of : {F : Type 0} → Reading F → Result (Option Entry) F
answer_of (item e rest) = Ok (Some e)
answer_of whole = Ok None
answer_of (fault f) = Err f

-- What is left to answer after that: after the end nothing, and after a fault the same fault.
abbrev pub rest_of : {F : Type 0} → Reading F → Reading F
rest_of (item e r) = r
rest_of whole = whole
rest_of (fault f) = fault f

-- What a call answered, by what its item shows.
abbrev pub shown : {F : Type 0} → Result (Option Item) F → Result (Option Entry) F
shown (Ok found) = Ok (option_map entry found)
shown (Err f) = Err f

-- Go on with what was read; or the fault of the layer below, carried in the fault of this one.
abbrev pub on_read : {A B E F : Type 0} → (E → F) → Result A E → (A → Result B F) → Result B F
on_read rise (Ok x) next = next x
on_read rise (Err f) next = Err (rise f)

-- Go on with the items that follow what was read; or end with its fault, carried in the fault of this layer.
abbrev pub hand : {A E F : Type 0} → (E → F) → Result A E → (A → Reading F) → Reading F
hand rise (Ok x) next = next x
hand rise (Err f) next = fault (rise f)

-- Whether something was read, or its fault, where a call does not answer what it read.
abbrev pub erased : {A E : Type 0} → Result A E → Result (Unit {0}) E
erased r = on_read (λ f. f) r (λ _. Ok tt)

-- The code of a row that was read, or the fault.
abbrev pub code_only : {E : Type 0} → Result Row E → Result ℕ E
code_only r = on_read (λ f. f) r (λ row. Ok row.code)

-- The first part of what was read, or the fault.
abbrev pub firsts : {A B E : Type 0} → Result (A × B) E → Result A E
firsts r = on_read (λ f. f) r (λ p. Ok p.0)

-- The values in the words of the row before, if there is one, where f takes a value out of its word.
abbrev pub values_by : (ℕ → ℕ) → Option (Bor (List ℕ)) → Option (List ℕ)
values_by f None = None
values_by f (Some words) = Some (map f words.now)

-- The values in the VALUE words of the row before, if there is one.
abbrev pub loads : Option (Bor (List ℕ)) → Option (List ℕ)
loads previous = values_by load_part previous

-- What some last items make up: rows whose card is not among them, cards and slots.
pub record Built : Type 0 where
  pub rows : List Row
  pub cards : List Card
  pub slots : List Slot

-- One item in front of what was built.
abbrev pub put : Entry → Built → Built
put (head h) b = b
put (slot s) b = record { rows = b.rows; cards = b.cards; slots = s ∷ b.slots }
put (card c) b = record { rows = []; cards = record { scope = scope_of c.scope; rows = b.rows } ∷ b.cards; slots = b.slots }
put (row place values code) b = record { rows = record { values = map load_part values; code = code } ∷ b.rows; cards = b.cards; slots = b.slots }
put (end words) b = b

-- What a whole reading makes up, or its fault.
unfoldable pub built : {F : Type 0} → Reading F → Result Built F
built (item e r) = on_read (λ f. f) (built r) (λ b. Ok (put e b))
built whole = Ok (record { rows = []; cards = []; slots = [] })
built (fault f) = Err f
