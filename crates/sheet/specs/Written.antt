-- The words of a sheet and of a table: what a writer writes.
use Rattle.std.specs.Prelude.{ℕ, List, [], ◌∷◌, ◌++◌, map, length}
use Rattle.words.specs.Layout.{word_of, high_part, low_part}
use Rattle.words.specs.declared.layout.Kind.TheVariants as kind
use Rattle.sheet.specs.declared.item.Slot.{Slot}
use Rattle.sheet.specs.Syntax.{Row, Card, Sheet}
use Rattle.sheet.specs.Scope.{mask_of, open_slots}
use Rattle.sheet.specs.Loads.{head_load, slot_load, card_load}

-- HEAD counts the slots, the open slots and the cards.
abbrev pub head_word : Sheet → ℕ
head_word s = word_of kind.Head (head_load (record { slots = length s.slots; «open» = length (open_slots s.slots); cards = length s.cards }))

-- SLOT holds a slot's number, the mark of its fold and its size.
abbrev pub slot_word : Slot → ℕ
slot_word s = word_of kind.Slot (slot_load s)

-- A row is a VALUE word for each slot of its card, then HIGH and LOW.
abbrev pub row_words : Row → List ℕ
row_words r = map (word_of kind.Value) r.values ++ (word_of kind.High (high_part r.code) ∷ word_of kind.Low (low_part r.code) ∷ [])

-- Rows stand one after another.
unfoldable pub rows_words : List Row → List ℕ
rows_words [] = []
rows_words (r ∷ rs) = row_words r ++ rows_words rs

-- A card is a CARD word, then its rows.
abbrev pub card_words : Card → List ℕ
card_words c = word_of kind.Card (card_load (record { scope = mask_of c.scope; rows = length c.rows })) ∷ rows_words c.rows

-- Cards stand one after another.
unfoldable pub cards_words : List Card → List ℕ
cards_words [] = []
cards_words (c ∷ cs) = card_words c ++ cards_words cs

-- END counts the words before it.
abbrev pub ended : List ℕ → List ℕ
ended ws = ws ++ (word_of kind.End (length ws) ∷ [])

-- A sheet is HEAD, its SLOT words in running order, its cards, and END.
abbrev pub sheet_words : Sheet → List ℕ
sheet_words s = ended (head_word s ∷ (map slot_word s.slots ++ cards_words s.cards))

-- A table is one card, and END.
abbrev pub table_words : Card → List ℕ
table_words c = ended (card_words c)
