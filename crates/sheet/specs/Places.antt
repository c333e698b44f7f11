-- Where what a reader hands out stands in the words.
use Rattle.std.specs.Prelude.{◌≡◌, ℕ, ◌+◌, ◌-◌, List, [], ◌∷◌, ◌++◌, length, take, drop}
use Rattle.words.specs.declared.layout.Kind.TheVariants as kind
use Rattle.words.specs.Layout.{word_of, high_part, low_part}
use Rattle.sheet.specs.Loads.{head_load, slot_load, card_load}
use Rattle.sheet.specs.Reading.{Entry, head, slot, card, row, end, Reading, item, whole, fault}

-- The words that an item shows: those of a row are its VALUE words, then HIGH and LOW with its code; END holds the number of words before it.
abbrev pub entry_words : Entry → List ℕ
entry_words (head h) = word_of kind.Head (head_load h) ∷ []
entry_words (slot s) = word_of kind.Slot (slot_load s) ∷ []
entry_words (card c) = word_of kind.Card (card_load c) ∷ []
entry_words (row place values code) = values ++ (word_of kind.High (high_part code) ∷ word_of kind.Low (low_part code) ∷ [])
entry_words (end words) = word_of kind.End (words - 1) ∷ []

-- What an item that begins at a place says of it: a row names the place, and the end counts all the words.
abbrev pub Placed : List ℕ → ℕ → Entry → Type 0
Placed ws at (head h) = Unit {0}
Placed ws at (slot s) = Unit {0}
Placed ws at (card c) = Unit {0}
Placed ws at (row place values code) = place ≡ at
Placed ws at (end words) = words ≡ length ws

-- The items are the words from a place on, one after another, up to a fault or, where all is whole, up to the last word.
unfoldable pub Stands : {F : Type 0} → List ℕ → ℕ → Reading F → Type 0
Stands ws at (item e rest) = (take (length (entry_words e)) (drop at ws) ≡ entry_words e) × Placed ws at e × Stands ws (at + length (entry_words e)) rest
Stands ws at whole = at ≡ length ws
Stands ws at (fault f) = Unit {0}
