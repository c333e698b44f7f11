-- Valid sheets that were written are read back, and what is read as a sheet without a fault is the written form of a valid sheet, the one that is read.
use Rattle.std.proofs.Common.{◌≡◌, ℕ, suc, ◌+◌, ◌^◌, ◌<◌, ◌≤◌, true, ◌&&◌, leb, List, ◌∷◌, ◌++◌, map, length, drop, Ok, ap, ◌∙◌, append_assoc, arith, length-append}
use Rattle.std.proofs.lemmas.List.{append-nil, length-map}
use Rattle.std.proofs.lemmas.Bool.{and_parts, and_from, leb-true, le-leb}
use Rattle.words.specs.declared.layout.Kind.TheVariants as kind
use Rattle.words.specs.Layout.{word_of}
use Rattle.reckoning.specs.Algebra.{Algebra}
use Rattle.reckoning.specs.Laws.{Laws}
use Rattle.faults.specs.declared.fault.SheetFault.TheVariants.{Number}
use Rattle.sheet.specs.Form.{sheet_form}
use Rattle.sheet.specs.declared.item.Head.{Head}
use Rattle.faults.specs.Faults.{sheet_of_word}
use Rattle.sheet.specs.Laws.{OnlyWrittenSheets, SheetsReadBack}
use Rattle.sheet.specs.Loads.{head_of, head_load}
use Rattle.sheet.specs.ReadSheet.{head_at, cards_from, head_from, read_sheet}
use Rattle.sheet.specs.Reading.{head, Built, built}
use Rattle.sheet.specs.Rules.{head_fits}
use Rattle.sheet.specs.Scope.{no_sizes, sizes_of, open_slots}
use Rattle.sheet.specs.Syntax.{Sheet}
use Rattle.sheet.specs.Valid.{valid_sheet}
use Rattle.sheet.specs.Written.{head_word, slot_word, cards_words, sheet_words}
use Rattle.sheet.proofs.CardsLaws.{cards_back, cards_long, CardsWritten, cards_written}
use Rattle.sheet.proofs.LoadsLaws.{word_back, WordWritten, word_written, head_kept, head_again}
use Rattle.sheet.proofs.Passed.{ok_same, on_read_passed, hand_passed, item_passed}
use Rattle.sheet.proofs.ScopesLaws.{length_declared}
use Rattle.sheet.proofs.SlotsLaws.{slots_small, sizes_small, open_few, open_slots_due, slots_back, SlotsWritten, slots_written}
use Rattle.sheet.proofs.ValidParts.{SheetParts, sheet_parts}

-- HEAD and SLOT words and cards, one after another
words_counted : (s : Sheet) → 1 + length s.slots + length (cards_words s.cards) ≡ suc (length (map slot_word s.slots ++ cards_words s.cards))
words_counted s = rw (length-append, length-map) (omega arith)

module _ {W : Type 0} {a : Algebra W} (laws : Laws a) where
  module _ (s : Sheet) (parts : SheetParts a s) where
    head_back : (rest : List ℕ) → head_at 0 (head_word s ∷ rest) ≡ Ok (record { slots = length s.slots; «open» = length (open_slots s.slots); cards = length s.cards })
    unfolding head_at
    head_back rest =
        let few = open_few s.slots in
        word_back sheet_of_word kind.Head head_of head_load head_fits (Number 0) 0 _ rest (head_kept _ (omega arith) (omega arith) (omega arith))
        (and_from _ _ (and_from _ _ (le-leb _ _ parts.slots_few) (le-leb _ _ few)) (le-leb _ _ parts.cards_few))

    sheet_back : read_sheet a (sheet_words s) ≡ Ok s
    unfolding head_from built
    sheet_back =
        let sizes = sizes_of s.slots in
        let twelve : length sizes ≡ 12 = length_declared no_sizes s.slots in
        let small = sizes_small s.slots (slots_small a s.slots _ no_sizes parts.slotted) in
        let fits : suc (length (map slot_word s.slots ++ cards_words s.cards)) < 2 ^ 28 =
        omega (arith, words_counted s, cards_long laws sizes twelve small s.cards parts.carded) in
        let cards = cards_back laws sizes twelve small s.cards (1 + length s.slots) _ parts.carded (words_counted s) fits in
        rw (
          head_back,
          append_assoc (map slot_word s.slots),
          slots_back laws s.slots (length (open_slots s.slots)) no_sizes 1 _ (cards_from a sheet_form (length s.cards)) s.cards parts.slotted cards,
        )

pub sheets_read_back : {W : Type 0} (a : Algebra W) → Laws a → SheetsReadBack a
sheets_read_back a laws s valid = sheet_back laws s (sheet_parts a s valid)

-- the sheet that a reading makes up
abbrev sheet_of : Built → Sheet
sheet_of b = record { slots = b.slots; cards = b.cards }

module _ {W : Type 0} {a : Algebra W} (laws : Laws a) (ws : List ℕ) where
  parts_written : (h : Head) (b : Built) → WordWritten kind.Head head_of head_load head_fits ws h
      → (slots : SlotsWritten a (cards_from a sheet_form h.cards) h.slots h.«open» no_sizes 1 (drop 1 ws) b)
      → CardsWritten a (sizes_of slots.slots) h.cards (1 + length slots.slots) slots.rest slots.after
      → (valid_sheet a (sheet_of b) ≡ true) × (ws ≡ sheet_words (sheet_of b))
  parts_written h b word slots cards =
      let made : b ≡ record { rows = slots.after.rows; cards = slots.after.cards; slots = slots.slots } = slots.made ∙ rw (cards.no_slots, append-nil) in
      let (slots-fit, cards_few) = and_parts (leb h.slots 12 && leb h.«open» h.slots) (leb h.cards 24) word.fits in
      let (slots_few, open-within) = and_parts (leb h.slots 12) (leb h.«open» h.slots) slots-fit in
      let within : h.«open» ≤ length slots.slots = rw slots.count (leb-true h.«open» h.slots open-within) in
      let are-open = open_slots_due laws slots.slots h.«open» no_sizes slots.valid within in
      let total = words_counted (record { slots = slots.slots; cards = slots.after.cards }) in
      let words = word.words ∙ ap (λ rest. word_of kind.Head (head_load h) ∷ rest) (slots.words ∙ ap (λ rest. map slot_word slots.slots ++ rest) cards.words) in
      rw made (
        rw (slots.count, cards.count, are-open, slots_few, cards_few, slots.valid) cards.valid,
        rw (slots.count, cards.count, are-open, ← total, append_assoc (map slot_word slots.slots)) words,
      )

  pub only_written_sheets : OnlyWrittenSheets a ws
  unfolding head_from head_at
  only_written_sheets s e =
      let (b, e₁, same) = on_read_passed (λ f. f) (built (head_from a sheet_form 0 ws)) _ s e in
      let (h, read, e₂) = hand_passed (λ f. f) (head_at 0 ws) _ b e₁ in
      let (rest, e₃, made) = item_passed (head h) _ b e₂ in
      let slots = slots_written a (cards_from a sheet_form h.cards) h.slots h.«open» no_sizes 1 (drop 1 ws) rest e₃ in
      rw (← ok_same same, made)
      (parts_written h rest (word_written sheet_of_word kind.Head head_of head_load head_fits (Number 0) 0 head_again ws h read) slots
      (cards_written a (sizes_of slots.slots) (length_declared no_sizes slots.slots) h.cards (1 + length slots.slots) slots.rest slots.after slots.goes_on))
