-- Valid tables of a sheet that were written are read back beside it, and what is read there without a fault is the written form of a valid table, the one that is read.
use Rattle.std.proofs.Common.{◌≡◌, ℕ, ◌+◌, ◌^◌, ◌<◌, true, List, [], ◌∷◌, ◌++◌, length, Ok, sym, ap, ◌∙◌, zero-add, arith}
use Rattle.std.proofs.lemmas.Bool.{eqb-true}
use Rattle.words.specs.declared.layout.Kind.TheVariants as kind
use Rattle.words.specs.Layout.{word_of}
use Rattle.reckoning.specs.Algebra.{Algebra}
use Rattle.reckoning.specs.Laws.{Laws}
use Rattle.faults.specs.declared.fault.TableFault.TheVariants.{End}
use Rattle.faults.specs.Faults.{table_of_word, table_of_card, table_of_sheet}
use Rattle.sheet.specs.Laws.{OnlyWrittenTables, TablesReadBack}
use Rattle.sheet.specs.ReadCard.{ending}
use Rattle.sheet.specs.ReadSheet.{cards_from, read_sheet}
use Rattle.sheet.specs.ReadTable.{table_from, table_reading}
use Rattle.sheet.specs.Reading.{Built, built}
use Rattle.sheet.specs.Rules.{exactly}
use Rattle.sheet.specs.Scope.{no_sizes, sizes_of, open_slots, mask_in}
use Rattle.sheet.specs.Syntax.{Card, Sheet}
use Rattle.sheet.specs.Valid.{valid_card, valid_table}
use Rattle.sheet.specs.Written.{card_words, table_words}
use Rattle.sheet.proofs.CardsLaws.{end_back, EndWritten, end_written, card_long, card_back, CardWritten, card_written}
use Rattle.sheet.proofs.Passed.{ok_same, on_read_passed, hand_passed}
use Rattle.sheet.proofs.RowsLaws.{Small}
use Rattle.sheet.proofs.ScopesLaws.{all_there_exactly, length_declared}
use Rattle.sheet.proofs.SheetsLaws.{only_written_sheets}
use Rattle.sheet.proofs.SlotsLaws.{slots_small, open_small, sizes_small}
use Rattle.sheet.proofs.ValidParts.{sheet_parts}

table_back : {W : Type 0} {a : Algebra W} (laws : Laws a) (sizes : List ℕ) (t : Card) → length sizes ≡ 12 → Small sizes → valid_card a (exactly sizes) sizes t ≡ true
    → built (table_from a sizes 0 (table_words t)) ≡ Ok (record { rows = []; cards = t ∷ []; slots = [] })
unfolding cards_from
table_back laws sizes t twelve small valid =
    let fits : length (card_words t) < 2 ^ 28 = omega (arith, card_long laws (exactly sizes) sizes twelve small t valid) in
    card_back laws (exactly sizes) sizes twelve small t valid table_of_card 0 _ (ending table_of_word End) [] (end_back table_of_word End _ (length (card_words t)) (omega arith) fits)

-- the sheet was read, so it is valid, and none of its slots is too large
pub tables_read_back : {W : Type 0} (a : Algebra W) → Laws a → (sheet : List ℕ) → TablesReadBack a sheet
tables_read_back a laws sheet s t read valid =
    let slots = open_slots s.slots in
    let slotted = (sheet_parts a s (only_written_sheets laws sheet s read).0).slotted in
    rw (read, table_back laws (sizes_of slots) t (length_declared no_sizes slots) (sizes_small slots (open_small s.slots (slots_small a s.slots _ no_sizes slotted))) valid)

module _ {W : Type 0} (a : Algebra W) (sheet ws : List ℕ) where
  card_and_end_written : (s : Sheet) (cards : List Card) (b : Built) → read_sheet a sheet ≡ Ok s
      → (c : CardWritten a (exactly (sizes_of (open_slots s.slots))) (sizes_of (open_slots s.slots)) (ending table_of_word End) 0 ws b)
      → EndWritten (0 + length (card_words c.one)) c.rest c.after → b.cards ≡ cards
      → (s : Sheet) × (t : Card) × (read_sheet a sheet ≡ Ok s) × (cards ≡ t ∷ []) × (valid_table a s t ≡ true) × (ws ≡ table_words t)
  card_and_end_written s cards b read c ends same =
      let made = c.made (rw ends.made) in
      let alone : c.after.cards ≡ [] = rw ends.made in (
        s,
        c.one,
        read,
        sym same ∙ ap (λ b. b.cards) made ∙ ap (λ cs. c.one ∷ cs) alone,
        c.valid,
        c.words ∙ ap (λ rest. card_words c.one ++ rest) (ends.words ∙ ap (λ n. word_of kind.End n ∷ []) (zero-add (length (card_words c.one)))),
      )

  pub only_written_tables : OnlyWrittenTables a sheet ws
  unfolding cards_from
  only_written_tables cards e =
      let (b, e₁, same) = on_read_passed (λ f. f) (built (table_reading a sheet ws)) _ cards e in
      let (s, read, e₂) = hand_passed table_of_sheet (read_sheet a sheet) _ b e₁ in
      let sizes = sizes_of (open_slots s.slots) in
      let c = card_written a sizes (length_declared no_sizes (open_slots s.slots)) (exactly sizes)
      (λ mask is. rw (eqb-true mask (mask_in sizes) is) (all_there_exactly sizes)) (ending table_of_word End) table_of_card 0 ws b e₂ in
      card_and_end_written s cards b read c (end_written table_of_word End (0 + length (card_words c.one)) c.rest c.after c.goes_on) (ok_same same)
