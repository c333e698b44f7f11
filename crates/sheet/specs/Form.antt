-- What tells the reading of a sheet from that of a table.
use Rattle.std.specs.Prelude.{ℕ, Bool, List}
use Rattle.words.specs.declared.fault.WordFault.{WordFault}
use Rattle.faults.specs.declared.fault.CardFault.{CardFault}
use Rattle.faults.specs.declared.fault.SheetFault.{SheetFault}
use Rattle.faults.specs.declared.fault.SheetFault.TheVariants as sheet
use Rattle.faults.specs.declared.fault.TableFault.{TableFault}
use Rattle.faults.specs.declared.fault.TableFault.TheVariants as table
use Rattle.faults.specs.Faults.{sheet_of_word, sheet_of_card, table_of_word, table_of_card, table_of_sheet}
use Rattle.sheet.specs.Rules.{covered, exactly}

-- How faults of the layers below are carried in this one's, how its end is wrong, and which slots a card of it may have.
pub record Form (F : Type 0) : Type 0 where
  -- A fault of the words, carried whole.
  pub of_word : WordFault → F
  -- A card's fault, carried whole.
  pub of_card : CardFault → F
  -- A fault of HEAD or of a SLOT, carried whole.
  pub of_sheet : SheetFault → F
  -- END counts other words than those before it, or a word follows it.
  pub wrong_end : ℕ → F
  -- Whether a card may be over the slots in a mask, where the slots that there are have these sizes.
  pub rule : List ℕ → ℕ → Bool

-- A card of a sheet is over slots of the sheet.
abbrev pub sheet_form : Form SheetFault
sheet_form = record { of_word = sheet_of_word; of_card = sheet_of_card; of_sheet = λ f. f; wrong_end = sheet.End; rule = covered }

-- A table's card is over exactly the open slots of the sheet.
abbrev pub table_form : Form TableFault
table_form = record { of_word = table_of_word; of_card = table_of_card; of_sheet = table_of_sheet; wrong_end = table.End; rule = exactly }
