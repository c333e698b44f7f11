-- The number, the place and the finder of each fault.
use Rattle.std.specs.Prelude.{ℕ}
use Rattle.words.specs.declared.fault.WordFault.{WordFault}
use Rattle.words.specs.Faults.{fault_number, fault_place}
use Rattle.faults.specs.declared.fault.Finder.{Finder}
use Rattle.faults.specs.declared.fault.Finder.TheVariants as finder
use Rattle.faults.specs.declared.fault.CardFault.{CardFault}
use Rattle.faults.specs.declared.fault.CardFault.TheVariants as card
use Rattle.faults.specs.declared.fault.SheetFault.{SheetFault}
use Rattle.faults.specs.declared.fault.SheetFault.TheVariants as sheet
use Rattle.faults.specs.declared.fault.TableFault.{TableFault}
use Rattle.faults.specs.declared.fault.TableFault.TheVariants as table
use Rattle.faults.specs.declared.write.WriteFault.{WriteFault}
use Rattle.faults.specs.declared.write.WriteFault.TheVariants as refused

-- a fault of the words, carried whole in a card's fault
abbrev pub card_of_word : WordFault → CardFault
card_of_word = card.Word

-- a fault of the words, carried whole in a sheet's fault
abbrev pub sheet_of_word : WordFault → SheetFault
sheet_of_word = sheet.Word

-- a card's fault, carried whole in a sheet's fault
abbrev pub sheet_of_card : CardFault → SheetFault
sheet_of_card = sheet.Card

-- a fault of the words, carried whole in a table's fault
abbrev pub table_of_word : WordFault → TableFault
table_of_word = table.Word

-- a card's fault, carried whole in a table's fault
abbrev pub table_of_card : CardFault → TableFault
table_of_card = table.Card

-- a sheet's fault, carried whole in a table's fault
abbrev pub table_of_sheet : SheetFault → TableFault
table_of_sheet = table.Sheet

-- a card's faults: 1 and 2 as in the words, 3 for a number, 4 for the order of rows, 5 for a code
abbrev pub card_number : CardFault → ℕ
card_number (card.Word fault) = fault_number fault
card_number (card.Number place) = 3
card_number (card.Order place) = 4
card_number (card.Code place) = 5

-- the place that a card's fault names
abbrev pub card_place : CardFault → ℕ
card_place (card.Word fault) = fault_place fault
card_place (card.Number place) = place
card_place (card.Order place) = place
card_place (card.Code place) = place

-- the layer that found a card's fault
abbrev pub card_finder : CardFault → Finder
card_finder (card.Word fault) = finder.Words
card_finder (card.Number place) = finder.Card
card_finder (card.Order place) = finder.Card
card_finder (card.Code place) = finder.Card

-- a sheet's faults: those of its words and its cards as they are, 3 for a number elsewhere, 6 for its end
abbrev pub sheet_number : SheetFault → ℕ
sheet_number (sheet.Word fault) = fault_number fault
sheet_number (sheet.Card fault) = card_number fault
sheet_number (sheet.Number place) = 3
sheet_number (sheet.End place) = 6

-- the place that a sheet's fault names
abbrev pub sheet_place : SheetFault → ℕ
sheet_place (sheet.Word fault) = fault_place fault
sheet_place (sheet.Card fault) = card_place fault
sheet_place (sheet.Number place) = place
sheet_place (sheet.End place) = place

-- the layer that found a sheet's fault
abbrev pub sheet_finder : SheetFault → Finder
sheet_finder (sheet.Word fault) = finder.Words
sheet_finder (sheet.Card fault) = card_finder fault
sheet_finder (sheet.Number place) = finder.Sheet
sheet_finder (sheet.End place) = finder.Sheet

-- a table's faults: those of its sheet, its words and its card as they are, 6 for its end
abbrev pub table_number : TableFault → ℕ
table_number (table.Sheet fault) = sheet_number fault
table_number (table.Word fault) = fault_number fault
table_number (table.Card fault) = card_number fault
table_number (table.End place) = 6

-- the place that a table's fault names, in the words of the sheet for a fault of the sheet
abbrev pub table_place : TableFault → ℕ
table_place (table.Sheet fault) = sheet_place fault
table_place (table.Word fault) = fault_place fault
table_place (table.Card fault) = card_place fault
table_place (table.End place) = place

-- the layer that found a table's fault
abbrev pub table_finder : TableFault → Finder
table_finder (table.Sheet fault) = sheet_finder fault
table_finder (table.Word fault) = finder.Words
table_finder (table.Card fault) = card_finder fault
table_finder (table.End place) = finder.Table

-- a sheet's fault, carried whole in a writer's fault
abbrev pub write_of_sheet : SheetFault → WriteFault
write_of_sheet = refused.Sheet

-- the numbers of a writer's faults: those of the sheet as they are, 3 for a row, 7 for an output that is too short
abbrev pub write_number : WriteFault → ℕ
write_number (refused.Sheet fault) = sheet_number fault
write_number (refused.Row row) = 3
write_number (refused.Full place) = 7

-- the place that a writer's fault names: a place in the sheet, the index of a row, the usable length of the output
abbrev pub write_place : WriteFault → ℕ
write_place (refused.Sheet fault) = sheet_place fault
write_place (refused.Row row) = row
write_place (refused.Full place) = place

-- the layer that found a writer's fault: its own are found by the table's layer
abbrev pub write_finder : WriteFault → Finder
write_finder (refused.Sheet fault) = sheet_finder fault
write_finder (refused.Row row) = finder.Table
write_finder (refused.Full place) = finder.Table
