-- Reading a table beside its sheet.
use Rattle.std.specs.Prelude.{ℕ, List, Ok, Result}
use Rattle.reckoning.specs.Algebra.{Algebra}
use Rattle.faults.specs.declared.fault.TableFault.{TableFault}
use Rattle.faults.specs.Faults.{table_of_sheet}
use Rattle.sheet.specs.Form.{table_form}
use Rattle.sheet.specs.ReadSheet.{cards_from, read_sheet}
use Rattle.sheet.specs.Reading.{Reading, on_read, hand, built}
use Rattle.sheet.specs.Scope.{sizes_of, open_slots}
use Rattle.sheet.specs.Syntax.{Card}

module _ {W : Type 0} (a : Algebra W) where
  -- All of a table, one card and the end, over open slots of these sizes.
  abbrev pub table_from : List ℕ → ℕ → List ℕ → Reading TableFault
  table_from sizes place ws = cards_from a table_form 1 sizes place ws

  -- What the words of a table hand out beside the words of its sheet, of which a fault comes first.
  abbrev pub table_reading : List ℕ → List ℕ → Reading TableFault
  table_reading sheet ws = hand table_of_sheet (read_sheet a sheet) (λ s. table_from (sizes_of (open_slots s.slots)) 0 ws)

  -- The table that the words hold, as the one card that was read, or the first fault.
  abbrev pub read_table : List ℕ → List ℕ → Result (List Card) TableFault
  read_table sheet ws = on_read (λ f. f) (built (table_reading sheet ws)) (λ b. Ok b.cards)
