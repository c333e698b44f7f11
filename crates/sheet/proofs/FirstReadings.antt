-- What a reader has to hand out before its first call.
use Rattle.std.proofs.Common.{◌≡◌, ℕ, List, Ok, Err, Result, ap}
use Rattle.reckoning.specs.Algebra.{Algebra}
use Rattle.faults.specs.declared.fault.SheetFault.{SheetFault}
use Rattle.faults.specs.declared.fault.TableFault.{TableFault}
use Rattle.sheet.specs.declared.body.Body.{Body}
use Rattle.sheet.specs.declared.reader.Reader.{Reader}
use Rattle.sheet.specs.declared.stage.Stage.TheVariants.{Start, Within, Failed}
use Rattle.faults.specs.Faults.{table_of_sheet}
use Rattle.sheet.specs.Form.{sheet_form, table_form}
use Rattle.sheet.specs.ReadSheet.{slots_from, read_sheet, sheet_reading}
use Rattle.sheet.specs.ReadTable.{table_from, table_reading}
use Rattle.sheet.specs.Reading.{fault, on_read, hand}
use Rattle.sheet.specs.Readers.{OfCounts, AtFirst, to_come}
use Rattle.sheet.specs.Scope.{sizes_of, open_slots}
use Rattle.sheet.specs.Syntax.{Sheet}
use Rattle.sheet.proofs.ReaderStates.{at_counts}

module _ {W : Type 0} (a : Algebra W) {R : Type 0} where
  pub first_of_sheet : (r : Reader R SheetFault) (ws : List ℕ) → AtFirst ws Start r → to_come a sheet_form r ≡ sheet_reading a ws
  unfolding to_come
  first_of_sheet r ws first = rw (first.stage, first.place, first.rest)

  module _ (r : Reader R TableFault) (sheet table : List ℕ) where
    -- the sheet is read
    pub first_beside : (sizes : List ℕ) (b : Body) → Ok sizes ≡ on_read (λ f. f) (read_sheet a sheet) (λ s. Ok (sizes_of (open_slots s.slots)))
        → OfCounts 0 0 1 sizes b → AtFirst table (Within b) r → to_come a table_form r ≡ table_reading a sheet table
    unfolding to_come slots_from
    first_beside sizes b read counts first =
        rw (first.stage, at_counts a table_form 0 0 1 sizes b r.cursor counts, first.place, first.rest) (go (read_sheet a sheet) read)
      where
        go : (s : Result Sheet SheetFault) → Ok sizes ≡ on_read (λ f. f) s (λ s. Ok (sizes_of (open_slots s.slots)))
            → table_from a sizes 0 table ≡ hand table_of_sheet s (λ s. table_from a (sizes_of (open_slots s.slots)) 0 table)
        go (Ok s) e = let same : sizes ≡ sizes_of (open_slots s.slots) = cc in ap (λ sizes. table_from a sizes 0 table) same
        go (Err f) e = cc

    -- the sheet is not read
    pub first_failed : (f : SheetFault) → Err f ≡ on_read {B = List ℕ} (λ f. f) (read_sheet a sheet) (λ s. Ok (sizes_of (open_slots s.slots)))
        → r.stage ≡ Failed (table_of_sheet f) → to_come a table_form r ≡ table_reading a sheet table
    unfolding to_come
    first_failed f read stage = rw stage (go (read_sheet a sheet) read)
      where
        go : (s : Result Sheet SheetFault) → Err f ≡ on_read {B = List ℕ} (λ f. f) s (λ s. Ok (sizes_of (open_slots s.slots)))
            → fault (table_of_sheet f) ≡ hand table_of_sheet s (λ s. table_from a (sizes_of (open_slots s.slots)) 0 table)
        go (Ok s) e = cc
        go (Err g) e = cc
