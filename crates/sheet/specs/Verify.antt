-- What reading through to the end finds.
use Rattle.std.specs.Prelude.{ℕ, zero, suc, Bool, cond, List, Ok, Err, Result}
use Rattle.reckoning.specs.Algebra.{Algebra}
use Rattle.faults.specs.declared.fault.TableFault.{TableFault}
use Rattle.sheet.specs.Folds.{is_open}
use Rattle.sheet.specs.ReadTable.{read_table}
use Rattle.sheet.specs.Reading.{Entry, head, slot, card, row, end, Reading, item, whole, fault, on_read}
use Rattle.sheet.specs.Scope.{declare}
use Rattle.sheet.specs.Weight.{same}

-- The sizes of the open slots, after one item more.
abbrev pub noted : List ℕ → Entry → List ℕ
noted sizes (head h) = sizes
noted sizes (slot s) = cond (is_open s.fold) (declare sizes s) sizes
noted sizes (card c) = sizes
noted sizes (row place values code) = sizes
noted sizes (end words) = sizes

-- The sizes of the open slots after all items, or the fault.
unfoldable pub noted_all : {F : Type 0} → Reading F → List ℕ → Result (List ℕ) F
noted_all (item e r) sizes = noted_all r (noted sizes e)
noted_all whole sizes = Ok sizes
noted_all (fault f) sizes = Err f

-- How many items are still to come.
unfoldable pub items : {F : Type 0} → Reading F → ℕ
items (item e r) = suc (items r)
items whole = zero
items (fault f) = zero

-- Whether a reading is whole, or its fault.
unfoldable pub verdict : {F : Type 0} → Reading F → Result (Unit {0}) F
verdict (item e r) = verdict r
verdict whole = Ok tt
verdict (fault f) = Err f

-- Whether two tables that are read beside a sheet are the same words; or the first fault of the one, then of the other.
abbrev pub same_tables : {W : Type 0} → Algebra W → List ℕ → List ℕ → List ℕ → Result Bool TableFault
same_tables a sheet left right =
    on_read (λ f. f) (read_table a sheet left) (λ _. on_read (λ f. f) (read_table a sheet right) (λ _. Ok (same left right)))
