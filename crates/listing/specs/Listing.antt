-- The listing of a reading: a line for each item, and a line for the fault where there is one, each with its line feed.
use Rattle.std.specs.Prelude.{ℕ, List, [], ◌∷◌, ◌++◌}
use Rattle.input.specs.declared.names.Name.{Name}
use Rattle.faults.specs.declared.fault.Finder.{Finder}
use Rattle.faults.specs.declared.fault.SheetFault.{SheetFault}
use Rattle.faults.specs.declared.fault.TableFault.{TableFault}
use Rattle.faults.specs.Faults.{sheet_number, sheet_place, sheet_finder, table_number, table_place, table_finder}
use Rattle.faults.specs.Printed.{refusal_line}
use Rattle.sheet.specs.Reading.{Reading, item, whole, fault}
use Rattle.listing.specs.ItemLine.{item_line}

-- a line and its line feed
abbrev pub ended : List ℕ → List ℕ
ended line = line ++ (10 ∷ [])

-- the listing, where a fault has the line that `refused` says
unfoldable pub listing : {F : Type 0} → (F → List ℕ) → Name → Reading F → List ℕ
listing refused name (item e rest) = ended (item_line name e) ++ listing refused name rest
listing refused name whole = []
listing refused name (fault f) = ended (refused f)

-- the line of a fault, by its number, its place and its finder
abbrev pub refused_as : {F : Type 0} → (F → ℕ) → (F → ℕ) → (F → Finder) → F → List ℕ
refused_as number place finder f = refusal_line (number f) (place f) (finder f)

-- the line of a sheet's fault
abbrev pub sheet_refused : SheetFault → List ℕ
sheet_refused f = refused_as sheet_number sheet_place sheet_finder f

-- the line of a table's fault
abbrev pub table_refused : TableFault → List ℕ
table_refused f = refused_as table_number table_place table_finder f

-- the listing of a sheet's reading
abbrev pub sheet_listing : Name → Reading SheetFault → List ℕ
sheet_listing name reading = listing sheet_refused name reading

-- the listing of a table's reading
abbrev pub table_listing : Name → Reading TableFault → List ℕ
table_listing name reading = listing table_refused name reading
