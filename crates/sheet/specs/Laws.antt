-- The laws of reading and writing, in the subject's words.
use Rattle.std.specs.Prelude.{◌≡◌, ℕ, Bool, true, List, [], ◌∷◌, map, Ok, Result, MatchResult, ◌≢◌}
use Rattle.reckoning.specs.Algebra.{Algebra}
use Rattle.faults.specs.declared.fault.SheetFault.{SheetFault}
use Rattle.faults.specs.declared.fault.TableFault.{TableFault}
use Rattle.sheet.specs.ReadSheet.{read_sheet}
use Rattle.sheet.specs.ReadTable.{read_table}
use Rattle.sheet.specs.Scope.{size_in, sizes_of, open_slots}
use Rattle.sheet.specs.Syntax.{Card, Sheet}
use Rattle.sheet.specs.Valid.{in_range, valid_sheet, valid_table}
use Rattle.sheet.specs.Weight.{weight}
use Rattle.sheet.specs.Written.{sheet_words, table_words}

module _ {W : Type 0} (a : Algebra W) where
  -- Words that are read without a fault are the written form of a valid sheet, the one that is read.
  abbrev pub OnlyWrittenSheets : List ℕ → Type 0
  OnlyWrittenSheets ws = (s : Sheet) → read_sheet a ws ≡ Ok s → (valid_sheet a s ≡ true) × (ws ≡ sheet_words s)

  -- An answer is without a fault exactly where the words are the written form of a valid sheet.
  abbrev pub WholeSheets : List ℕ → Result (Unit {0}) SheetFault → Type 0
  WholeSheets ws r =
      MatchResult r (λ _. (s : Sheet) × (valid_sheet a s ≡ true) × (ws ≡ sheet_words s)) (λ _. (s : Sheet) → valid_sheet a s ≡ true → ws ≢ sheet_words s)

  -- Reading gives back the sheet that was written, for every valid sheet.
  abbrev pub SheetsReadBack : Type 0
  SheetsReadBack = (s : Sheet) → valid_sheet a s ≡ true → read_sheet a (sheet_words s) ≡ Ok s

  -- Words that are read without a fault beside a sheet are the written form of a valid table of the sheet, the one that is read.
  abbrev pub OnlyWrittenTables : List ℕ → List ℕ → Type 0
  OnlyWrittenTables sheet ws =
      (cards : List Card) → read_table a sheet ws ≡ Ok cards
      → (s : Sheet) × (t : Card) × (read_sheet a sheet ≡ Ok s) × (cards ≡ t ∷ []) × (valid_table a s t ≡ true) × (ws ≡ table_words t)

  -- An answer is without a fault exactly where the sheet is whole and the words are the written form of a valid table of it.
  abbrev pub WholeTables : List ℕ → List ℕ → Result (Unit {0}) TableFault → Type 0
  WholeTables sheet ws r =
      MatchResult r (λ _. (s : Sheet) × (t : Card) × (read_sheet a sheet ≡ Ok s) × (valid_table a s t ≡ true) × (ws ≡ table_words t))
      (λ _. (s : Sheet) (t : Card) → read_sheet a sheet ≡ Ok s → valid_table a s t ≡ true → ws ≢ table_words t)

  -- Reading gives back the table that was written, for every valid table of a sheet that is read.
  abbrev pub TablesReadBack : List ℕ → Type 0
  TablesReadBack sheet =
      (s : Sheet) (t : Card) → read_sheet a sheet ≡ Ok s → valid_table a s t ≡ true → read_table a sheet (table_words t) ≡ Ok (t ∷ [])

  -- Two tables of a sheet give every combination of values of the open slots the same weight.
  abbrev pub SameWeights : Sheet → Card → Card → Type 0
  SameWeights s t u =
      (values : List ℕ) → in_range (map (size_in (sizes_of (open_slots s.slots))) t.scope) values ≡ true → weight a t values ≡ weight a u values

  -- Equal tables are equal words.
  abbrev pub EqualTables : Type 0
  EqualTables =
      (s : Sheet) (t u : Card) → valid_table a s t ≡ true → valid_table a s u ≡ true → SameWeights s t u → table_words t ≡ table_words u

  -- Where both tables are read, the answer says whether they give every combination the same weight.
  abbrev pub ToldByWeights : List ℕ → List ℕ → List ℕ → Result Bool TableFault → Type 0
  ToldByWeights sheet left right r =
      MatchResult r (λ told. (s : Sheet) × (t : Card) × (u : Card) × (read_sheet a sheet ≡ Ok s) × (valid_table a s t ≡ true) × (valid_table a s u ≡ true)
      × (left ≡ table_words t) × (right ≡ table_words u) × (told ≡ true → SameWeights s t u) × (SameWeights s t u → told ≡ true)) (λ _. Unit {0})
