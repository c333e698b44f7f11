-- The whole text that is printed for an input.
use Rattle.std.specs.Prelude.{ℕ, List, [], ◌∷◌, Some, None, codes, Option}
use Rattle.std.specs.Option.{option_map}
use Rattle.reckoning.specs.Algebra.{Algebra}
use Rattle.reckoning.specs.Possible.{possible_algebra}
use Rattle.reckoning.specs.Count.{count_algebra}
use Rattle.reckoning.specs.Cost.{cost_algebra}
use Rattle.input.specs.declared.names.Name.{Name}
use Rattle.input.specs.declared.names.Name.TheVariants.{Possible, Count, Cost}
use Rattle.input.specs.Lines.{lines_of, later_lines}
use Rattle.input.specs.Names.{name_of}
use Rattle.input.specs.Runs.{run, after_run, within}
use Rattle.sheet.specs.ReadSheet.{sheet_reading}
use Rattle.sheet.specs.ReadTable.{table_reading}
use Rattle.listing.specs.declared.answer.Task.{Task}
use Rattle.listing.specs.declared.answer.Task.TheVariants.{Sheet, Table}
use Rattle.listing.specs.Listing.{ended, sheet_listing, table_listing}

-- what the lines behind the name ask to list in a reckoning of this meaning; none where the sheet, or the table that
-- follows it, has more than 4,096 words
abbrev pub asked_in : {W : Type 0} → Algebra W → Task → Name → List (List ℕ) → Option (List ℕ)
asked_in a Sheet name lines = option_map (λ sheet. sheet_listing name (sheet_reading a sheet)) (within 4096 (run lines))
asked_in a Table name lines =
    elim (within 4096 (run lines)) [
      | None ↦ None
      | Some sheet ↦ option_map (λ table. table_listing name (table_reading a sheet table)) (within 4096 (run (after_run lines)))
    ]

-- what is listed, or that the input is not one for this program
abbrev pub or_unknown : Option (List ℕ) → List ℕ
or_unknown None = ended (codes "unknown")
or_unknown (Some text) = text

-- the reckoning that the first of these lines names
abbrev pub first_name : List (List ℕ) → Option Name
first_name [] = None
first_name (line ∷ lines) = name_of line

-- what an input asks to list, by the name in its first line and the lines behind that one
abbrev pub asked : Task → Option Name → List (List ℕ) → Option (List ℕ)
asked task None lines = None
asked task (Some Possible) lines = asked_in possible_algebra task Possible lines
asked task (Some Count) lines = asked_in count_algebra task Count lines
asked task (Some Cost) lines = asked_in cost_algebra task Cost lines

-- the text for an input of these bytes, which lists its sheet or its table
abbrev pub inspected : Task → List ℕ → List ℕ
inspected task bytes = or_unknown (asked task (first_name (lines_of bytes)) (later_lines (lines_of bytes)))
