-- Writing a table: the words that are laid over an output, the row that is refused, and the output afterwards.
use Rattle.std.specs.Prelude.{◌≡◌, ℕ, ◌+◌, ◌-◌, ◌^◌, ◌<◌, min, Bool, true, false, cond, not, ◌&&◌, List, [], ◌∷◌, ◌++◌, length, All, take, drop, is_some, IfOk, Some, None, Ok, Err, Option, Result, nat_le, nat_lt}
use Rattle.std.specs.Borrow.{Bor}
use Rattle.std.specs.Option.{option_map}
use Rattle.reckoning.specs.Algebra.{Algebra}
use Rattle.writer.specs.declared.write.TableRow.{TableRow}
use Rattle.faults.specs.declared.write.WriteFault.{WriteFault}
use Rattle.faults.specs.declared.write.WriteFault.TheVariants as refused
use Rattle.sheet.specs.Order.{follows}
use Rattle.sheet.specs.Reading.{on_read}
use Rattle.sheet.specs.ReadSheet.{read_sheet}
use Rattle.sheet.specs.ReadTable.{read_table}
use Rattle.sheet.specs.Rules.{listed}
use Rattle.sheet.specs.Scope.{picked, scope_of, sizes_of, mask_in, open_slots}
use Rattle.sheet.specs.Syntax.{Row, Card, Sheet}
use Rattle.sheet.specs.Valid.{in_range, valid_table}
use Rattle.sheet.specs.Written.{table_words}

-- The row of a card that a row to be written stands for.
abbrev pub row_of : TableRow → Row
row_of r = record { values = r.values.now; code = r.code }

-- The values of the row before, if there is one.
abbrev pub values_in : Option (Bor (List ℕ)) → Option (List ℕ)
values_in previous = option_map (λ values. values.now) previous

-- The words with others laid over them from a place on: what stands before that place and behind the others is kept.
unfoldable pub laid : ℕ → List ℕ → List ℕ → List ℕ
laid at others ws = take at ws ++ (others ++ drop (at + length others) ws)

-- A row's numbers fit their words: each value a load, the code two loads.
abbrev pub Writable : Row → Type 0
Writable r = All (λ v. v < 2 ^ 28) r.values × (r.code < 2 ^ 56)

-- The card with these rows over the slots in a mask.
abbrev pub card_over : ℕ → List Row → Card
card_over mask rows = record { scope = scope_of mask; rows = rows }

-- The card with these rows over exactly the open slots of a sheet.
abbrev pub table_of : Sheet → List Row → Card
table_of s rows = card_over (mask_in (sizes_of (open_slots s.slots))) rows

-- The sizes of the slots that are there, by rising slot number.
abbrev pub sizes_there : List ℕ → List ℕ
sizes_there sizes = picked (mask_in sizes) sizes

-- So many words of an output are used, however long it is.
abbrev pub usable : List ℕ → ℕ
usable out = min (length out) (2 ^ 16)

-- What laying a table over an output answers, with the output afterwards. It has room where it is no longer than the usable output: its
-- words stand in front of what stood behind them; else the output is as it was.
abbrev pub write_card : Card → List ℕ → Result ℕ WriteFault × List ℕ
write_card t out =
    let ws = table_words t in
    cond (nat_le (length ws) (usable out)) (Ok (length ws), ws ++ drop (length ws) out) (Err (refused.Full (usable out)), out)

-- A card, unless this row of it is refused.
abbrev pub unless : Option ℕ → Card → Result Card WriteFault
unless (Some row) t = Err (refused.Row row)
unless None t = Ok t

-- What writing a card that was accepted answers, with the output afterwards; or the fault, with the output as it was.
abbrev pub write_accepted : Result Card WriteFault → List ℕ → Result ℕ WriteFault × List ℕ
write_accepted (Ok t) out = write_card t out
write_accepted (Err f) out = (Err f, out)

module _ {W : Type 0} (a : Algebra W) where
  -- Whether a row may stand at this index over slots of these sizes: the rows with it can be counted in 16 bits, its values are in range and
  -- come after those of the row before, and its code is a weight's and not zero's.
  abbrev pub row_fits : List ℕ → Option (List ℕ) → ℕ → Row → Bool
  row_fits dims previous index r = nat_lt index (2 ^ 16 - 1) && in_range dims r.values && follows previous r.values && listed a r.code

  -- The index of the first row that is refused, if one is, where the first row of these has the index given.
  unfoldable pub first_wrong : List ℕ → Option (List ℕ) → ℕ → List Row → Option ℕ
  first_wrong dims previous index [] = None
  first_wrong dims previous index (r ∷ rs) = cond (row_fits dims previous index r) (first_wrong dims (Some r.values) (index + 1) rs) (Some index)

  -- The table of the rows beside the words of its sheet: a fault of the sheet comes first, then a row that is refused.
  abbrev pub accepted : List ℕ → List Row → Result Card WriteFault
  accepted sheet rows =
      on_read refused.Sheet (read_sheet a sheet) (λ s. unless (first_wrong (sizes_there (sizes_of (open_slots s.slots))) None 0 rows) (table_of s rows))

  -- What writing a table beside the words of its sheet answers, with the output afterwards.
  unfoldable pub write : List ℕ → List Row → List ℕ → Result ℕ WriteFault × List ℕ
  write sheet rows out = write_accepted (accepted sheet rows) out

  -- What was accepted reads back: the words that were written are read beside the sheet as the card of the rows.
  abbrev pub WrittenReadsBack : List ℕ → List Row → Result ℕ WriteFault → List ℕ → Type 0
  WrittenReadsBack sheet rows answer out =
      IfOk answer (λ n. (s : Sheet) × (read_sheet a sheet ≡ Ok s) × (read_table a sheet (take n out) ≡ Ok (table_of s rows ∷ [])))

  -- No row is refused exactly where the card of the rows is a valid table of the sheet.
  abbrev pub RefusesInvalid : List ℕ → List Row → Type 0
  RefusesInvalid sheet rows =
      (s : Sheet) → read_sheet a sheet ≡ Ok s
      → valid_table a s (table_of s rows) ≡ not (is_some (first_wrong (sizes_there (sizes_of (open_slots s.slots))) None 0 rows))

  -- A row that is refused is the first one: the rows before it are a valid table of the sheet, and with it they are none.
  abbrev pub RefusesFirst : List ℕ → List Row → Result ℕ WriteFault → Type 0
  RefusesFirst sheet rows answer =
      (s : Sheet) (row : ℕ) → read_sheet a sheet ≡ Ok s → answer ≡ Err (refused.Row row)
      → (valid_table a s (table_of s (take row rows)) ≡ true) × (valid_table a s (table_of s (take (row + 1) rows)) ≡ false)
