-- Reading a card: its CARD word, and its rows. The words are those from the place on.
use Rattle.std.specs.Prelude.{ℕ, zero, suc, ◌+◌, Bool, cond, List, [], ◌∷◌, length, take, drop, Some, None, Ok, Err, Option, Result, ◌==◌, nat_lt}
use Rattle.words.specs.declared.fault.WordFault.{WordFault}
use Rattle.words.specs.declared.layout.Kind.TheVariants as kind
use Rattle.words.specs.Layout.{load_due, code_of}
use Rattle.reckoning.specs.Algebra.{Algebra}
use Rattle.faults.specs.declared.fault.CardFault.{CardFault}
use Rattle.faults.specs.declared.fault.CardFault.TheVariants.{Number, Order, Code}
use Rattle.sheet.specs.declared.item.CardHead.{CardHead}
use Rattle.faults.specs.Faults.{card_of_word}
use Rattle.sheet.specs.Loads.{card_of}
use Rattle.sheet.specs.Order.{follows}
use Rattle.sheet.specs.Reading.{Reading, item, whole, fault, card, row, end, on_read, hand}
use Rattle.sheet.specs.Rules.{listed, card_fits}
use Rattle.sheet.specs.Scope.{picked}
use Rattle.sheet.specs.Syntax.{Row}

-- The CARD word that is due, whose slots keep a rule.
unfoldable pub card_at : (ℕ → Bool) → ℕ → List ℕ → Result CardHead CardFault
card_at rule place ws =
    on_read card_of_word (load_due kind.Card place ws)
    (λ load. cond (card_fits rule (card_of load)) (Ok (card_of load)) (Err (Number place)))

-- The values of a row over slots of these sizes, each tested as it is read.
unfoldable pub values_at : List ℕ → ℕ → List ℕ → Result (List ℕ) CardFault
values_at [] place ws = Ok []
values_at (size ∷ sizes) place ws =
    on_read card_of_word (load_due kind.Value place ws)
    (λ v. cond (nat_lt v size) (on_read (λ f. f) (values_at sizes (place + 1) (drop 1 ws)) (λ vs. Ok (v ∷ vs))) (Err (Number place)))

module _ {W : Type 0} (a : Algebra W) where
  -- The code of a row, of which HIGH is due.
  unfoldable pub code_at : ℕ → List ℕ → Result ℕ CardFault
  code_at place ws =
      on_read card_of_word (load_due kind.High place ws)
      (λ high. on_read card_of_word (load_due kind.Low (place + 1) (drop 1 ws))
      (λ low. cond (listed a (code_of high low)) (Ok (code_of high low)) (Err (Code (place + 1)))))

  -- A row: its values, then its order, then its code.
  unfoldable pub row_at : List ℕ → Option (List ℕ) → ℕ → List ℕ → Result Row CardFault
  row_at dims previous place ws =
      on_read (λ f. f) (values_at dims place ws)
      (λ values. cond (follows previous values)
      (on_read (λ f. f) (code_at (place + length dims) (drop (length dims) ws)) (λ code. Ok (record { values = values; code = code })))
      (Err (Order place)))

  -- As many rows as are left, and then what comes next.
  unfoldable pub rows_from : {F : Type 0} → (CardFault → F) → ℕ → List ℕ → Option (List ℕ) → ℕ → List ℕ → (ℕ → List ℕ → Reading F) → Reading F
  rows_from rise zero dims previous place ws next = next place ws
  rows_from rise (suc left) dims previous place ws next =
      hand rise (row_at dims previous place ws)
      (λ r. item (row place (take (length dims) ws) r.code)
      (rows_from rise left dims (Some r.values) (place + length dims + 2) (drop (length dims + 2) ws) next))

  -- A card over slots of a sheet with these sizes, and then what comes next.
  abbrev pub card_from : {F : Type 0} → (CardFault → F) → (ℕ → Bool) → List ℕ → ℕ → List ℕ → (ℕ → List ℕ → Reading F) → Reading F
  card_from rise rule sizes place ws next =
      hand rise (card_at rule place ws)
      (λ c. item (card c) (rows_from rise c.rows (picked c.scope sizes) None (place + 1) (drop 1 ws) next))

-- The END word that is due: the place of what is wrong with its load or after it, if anything is.
unfoldable pub end_at : ℕ → List ℕ → Result (Option ℕ) WordFault
end_at place ws =
    on_read (λ f. f) (load_due kind.End place ws)
    (λ load. Ok (cond (load == place) (cond (length ws == 1) None (Some (place + 1))) (Some place)))

-- The end of a sheet or a table.
abbrev pub ending : {F : Type 0} → (WordFault → F) → (ℕ → F) → ℕ → List ℕ → Reading F
ending rise wrong place ws =
    hand rise (end_at place ws) (λ r. elim r [ None ↦ item (end (place + 1)) whole | Some at ↦ fault (wrong at) ])
