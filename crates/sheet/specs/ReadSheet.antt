-- Reading a sheet: what its words hand out, and the sheet or the first fault.
use Rattle.std.specs.Prelude.{ℕ, zero, suc, ◌+◌, ◌-◌, Bool, cond, List, drop, Ok, Err, Result, nat_lt}
use Rattle.words.specs.declared.layout.Kind.TheVariants as kind
use Rattle.words.specs.Layout.{load_due}
use Rattle.reckoning.specs.Algebra.{Algebra}
use Rattle.faults.specs.declared.fault.SheetFault.{SheetFault}
use Rattle.faults.specs.declared.fault.SheetFault.TheVariants.{Number}
use Rattle.sheet.specs.declared.item.Head.{Head}
use Rattle.sheet.specs.declared.item.Slot.{Slot}
use Rattle.faults.specs.Faults.{sheet_of_word}
use Rattle.sheet.specs.Form.{Form, sheet_form}
use Rattle.sheet.specs.Loads.{head_of, slot_of}
use Rattle.sheet.specs.ReadCard.{card_from, ending}
use Rattle.sheet.specs.Reading.{Reading, item, head, slot, on_read, hand, built}
use Rattle.sheet.specs.Rules.{head_fits, slot_fits}
use Rattle.sheet.specs.Scope.{no_sizes, declare}
use Rattle.sheet.specs.Syntax.{Sheet}

-- The HEAD word that is due.
unfoldable pub head_at : ℕ → List ℕ → Result Head SheetFault
head_at place ws =
    on_read sheet_of_word (load_due kind.Head place ws)
    (λ load. cond (head_fits (head_of load)) (Ok (head_of load)) (Err (Number place)))

module _ {W : Type 0} (a : Algebra W) where
  -- The SLOT word that is due, for an open slot or a bound one, after slots of these sizes.
  unfoldable pub slot_at : Bool → List ℕ → ℕ → List ℕ → Result Slot SheetFault
  slot_at free sizes place ws =
      on_read sheet_of_word (load_due kind.Slot place ws)
      (λ load. cond (slot_fits a free sizes (slot_of load)) (Ok (slot_of load)) (Err (Number place)))

  module _ {F : Type 0} (form : Form F) where
    -- As many slots as are left, so many of them open, and then what comes next, which is told the sizes.
    unfoldable pub slots_from : ℕ → ℕ → List ℕ → ℕ → List ℕ → (List ℕ → ℕ → List ℕ → Reading F) → Reading F
    slots_from zero free sizes place ws next = next sizes place ws
    slots_from (suc left) free sizes place ws next =
        hand form.of_sheet (slot_at (nat_lt 0 free) sizes place ws)
        (λ s. item (slot s) (slots_from left (free - 1) (declare sizes s) (place + 1) (drop 1 ws) next))

    -- As many cards as are left, each with its rows, and then the end.
    unfoldable pub cards_from : ℕ → List ℕ → ℕ → List ℕ → Reading F
    cards_from zero sizes place ws = ending form.of_word form.wrong_end place ws
    cards_from (suc left) sizes place ws = card_from a form.of_card (form.rule sizes) sizes place ws (cards_from left sizes)

    -- HEAD, and then as many slots and cards as it says.
    unfoldable pub head_from : ℕ → List ℕ → Reading F
    head_from place ws =
        hand form.of_sheet (head_at place ws)
        (λ h. item (head h) (slots_from h.slots h.«open» no_sizes (place + 1) (drop 1 ws) (cards_from h.cards)))

  -- What the words of a sheet hand out.
  abbrev pub sheet_reading : List ℕ → Reading SheetFault
  sheet_reading ws = head_from sheet_form 0 ws

  -- The sheet that the words hold, or the first fault.
  abbrev pub read_sheet : List ℕ → Result Sheet SheetFault
  read_sheet ws = on_read (λ f. f) (built (sheet_reading ws)) (λ b. Ok (record { slots = b.slots; cards = b.cards }))
