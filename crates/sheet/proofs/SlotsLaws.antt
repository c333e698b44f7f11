-- Valid slots that were written are read back, and slots that are read without a fault are the written form of valid slots, those that are read; so many of them are open as were due.
use Rattle.std.proofs.Common.{◌≡◌, ℕ, zero, suc, ◌+◌, ◌-◌, ◌≤◌, Bool, true, false, ltb, List, [], ◌∷◌, ◌++◌, map, length, drop, replicate, Ok, sym, refl, ap, ◌∙◌, add-zero, arith, lit≤}
use Rattle.std.specs.List.{AllByRecursion}
use Rattle.std.proofs.ByRecursion.{All-set}
use Rattle.std.proofs.lemmas.Bool.{false≢true, and_parts, cond_both, ltb-true, ltb-false}
use Rattle.words.specs.declared.layout.Kind.TheVariants as kind
use Rattle.reckoning.specs.Algebra.{Algebra}
use Rattle.reckoning.specs.Laws.{Laws}
use Rattle.faults.specs.declared.fault.SheetFault.{SheetFault}
use Rattle.faults.specs.declared.fault.SheetFault.TheVariants.{Number}
use Rattle.sheet.specs.Form.{sheet_form}
use Rattle.sheet.specs.declared.fold.Fold.{Fold}
use Rattle.sheet.specs.declared.fold.Fold.TheVariants.{Open, Gather, Each}
use Rattle.sheet.specs.declared.item.Slot.{Slot}
use Rattle.faults.specs.Faults.{sheet_of_word}
use Rattle.sheet.specs.Folds.{is_open}
use Rattle.sheet.specs.Loads.{slot_of, slot_load}
use Rattle.sheet.specs.ReadSheet.{slot_at, slots_from}
use Rattle.sheet.specs.Reading.{Reading, slot, Built, put, built}
use Rattle.sheet.specs.Rules.{fold_fits, slot_fits}
use Rattle.sheet.specs.Scope.{no_sizes, declare, declare_all, sizes_of, open_slots}
use Rattle.sheet.specs.Syntax.{Card}
use Rattle.sheet.specs.Valid.{valid_slots}
use Rattle.sheet.specs.Written.{slot_word}
use Rattle.sheet.proofs.LoadsLaws.{word_back, WordWritten, word_written, slot_kept, slot_again}
use Rattle.sheet.proofs.Passed.{hand_passed, item_passed}
use Rattle.sheet.proofs.RowsLaws.{Small}
use Rattle.sheet.proofs.ValidParts.{slot_parts, fold_kept}

-- no slot is too large
abbrev pub SmallSlots : List Slot → Type 0
SmallSlots = AllByRecursion (λ s. s.size ≤ 256)

pub slots_small : {W : Type 0} (a : Algebra W) (slots : List Slot) (free : ℕ) (sizes : List ℕ) → valid_slots a free sizes slots ≡ true → SmallSlots slots
unfolding valid_slots
slots_small a [] free sizes valid = tt
slots_small a (s ∷ ss) free sizes valid =
    let (here, others) = and_parts _ _ valid in
    ((slot_parts a (ltb 0 free) sizes s here).sized, slots_small a ss (free - 1) (declare sizes s) others)

pub open_small : (slots : List Slot) → SmallSlots slots → SmallSlots (open_slots slots)
unfolding open_slots
open_small [] t = tt
open_small (s ∷ ss) t = cond_both (is_open s.fold) (s ∷ open_slots ss) (open_slots ss) SmallSlots (λ _. (t.0, open_small ss t.1)) (λ _. open_small ss t.1)

zeros_small : (n : ℕ) → Small (replicate n 0)
zeros_small zero = tt
zeros_small (suc n) = (lit≤ tt, zeros_small n)

declared_small : (sizes : List ℕ) (slots : List Slot) → Small sizes → SmallSlots slots → Small (declare_all sizes slots)
unfolding declare_all
declared_small sizes [] h t = h
declared_small sizes (s ∷ ss) h t = declared_small (declare sizes s) ss (All-set (λ size. size ≤ 256) sizes (s.number - 1) s.size t.0 h) t.1

pub sizes_small : (slots : List Slot) → SmallSlots slots → Small (sizes_of slots)
sizes_small slots t = declared_small no_sizes slots (zeros_small 12) t

pub open_few : (slots : List Slot) → length (open_slots slots) ≤ length slots
unfolding open_slots
open_few [] = omega arith
open_few (s ∷ ss) =
    let h = open_few ss in
    cond_both (is_open s.fold) (s ∷ open_slots ss) (open_slots ss) (λ ys. length ys ≤ suc (length ss)) (λ _. omega arith) (λ _. omega arith)

-- a slot whose fold fits is left open if and only if it was due as an open one
fits_open : {W : Type 0} (a : Algebra W) (free : Bool) (fold : Fold) → fold_fits a free fold ≡ true → is_open fold ≡ free
fits_open a free Open h = sym h
fits_open a false (Gather mark) h = refl
fits_open a false Each h = refl
fits_open a true (Gather mark) h = absurd (false≢true h)
fits_open a true Each h = absurd (false≢true h)

module _ {W : Type 0} {a : Algebra W} (laws : Laws a) where
  -- the open slots are those in front that were due, since a bound slot is not left open
  pub open_slots_due : (slots : List Slot) (free : ℕ) (sizes : List ℕ) → valid_slots a free sizes slots ≡ true → free ≤ length slots → length (open_slots slots) ≡ free
  unfolding valid_slots open_slots
  open_slots_due [] free sizes valid enough = omega arith
  open_slots_due (s ∷ ss) free sizes valid enough =
      let (here, others) = and_parts _ _ valid in
      by (ltb 0 free) refl (fits_open a (ltb 0 free) s.fold (slot_parts a (ltb 0 free) sizes s here).folded) (open_slots_due ss (free - 1) (declare sizes s) others (omega arith))
    where
      by : (due : Bool) → ltb 0 free ≡ due → is_open s.fold ≡ due → length (open_slots ss) ≡ free - 1 → length (open_slots (s ∷ ss)) ≡ free
      by true left fold more = rw fold (omega (arith, ltb-true 0 free left))
      by false none fold more = rw fold (omega (arith, ltb-false 0 free none))

  slot_back : (free : Bool) (sizes : List ℕ) (s : Slot) (place : ℕ) (rest : List ℕ) → slot_fits a free sizes s ≡ true → slot_at a free sizes place (slot_word s ∷ rest) ≡ Ok s
  unfolding slot_at
  slot_back free sizes s place rest fits =
      let parts = slot_parts a free sizes s fits in
      let (small, kept) = fold_kept laws free s.fold parts.folded in
      word_back sheet_of_word kind.Slot slot_of slot_load (slot_fits a free sizes) (Number place) place s rest
      (slot_kept s (omega (arith, parts.numbered)) small kept (omega (arith, parts.sized))) fits

  pub slots_back : (slots : List Slot) (free : ℕ) (sizes : List ℕ) (place : ℕ) (rest : List ℕ) (next : List ℕ → ℕ → List ℕ → Reading SheetFault) (cards : List Card)
      → valid_slots a free sizes slots ≡ true → built (next (declare_all sizes slots) (place + length slots) rest) ≡ Ok (record { rows = []; cards = cards; slots = [] })
      → built (slots_from a sheet_form (length slots) free sizes place (map slot_word slots ++ rest) next) ≡ Ok (record { rows = []; cards = cards; slots = slots })
  unfolding slots_from declare_all valid_slots built
  slots_back [] free sizes place rest next cards valid after = rw add-zero at after
  slots_back (s ∷ ss) free sizes place rest next cards valid after =
      let places : place + suc (length ss) ≡ place + 1 + length ss = omega arith in
      let (here, others) = and_parts _ _ valid in
      rw (slot_back (ltb 0 free) sizes s place _ here, slots_back ss (free - 1) (declare sizes s) (place + 1) rest next cards others (rw places at after))

-- what was read as so many slots, and what comes next
pub record SlotsWritten {W : Type 0} (a : Algebra W) (next : List ℕ → ℕ → List ℕ → Reading SheetFault) (many free : ℕ) (sizes : List ℕ) (place : ℕ) (ws : List ℕ) (b : Built) : Type 0 where
  pub slots : List Slot
  pub rest : List ℕ
  pub after : Built
  pub words : ws ≡ map slot_word slots ++ rest
  pub count : length slots ≡ many
  pub valid : valid_slots a free sizes slots ≡ true
  pub goes_on : built (next (declare_all sizes slots) (place + length slots) rest) ≡ Ok after
  pub made : b ≡ record { rows = after.rows; cards = after.cards; slots = slots ++ after.slots }

module _ {W : Type 0} (a : Algebra W) (next : List ℕ → ℕ → List ℕ → Reading SheetFault) where
  more_slots_written : (many free : ℕ) (sizes : List ℕ) (place : ℕ) (ws : List ℕ) (s : Slot) (others b : Built) → WordWritten kind.Slot slot_of slot_load (slot_fits a (ltb 0 free) sizes) ws s
      → SlotsWritten a next many (free - 1) (declare sizes s) (place + 1) (drop 1 ws) others → b ≡ put (slot s) others → SlotsWritten a next (suc many) free sizes place ws b
  unfolding valid_slots declare_all
  more_slots_written many free sizes place ws s others b word more made =
      let places : place + suc (length more.slots) ≡ place + 1 + length more.slots = omega arith in
      record {
        slots = s ∷ more.slots;
        rest = more.rest;
        after = more.after;
        words = word.words ∙ ap (λ rest. slot_word s ∷ rest) more.words;
        count = ap suc more.count;
        valid = rw word.fits more.valid;
        goes_on = rw places more.goes_on;
        made = made ∙ rw more.made;
      }

  pub slots_written : (many free : ℕ) (sizes : List ℕ) (place : ℕ) (ws : List ℕ) (b : Built) → built (slots_from a sheet_form many free sizes place ws next) ≡ Ok b
      → SlotsWritten a next many free sizes place ws b
  unfolding slots_from slot_at valid_slots declare_all
  slots_written zero free sizes place ws b e =
      record { slots = []; rest = ws; after = b; words = refl; count = refl; valid = refl; goes_on = rw add-zero e; made = refl }
  slots_written (suc many) free sizes place ws b e =
      let (s, read, e₁) = hand_passed (λ f. f) (slot_at a (ltb 0 free) sizes place ws) _ b e in
      let (others, e₂, made) = item_passed (slot s) _ b e₁ in
      more_slots_written many free sizes place ws s others b
      (word_written sheet_of_word kind.Slot slot_of slot_load (slot_fits a (ltb 0 free) sizes) (Number place) place slot_again ws s read)
      (slots_written many (free - 1) (declare sizes s) (place + 1) (drop 1 ws) others e₂)
      made
