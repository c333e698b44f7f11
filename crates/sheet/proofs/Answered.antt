-- What reading through to the end finds, answer by answer.
use Rattle.std.proofs.Common.{◌≡◌, ℕ, ◌+◌, Bool, true, false, cond, List, ◌∷◌, Some, None, Ok, Err, Option, Result, refl, ◌∙◌, add-one}
use Rattle.reckoning.specs.Algebra.{Algebra}
use Rattle.faults.specs.declared.fault.SheetFault.{SheetFault}
use Rattle.sheet.specs.Folds.{is_open}
use Rattle.sheet.specs.Reading.{Entry, head, slot, card, row, end, Reading, item, whole, fault, answer_of, rest_of, on_read, Built, put, built}
use Rattle.sheet.specs.ReadSheet.{read_sheet, sheet_reading}
use Rattle.sheet.specs.Scope.{no_sizes, declare, declare_all, sizes_of, open_slots}
use Rattle.sheet.specs.Syntax.{Sheet}
use Rattle.sheet.specs.Verify.{noted, noted_all, verdict, items}

module _ {F : Type 0} where
  -- one more than are to come after an item, and none where nothing is handed out
  abbrev pub items_at : Result (Option Entry) F → ℕ → ℕ
  items_at (Ok (Some e)) later = later + 1
  items_at (Ok None) later = 0
  items_at (Err f) later = 0

  pub items_by_answer : (t : Reading F) → items t ≡ items_at (answer_of t) (items (rest_of t))
  unfolding items
  items_by_answer (item e r) = rw add-one
  items_by_answer whole = refl
  items_by_answer (fault f) = refl

  -- what reading on finds, from what it finds after this answer
  abbrev pub verdict_at : Result (Option Entry) F → Result (Unit {0}) F → Result (Unit {0}) F
  verdict_at (Ok (Some e)) later = later
  verdict_at (Ok None) later = Ok tt
  verdict_at (Err f) later = Err f

  pub verdict_by_answer : (t : Reading F) → verdict t ≡ verdict_at (answer_of t) (verdict (rest_of t))
  unfolding verdict
  verdict_by_answer (item e r) = refl
  verdict_by_answer whole = refl
  verdict_by_answer (fault f) = refl

  -- the sizes that are noted, from this answer and what is to come after it
  abbrev pub noted_at : Result (Option Entry) F → Reading F → List ℕ → Result (List ℕ) F
  noted_at (Ok (Some e)) rest sizes = noted_all rest (noted sizes e)
  noted_at (Ok None) rest sizes = Ok sizes
  noted_at (Err f) rest sizes = Err f

  pub noted_by_answer : (t : Reading F) (sizes : List ℕ) → noted_all t sizes ≡ noted_at (answer_of t) (rest_of t) sizes
  unfolding noted_all
  noted_by_answer (item e r) sizes = refl
  noted_by_answer whole sizes = refl
  noted_by_answer (fault f) sizes = refl

  -- an item in front changes only what its slot adds
  pub noted_built : (t : Reading F) (sizes : List ℕ) → noted_all t sizes ≡ on_read (λ f. f) (built t) (λ b. Ok (declare_all sizes (open_slots b.slots)))
  unfolding noted_all built open_slots declare_all
  noted_built whole sizes = refl
  noted_built (fault f) sizes = refl
  noted_built (item e t) sizes = noted_built t (noted sizes e) ∙ add e (built t)
    where
      add : (e : Entry) (r : Result Built F) → on_read (λ f. f) r (λ b. Ok (declare_all (noted sizes e) (open_slots b.slots))) ≡ on_read (λ f. f) (on_read (λ f. f) r (λ b. Ok (put e b))) (λ b. Ok (declare_all sizes (open_slots b.slots)))
      add e (Err f) = refl
      add (head h) (Ok b) = refl
      add (card c) (Ok b) = refl
      add (row place values code) (Ok b) = refl
      add (end words) (Ok b) = refl
      add (slot s) (Ok b) = open_or_not (is_open s.fold)
        where
          open_or_not : (t : Bool) → ◌≡◌ {A = Result (List ℕ) F} (Ok (declare_all (cond t (declare sizes s) sizes) (open_slots b.slots))) (Ok (declare_all sizes (cond t (s ∷ open_slots b.slots) (open_slots b.slots))))
          open_or_not true = refl
          open_or_not false = refl

-- reading through to the end finds the sizes of the sheet's open slots, or its fault
pub noted_sheet : {W : Type 0} (a : Algebra W) (ws : List ℕ) → noted_all (sheet_reading a ws) no_sizes ≡ on_read (λ f. f) (read_sheet a ws) (λ s. Ok (sizes_of (open_slots s.slots)))
noted_sheet a ws = noted_built (sheet_reading a ws) no_sizes ∙ go (built (sheet_reading a ws))
  where
    go : (r : Result Built SheetFault) → on_read (λ f. f) r (λ b. Ok (declare_all no_sizes (open_slots b.slots))) ≡ on_read (λ f. f) (on_read {B = Sheet} (λ f. f) r (λ b. Ok (record { slots = b.slots; cards = b.cards }))) (λ s. Ok (sizes_of (open_slots s.slots)))
    go (Ok b) = refl
    go (Err f) = refl

-- what is found by reading through to the end, answer by answer
pub ruleset through = (items_by_answer, verdict_by_answer, noted_by_answer, noted_sheet)
