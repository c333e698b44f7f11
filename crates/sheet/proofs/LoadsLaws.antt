-- Loads and codes that are put together and taken apart again, or the other way round, are the same; a word that is due is read if and only if it is the written form of its load.
use Rattle.std.proofs.Common.{◌≡◌, ℕ, ◌+◌, ◌*◌, ◌/◌, ◌%◌, ◌^◌, ◌<◌, Bool, true, false, eqb, cond, List, [], ◌∷◌, drop, Ok, Err, sym, refl, ap, ◌∙◌, arith}
use Rattle.std.proofs.lemmas.Nat.{div-mul-add, mod-mul-add}
use Rattle.std.proofs.lemmas.Bool.{eq-eqb, eqb-true}
use Rattle.words.specs.declared.fault.WordFault.{WordFault}
use Rattle.words.specs.declared.layout.Kind.{Kind}
use Rattle.words.specs.Layout.{kind_number, kind_part, load_part, word_of, load_due, code_of, high_part, low_part}
use Rattle.sheet.specs.declared.fold.Fold.TheVariants.{Open, Gather, Each}
use Rattle.sheet.specs.declared.item.Head.{Head}
use Rattle.sheet.specs.declared.item.Slot.{Slot}
use Rattle.sheet.specs.declared.item.CardHead.{CardHead}
use Rattle.sheet.specs.Folds.{mark_of, fold_of}
use Rattle.sheet.specs.Loads.{head_load, head_of, slot_load, slot_of, card_load, card_of}
use Rattle.sheet.specs.Reading.{on_read}
use Rattle.sheet.proofs.Passed.{fault_not_ok, ok_same, cond_passed, on_read_passed}

-- the two halves of a code
module _ (code : ℕ) where
  pub code_again : code_of (high_part code) (low_part code) ≡ code
  code_again = omega arith

  pub high_fits : code < 2 ^ 56 → high_part code < 2 ^ 28
  high_fits h = omega arith

  pub low_fits : low_part code < 2 ^ 28
  low_fits = omega arith

module _ (high low : ℕ) (fits : low < 2 ^ 28) where
  pub high_of_code : high_part (code_of high low) ≡ high
  high_of_code = omega arith

  pub low_of_code : low_part (code_of high low) ≡ low
  low_of_code = omega arith

-- a mark is the mark of what it says
pub mark_again : (mark : ℕ) → mark_of (fold_of mark) ≡ mark
mark_again mark = by (eqb mark 0) refl (eqb mark 15) refl
  where
    by : (none : Bool) → eqb mark 0 ≡ none → (each : Bool) → eqb mark 15 ≡ each → mark_of (cond none Open (cond each Each (Gather mark))) ≡ mark
    by true is each h = sym (eqb-true mark 0 is)
    by false not-zero true is = sym (eqb-true mark 15 is)
    by false not-zero false not-each = refl

-- a load keeps the numbers that are put together in it
abbrev pub Kept : {T : Type 0} → (ℕ → T) → (T → ℕ) → T → Type 0
Kept of back x = (of (back x) ≡ x) × (back x < 2 ^ 28)

-- three numbers in one load, as in HEAD and SLOT
module _ (x y z : ℕ) (x_Fits : x < 2 ^ 8) (y-fits : y < 2 ^ 8) (z-fits : z < 2 ^ 12) where
  abbrev load : ℕ
  load = x + y * 2 ^ 8 + z * 2 ^ 16

  three_kept : (load % 2 ^ 8 ≡ x) × (load / 2 ^ 8 % 2 ^ 8 ≡ y) × (load / 2 ^ 16 ≡ z) × (load < 2 ^ 28)
  three_kept = (omega arith, omega arith, omega arith, omega arith)

pub head_kept : (h : Head) → h.slots < 2 ^ 8 → h.«open» < 2 ^ 8 → h.cards < 2 ^ 12 → Kept head_of head_load h
head_kept h slots free cards = let (x, y, z, fits) = three_kept _ _ _ slots free cards in (rw (x, y, z), fits)

pub slot_kept : (s : Slot) → s.number < 2 ^ 8 → mark_of s.fold < 2 ^ 8 → fold_of (mark_of s.fold) ≡ s.fold → s.size < 2 ^ 12 → Kept slot_of slot_load s
slot_kept s number mark fold size = let (x, y, z, fits) = three_kept _ _ _ number mark size in (rw (x, y, z, fold), fits)

pub card_kept : (c : CardHead) → c.scope < 2 ^ 12 → c.rows < 2 ^ 16 → Kept card_of card_load c
card_kept c scope rows =
    let low : card_load c % 2 ^ 12 ≡ c.scope = omega arith in
    let high : card_load c / 2 ^ 12 ≡ c.rows = omega arith in
    (rw (low, high), omega arith)

module _ (load : ℕ) where
  pub head_again : head_load (head_of load) ≡ load
  head_again = omega arith

  pub slot_again : slot_load (slot_of load) ≡ load
  slot_again = omega (arith, mark_again (load / 2 ^ 8 % 2 ^ 8))

  pub card_again : card_load (card_of load) ≡ load
  card_again = omega arith

  pub scope_fits : (card_of load).scope < 2 ^ 12
  scope_fits = omega arith

  pub rows_fit : load < 2 ^ 28 → (card_of load).rows < 2 ^ 16
  rows_fit h = omega arith

-- a word that is due
module _ (kind : Kind) (place : ℕ) where
  pub due_back : (load : ℕ) (rest : List ℕ) → load < 2 ^ 28 → load_due kind place (word_of kind load ∷ rest) ≡ Ok load
  unfolding load_due
  due_back load rest fits = rw (eq-eqb _ _ (div-mul-add (kind_number kind) (2 ^ 28) load fits), mod-mul-add (kind_number kind) (2 ^ 28) load fits)

  pub due_written : (ws : List ℕ) (load : ℕ) → load_due kind place ws ≡ Ok load → (ws ≡ word_of kind load ∷ drop 1 ws) × (load < 2 ^ 28)
  unfolding load_due
  due_written [] load e = absurd (fault_not_ok e)
  due_written (word ∷ rest) load e =
      let (is, read) = cond_passed _ _ _ load e in
      let same : load_part word ≡ load = ok_same read in
      let kind-is : kind_part word ≡ kind_number kind = eqb-true _ _ is in
      let word-is : word ≡ word_of kind load = omega arith in
      (ap (λ w. w ∷ rest) word-is, omega arith)

-- what was read as a word that holds several numbers, which keep a rule
pub record WordWritten {T : Type 0} (kind : Kind) (of : ℕ → T) (back : T → ℕ) (rule : T → Bool) (ws : List ℕ) (x : T) : Type 0 where
  pub load : ℕ
  pub is : of load ≡ x
  pub small : load < 2 ^ 28
  pub fits : rule x ≡ true
  pub words : ws ≡ word_of kind (back x) ∷ drop 1 ws

module _ {T F : Type 0} (rise : WordFault → F) (kind : Kind) (of : ℕ → T) (back : T → ℕ) (rule : T → Bool) (f : F) (place : ℕ) where
  pub word_back : (x : T) (rest : List ℕ) → Kept of back x → rule x ≡ true
      → on_read rise (load_due kind place (word_of kind (back x) ∷ rest)) (λ load. cond (rule (of load)) (Ok (of load)) (Err f)) ≡ Ok x
  word_back x rest (again, small) fits = rw (due_back kind place (back x) rest small, again, fits)

  pub word_written : ((load : ℕ) → back (of load) ≡ load) → (ws : List ℕ) (x : T)
      → on_read rise (load_due kind place ws) (λ load. cond (rule (of load)) (Ok (of load)) (Err f)) ≡ Ok x → WordWritten kind of back rule ws x
  word_written again ws x e =
      let (load, due, e₁) = on_read_passed rise (load_due kind place ws) _ x e in
      let (fits, e₂) = cond_passed (rule (of load)) _ f x e₁ in
      let is : of load ≡ x = ok_same e₂ in
      let (word, small) = due_written kind place ws load due in
      record {
        load = load;
        is = is;
        small = small;
        fits = ap rule (sym is) ∙ fits;
        words = word ∙ ap (λ n. word_of kind n ∷ drop 1 ws) (sym (again load) ∙ ap back is);
      }
