-- What is valid, part by part: codes, slots, cards and sheets.
use Rattle.std.proofs.Common.{◌≡◌, ℕ, ◌^◌, ◌<◌, ◌≤◌, Bool, true, List, map, length, is_some, Some, None, Option, unwrap_or, sym, refl, ap, ◌∙◌, inl, inr, arith, lit<}
use Rattle.std.proofs.lemmas.Bool.{false≢true, and_parts, not-true, ltb-true, leb-true, eqb-false}
use Rattle.reckoning.specs.Algebra.{Algebra}
use Rattle.reckoning.specs.Laws.{Laws}
use Rattle.sheet.specs.declared.fold.Fold.{Fold}
use Rattle.sheet.specs.declared.fold.Fold.TheVariants.{Open, Gather, Each}
use Rattle.sheet.specs.declared.item.Slot.{Slot}
use Rattle.sheet.specs.Folds.{mark_of, fold_of}
use Rattle.sheet.specs.Order.{rising}
use Rattle.sheet.specs.Rules.{fold_fits, slot_fits, listed, card_fits}
use Rattle.sheet.specs.Scope.{no_sizes, sizes_of, open_slots, size_in, mask_of, all_there}
use Rattle.sheet.specs.Syntax.{Card, Sheet}
use Rattle.sheet.specs.Valid.{valid_rows, valid_card, valid_cards, valid_slots, valid_sheet}
use Rattle.sheet.specs.Weight.{weight_of}

module _ {W : Type 0} (a : Algebra W) where
  pub record SlotParts (free : Bool) (s : Slot) : Type 0 where
    pub numbered : s.number ≤ 12
    pub sized : s.size ≤ 256
    pub folded : fold_fits a free s.fold ≡ true

  pub slot_parts : (free : Bool) (sizes : List ℕ) (s : Slot) → slot_fits a free sizes s ≡ true → SlotParts free s
  slot_parts free sizes s fits =
      let (but-fold, folded) = and_parts _ _ fits in
      let (but-size, sized) = and_parts _ _ but-fold in
      record {
        numbered = leb-true _ _ (and_parts _ _ (and_parts _ _ (and_parts _ _ but-size).0).0).1;
        sized = leb-true _ _ sized;
        folded = folded;
      }

  pub record CardParts (rule : ℕ → Bool) (sizes : List ℕ) (c : Card) : Type 0 where
    pub rises : rising 0 c.scope ≡ true
    pub there : all_there (map (size_in sizes) c.scope) ≡ true
    pub fits : card_fits rule (record { scope = mask_of c.scope; rows = length c.rows }) ≡ true
    pub few : length c.rows < 2 ^ 16
    pub rowed : valid_rows a (map (size_in sizes) c.scope) None c.rows ≡ true

  pub card_parts : (rule : ℕ → Bool) (sizes : List ℕ) (c : Card) → valid_card a rule sizes c ≡ true → CardParts rule sizes c
  card_parts rule sizes c valid =
      let (but-rows, rowed) = and_parts _ _ valid in
      let (but-few, few) = and_parts _ _ but-rows in
      let (slots, fits) = and_parts _ _ but-few in
      let (rises, there) = and_parts _ _ slots in
      record { rises = rises; there = there; fits = fits; few = ltb-true _ _ few; rowed = rowed }

  pub record SheetParts (s : Sheet) : Type 0 where
    pub slots_few : length s.slots ≤ 12
    pub cards_few : length s.cards ≤ 24
    pub slotted : valid_slots a (length (open_slots s.slots)) no_sizes s.slots ≡ true
    pub carded : valid_cards a (sizes_of s.slots) s.cards ≡ true

  pub sheet_parts : (s : Sheet) → valid_sheet a s ≡ true → SheetParts s
  sheet_parts s valid =
      let (but-cards, carded) = and_parts _ _ valid in
      let (few, slotted) = and_parts _ _ but-cards in
      let (slots_few, cards_few) = and_parts _ _ few in
      record { slots_few = leb-true _ _ slots_few; cards_few = leb-true _ _ cards_few; slotted = slotted; carded = carded }

module _ {W : Type 0} {a : Algebra W} (laws : Laws a) where
  decoded_code : (c : ℕ) (o : Option W) → a.decode c ≡ o → is_some o ≡ true → a.code (unwrap_or o a.zero) ≡ c
  decoded_code c None e some = absurd (false≢true some)
  decoded_code c (Some w) e some = laws.code_decode c w e

  -- a listed code is the code of its weight, which is not zero
  pub listed_code : (c : ℕ) → listed a c ≡ true → a.code (weight_of a (Some c)) ≡ c
  listed_code c l = decoded_code c (a.decode c) refl (and_parts _ _ l).0

  pub listed_not_zero : (c : ℕ) → listed a c ≡ true → weight_of a (Some c) ≡ a.zero → ⊥
  listed_not_zero c l e = eqb-false c (a.code a.zero) (not-true _ (and_parts _ _ l).1) (sym (listed_code c l) ∙ ap a.code e)

  pub listed_fits : (c : ℕ) → listed a c ≡ true → c < 2 ^ 56
  listed_fits c l = rw (listed_code c l) at (laws.code_below (weight_of a (Some c)))

  -- the mark of a fold that fits is 0, 1, 2 or 15, and says this fold
  pub fold_kept : (free : Bool) (fold : Fold) → fold_fits a free fold ≡ true → (mark_of fold < 2 ^ 8) × (fold_of (mark_of fold) ≡ fold)
  fold_kept free Open h = (lit< tt, refl)
  fold_kept free Each h = (lit< tt, refl)
  fold_kept free (Gather mark) h = elim (laws.marks mark (and_parts _ _ h).1) [
    | inl e ↦ (omega arith, rw e)
    | inr e ↦ (omega arith, rw e)
  ]
