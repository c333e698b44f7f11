-- The rules that the numbers in a word keep, each as a test.
use Rattle.std.specs.Prelude.{ℕ, Bool, not, ◌&&◌, ◌||◌, List, is_some, ◌==◌, nat_le, nat_lt}
use Rattle.reckoning.specs.Algebra.{Algebra}
use Rattle.sheet.specs.declared.fold.Fold.{Fold}
use Rattle.sheet.specs.declared.fold.Fold.TheVariants.{Open, Gather, Each}
use Rattle.sheet.specs.declared.item.Head.{Head}
use Rattle.sheet.specs.declared.item.Slot.{Slot}
use Rattle.sheet.specs.declared.item.CardHead.{CardHead}
use Rattle.sheet.specs.Scope.{size_in, picked, all_there, mask_in}

-- At most 12 slots, no more open slots than slots, at most 24 cards.
abbrev pub head_fits : Head → Bool
head_fits h = nat_le h.slots 12 && nat_le h.«open» h.slots && nat_le h.cards 24

module _ {W : Type 0} (a : Algebra W) where
  -- A slot that is due as an open one is left open; a bound one is taken out by each or by a gather of the reckoning.
  abbrev pub fold_fits : Bool → Fold → Bool
  fold_fits free Open = free
  fold_fits free (Gather mark) = not free && a.has mark
  fold_fits free Each = not free

  -- A slot's number is 1 to 12 and not there yet, its size is 1 to 256, and its fold fits.
  abbrev pub slot_fits : Bool → List ℕ → Slot → Bool
  slot_fits free sizes s = nat_le 1 s.number && nat_le s.number 12 && size_in sizes s.number == 0 && nat_le 1 s.size && nat_le s.size 256 && fold_fits free s.fold

  -- The code that a row may have: a weight's, and not zero's.
  abbrev pub listed : ℕ → Bool
  listed code = is_some (a.decode code) && not (code == a.code a.zero)

-- A card of a sheet is over slots of the sheet.
abbrev pub covered : List ℕ → ℕ → Bool
covered sizes scope = all_there (picked scope sizes)

-- A table's card is over exactly the open slots, whose sizes are given.
abbrev pub exactly : List ℕ → ℕ → Bool
exactly sizes scope = scope == mask_in sizes

-- A card's slots keep the rule for its place, and without a slot it has at most one row.
abbrev pub card_fits : (ℕ → Bool) → CardHead → Bool
card_fits rule c = rule c.scope && (nat_lt 0 c.scope || nat_le c.rows 1)
