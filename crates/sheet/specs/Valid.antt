-- Valid sheets and valid tables.
use Rattle.std.specs.Prelude.{ℕ, ◌-◌, ◌^◌, Bool, true, false, ◌&&◌, List, [], ◌∷◌, map, length, Some, None, Option, nat_le, nat_lt}
use Rattle.reckoning.specs.Algebra.{Algebra}
use Rattle.sheet.specs.declared.item.Slot.{Slot}
use Rattle.sheet.specs.Syntax.{Row, Card, Sheet}
use Rattle.sheet.specs.Order.{rising, follows}
use Rattle.sheet.specs.Scope.{no_sizes, declare, sizes_of, size_in, mask_of, all_there, open_slots}
use Rattle.sheet.specs.Rules.{slot_fits, listed, covered, exactly, card_fits}

-- Whether there is one value for each slot, below the slot's size.
unfoldable pub in_range : List ℕ → List ℕ → Bool
in_range [] [] = true
in_range [] (v ∷ vs) = false
in_range (size ∷ sizes) [] = false
in_range (size ∷ sizes) (v ∷ vs) = nat_lt v size && in_range sizes vs

module _ {W : Type 0} (a : Algebra W) where
  -- Rows over slots of these sizes: values in range, each row after the one before, no weight zero.
  unfoldable pub valid_rows : List ℕ → Option (List ℕ) → List Row → Bool
  valid_rows dims previous [] = true
  valid_rows dims previous (r ∷ rs) =
      in_range dims r.values && follows previous r.values && listed a r.code && valid_rows dims (Some r.values) rs

  -- A card: its slots rise and keep the rule, its rows are valid and few enough to be counted in 16 bits.
  abbrev pub valid_card : (ℕ → Bool) → List ℕ → Card → Bool
  valid_card rule sizes c =
      rising 0 c.scope && all_there (map (size_in sizes) c.scope)
      && card_fits rule (record { scope = mask_of c.scope; rows = length c.rows })
      && nat_lt (length c.rows) (2 ^ 16) && valid_rows (map (size_in sizes) c.scope) None c.rows

  -- The cards of a sheet whose slots have these sizes.
  unfoldable pub valid_cards : List ℕ → List Card → Bool
  valid_cards sizes [] = true
  valid_cards sizes (c ∷ cs) = valid_card (covered sizes) sizes c && valid_cards sizes cs

  -- Slots in running order: as many open ones as are due, then bound ones; no number twice.
  unfoldable pub valid_slots : ℕ → List ℕ → List Slot → Bool
  valid_slots free sizes [] = true
  valid_slots free sizes (s ∷ ss) = slot_fits a (nat_lt 0 free) sizes s && valid_slots (free - 1) (declare sizes s) ss

  -- A sheet: at most 12 slots, the open ones first, and at most 24 cards.
  abbrev pub valid_sheet : Sheet → Bool
  valid_sheet s =
      nat_le (length s.slots) 12 && nat_le (length s.cards) 24
      && valid_slots (length (open_slots s.slots)) no_sizes s.slots && valid_cards (sizes_of s.slots) s.cards

  -- A table of a sheet: a card over exactly the open slots.
  abbrev pub valid_table : Sheet → Card → Bool
  valid_table s t = let sizes = sizes_of (open_slots s.slots) in valid_card (exactly sizes) sizes t
