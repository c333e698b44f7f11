-- The loads of the words that hold several numbers.
use Rattle.std.specs.Prelude.{ℕ, ◌+◌, ◌*◌, ◌/◌, ◌%◌, ◌^◌}
use Rattle.sheet.specs.declared.item.Head.{Head}
use Rattle.sheet.specs.declared.item.Slot.{Slot}
use Rattle.sheet.specs.declared.item.CardHead.{CardHead}
use Rattle.sheet.specs.Folds.{mark_of, fold_of}

-- HEAD: the number of slots in bits 0 to 7, of open slots in bits 8 to 15, of cards from bit 16 on.
-- (Bits 24 to 27 have no meaning and are 0: read with the cards, they make the number too large.)
abbrev pub head_load : Head → ℕ
head_load h = h.slots + h.«open» * 2 ^ 8 + h.cards * 2 ^ 16

-- The counts in the load of HEAD.
abbrev pub head_of : ℕ → Head
head_of load = record { slots = load % 2 ^ 8; «open» = load / 2 ^ 8 % 2 ^ 8; cards = load / 2 ^ 16 }

-- SLOT: the slot's number in bits 0 to 7, the mark of its fold in bits 8 to 15, its size in bits 16 to 27.
abbrev pub slot_load : Slot → ℕ
slot_load s = s.number + mark_of s.fold * 2 ^ 8 + s.size * 2 ^ 16

-- The slot in the load of SLOT.
abbrev pub slot_of : ℕ → Slot
slot_of load = record { number = load % 2 ^ 8; fold = fold_of (load / 2 ^ 8 % 2 ^ 8); size = load / 2 ^ 16 }

-- CARD: the mask of its slots in bits 0 to 11, the number of its rows in bits 12 to 27.
abbrev pub card_load : CardHead → ℕ
card_load c = c.scope + c.rows * 2 ^ 12

-- The slots and the number of rows in the load of CARD.
abbrev pub card_of : ℕ → CardHead
card_of load = record { scope = load % 2 ^ 12; rows = load / 2 ^ 12 }
