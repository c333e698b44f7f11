-- The line of text for each item of a sheet or a table, as bytes, without the line feed.
use Rattle.std.specs.Prelude.{ℕ, cond, List, ◌++◌, map, codes, decimal, ◌==◌}
use Rattle.std.specs.List.{flat_map}
use Rattle.words.specs.Layout.{load_part}
use Rattle.input.specs.declared.names.Name.{Name}
use Rattle.input.specs.declared.names.Name.TheVariants.{Possible, Count, Cost}
use Rattle.sheet.specs.declared.fold.Fold.{Fold}
use Rattle.sheet.specs.declared.fold.Fold.TheVariants.{Open, Gather, Each}
use Rattle.sheet.specs.declared.item.CardHead.{CardHead}
use Rattle.sheet.specs.declared.item.Head.{Head}
use Rattle.sheet.specs.declared.item.Slot.{Slot}
use Rattle.sheet.specs.Reading.{Entry, head, slot, card, row, end}
use Rattle.sheet.specs.Scope.{scope_of}

-- what mark 1 means in each reckoning
abbrev pub gather_name : Name → List ℕ
gather_name Possible = codes "some"
gather_name Count = codes "total"
gather_name Cost = codes "least"

-- the name of a slot's fold
abbrev pub fold_name : Name → Fold → List ℕ
fold_name name Open = codes "open"
fold_name name (Gather mark) = cond (mark == 2) (codes "most") (gather_name name)
fold_name name Each = codes "each"

-- the noun for so many: the plural but for one
abbrev pub noun : ℕ → List ℕ → List ℕ → List ℕ
noun count one many = cond (count == 1) one many

-- so many, with the noun
abbrev pub counted : ℕ → List ℕ → List ℕ → List ℕ
counted count one many = decimal count ++ (codes " " ++ noun count one many)

-- these numbers, with a space in front of each
abbrev pub spaced : List ℕ → List ℕ
spaced ns = flat_map (λ n. codes " " ++ decimal n) ns

-- the slots in a mask, with a space in front of each
abbrev pub slots_text : ℕ → List ℕ
slots_text scope = cond (scope == 0) (codes " no slot") (spaced (scope_of scope))

-- the counts that a sheet begins with
abbrev pub head_line : Head → List ℕ
head_line h =
    codes "sheet: " ++ (decimal h.slots ++ (codes " " ++ (noun h.slots (codes "slot") (codes "slots")
    ++ (codes ", " ++ (decimal h.«open» ++ (codes " open, " ++ counted h.cards (codes "card") (codes "cards")))))))

-- a slot's number, its fold and its size
abbrev pub slot_line : Name → Slot → List ℕ
slot_line name s =
    codes "slot " ++ (decimal s.number ++ (codes ": " ++ (fold_name name s.fold
    ++ (codes ", " ++ counted s.size (codes "value") (codes "values")))))

-- a card's slots and its number of rows
abbrev pub card_line : CardHead → List ℕ
card_line c = codes "card over" ++ (slots_text c.scope ++ (codes ": " ++ counted c.rows (codes "row") (codes "rows")))

-- a row's values and its code
abbrev pub row_line : List ℕ → ℕ → List ℕ
row_line values code = codes "row" ++ (spaced (map load_part values) ++ (codes ": " ++ decimal code))

-- the line of an item
unfoldable pub item_line : Name → Entry → List ℕ
item_line name (head h) = head_line h
item_line name (slot s) = slot_line name s
item_line name (card c) = card_line c
item_line name (row place values code) = row_line values code
item_line name (end words) = codes "whole " ++ decimal words
