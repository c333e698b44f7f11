-- The syntax of a sheet.
use Rattle.std.specs.Prelude.{ℕ, List}
use Rattle.sheet.specs.declared.item.Slot.{Slot}

-- A row of a card: a value for each slot of the card, by rising slot number, and the code of the row's weight.
pub record Row : Type 0 where
  pub values : List ℕ
  pub code : ℕ

-- A card: the numbers of its slots, and a row for each combination that does not weigh zero.
pub record Card : Type 0 where
  pub scope : List ℕ
  pub rows : List Row

-- A sheet: its slots in running order, and its cards. A table is a single card over the open slots.
pub record Sheet : Type 0 where
  pub slots : List Slot
  pub cards : List Card
