-- The sizes of a card's slots, as the readers keep them.
use Rattle.std.specs.Prelude.{ℕ, List, take}
use Rattle.sheet.specs.declared.dims.Dims.{Dims}

-- The sizes that are kept: those in front, as many as the card has slots.
abbrev pub dims_list : Dims → List ℕ
dims_list d = take d.width d.sizes
