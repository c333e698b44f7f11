-- What the mark in a SLOT word says.
use Rattle.std.specs.Prelude.{ℕ, Bool, true, false, cond, ◌==◌}
use Rattle.sheet.specs.declared.fold.Fold.{Fold}
use Rattle.sheet.specs.declared.fold.Fold.TheVariants.{Open, Gather, Each}

-- The mark of a fold: 0 for an open slot, 15 for each, else the gather's.
abbrev pub mark_of : Fold → ℕ
mark_of Open = 0
mark_of (Gather mark) = mark
mark_of Each = 15

-- What a mark says.
abbrev pub fold_of : ℕ → Fold
fold_of mark = cond (mark == 0) Open (cond (mark == 15) Each (Gather mark))

-- Whether the slot is left open.
abbrev pub is_open : Fold → Bool
is_open Open = true
is_open (Gather mark) = false
is_open Each = false
