-- Sets of slots: as a rising list of numbers, as a mask of bits, and with the sizes of the slots.
use Rattle.std.specs.Prelude.{ℕ, ◌+◌, ◌-◌, ◌*◌, ◌/◌, ◌%◌, ◌^◌, Bool, cond, not, List, [], ◌∷◌, ◌==◌, slice_index, slice_set}
use Rattle.std.specs.List.{list_all}
use Rattle.sheet.specs.declared.item.Slot.{Slot}
use Rattle.sheet.specs.Folds.{is_open}

-- The entries of xs whose bits are set in a mask, the lowest bit for the first entry.
unfoldable pub picked : {A : Type 0} → ℕ → List A → List A
picked mask [] = []
picked mask (x ∷ xs) = cond (mask % 2 == 1) (x ∷ picked (mask / 2) xs) (picked (mask / 2) xs)

-- The slot numbers that there are.
abbrev pub slot_numbers : List ℕ
slot_numbers = 1 ∷ 2 ∷ 3 ∷ 4 ∷ 5 ∷ 6 ∷ 7 ∷ 8 ∷ 9 ∷ 10 ∷ 11 ∷ 12 ∷ []

-- The numbers of the slots in a mask: bit i - 1 stands for slot i.
abbrev pub scope_of : ℕ → List ℕ
scope_of mask = picked mask slot_numbers

-- The mask of some slots, whose numbers are from 1 on.
unfoldable pub mask_of : List ℕ → ℕ
mask_of [] = 0
mask_of (n ∷ ns) = 2 ^ (n - 1) + mask_of ns

-- The sizes of the slots 1 to 12 of an empty sheet: a size of 0 means that the slot is not there.
abbrev pub no_sizes : List ℕ
no_sizes = 0 ∷ 0 ∷ 0 ∷ 0 ∷ 0 ∷ 0 ∷ 0 ∷ 0 ∷ 0 ∷ 0 ∷ 0 ∷ 0 ∷ []

-- The sizes with one slot more, whose number is from 1 on.
abbrev pub declare : List ℕ → Slot → List ℕ
declare sizes s = slice_set sizes (s.number - 1) s.size

-- The sizes with some slots more, one after another.
unfoldable pub declare_all : List ℕ → List Slot → List ℕ
declare_all sizes [] = sizes
declare_all sizes (s ∷ ss) = declare_all (declare sizes s) ss

-- The sizes of the slots 1 to 12 of these slots.
abbrev pub sizes_of : List Slot → List ℕ
sizes_of slots = declare_all no_sizes slots

-- The size of slot n, for n from 1 on; 0 where the slot is not there.
abbrev pub size_in : List ℕ → ℕ → ℕ
size_in sizes n = slice_index sizes (n - 1)

-- Whether none of these sizes is 0: all the slots are there.
abbrev pub all_there : List ℕ → Bool
all_there sizes = list_all (λ size. not (size == 0)) sizes

-- The mask of the slots that are there.
unfoldable pub mask_in : List ℕ → ℕ
mask_in [] = 0
mask_in (size ∷ sizes) = cond (size == 0) 0 1 + 2 * mask_in sizes

-- The open slots: those that are left open.
unfoldable pub open_slots : List Slot → List Slot
open_slots [] = []
open_slots (s ∷ ss) = cond (is_open s.fold) (s ∷ open_slots ss) (open_slots ss)
