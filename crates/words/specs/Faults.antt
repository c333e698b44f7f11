-- The numbers and places of what the word layer finds.
use Rattle.std.specs.Prelude.{ℕ}
use Rattle.words.specs.declared.fault.WordFault.{WordFault}
use Rattle.words.specs.declared.fault.WordFault.TheVariants.{Missing, WrongKind}

-- 1 for a word that is due and not there, 2 for a word of another kind
abbrev pub fault_number : WordFault → ℕ
fault_number (Missing place) = 1
fault_number (WrongKind place) = 2

-- the place that the fault names
abbrev pub fault_place : WordFault → ℕ
fault_place (Missing place) = place
fault_place (WrongKind place) = place
