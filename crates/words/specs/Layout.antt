-- The layout of a word: a kind in bits 28 to 31, and a load in bits 0 to 27.
use Rattle.std.specs.Prelude.{ℕ, ◌+◌, ◌*◌, ◌/◌, ◌%◌, ◌^◌, cond, List, [], ◌∷◌, Ok, Err, Result, ◌==◌}
use Rattle.words.specs.declared.fault.WordFault.{WordFault}
use Rattle.words.specs.declared.fault.WordFault.TheVariants.{Missing, WrongKind}
use Rattle.words.specs.declared.layout.Kind.{Kind}
use Rattle.words.specs.declared.layout.Kind.TheVariants.{Head, Slot, Card, Value, High, Low, End}

-- the number of a kind
abbrev pub kind_number : Kind → ℕ
kind_number Head = 1
kind_number Slot = 2
kind_number Card = 3
kind_number Value = 4
kind_number High = 5
kind_number Low = 6
kind_number End = 7

-- the kind's number in a word
abbrev pub kind_part : ℕ → ℕ
kind_part word = word / 2 ^ 28

-- the load in a word
abbrev pub load_part : ℕ → ℕ
load_part word = word % 2 ^ 28

-- the word of a kind and a load
abbrev pub word_of : Kind → ℕ → ℕ
word_of kind load = kind_number kind * 2 ^ 28 + load

-- the code of which these are the upper and the lower 28 bits
abbrev pub code_of : ℕ → ℕ → ℕ
code_of high low = high * 2 ^ 28 + low

-- the upper 28 bits of a code
abbrev pub high_part : ℕ → ℕ
high_part code = code / 2 ^ 28

-- the lower 28 bits of a code
abbrev pub low_part : ℕ → ℕ
low_part code = code % 2 ^ 28

-- a word of this kind is due at this place, and these are the words from there on: its load, or what is wrong
unfoldable pub load_due : Kind → ℕ → List ℕ → Result ℕ WordFault
load_due kind place [] = Err (Missing place)
load_due kind place (word ∷ rest) = cond (kind_part word == kind_number kind) (Ok (load_part word)) (Err (WrongKind place))
