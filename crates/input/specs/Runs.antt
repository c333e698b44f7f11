-- A run of words: the word lines at the front of some lines. It is a sheet or a table.
use Rattle.std.specs.Prelude.{ℕ, cond, List, [], ◌∷◌, length, Some, None, Option, nat_le}
use Rattle.input.specs.Words.{word_of_line}

-- the word of the first line, where it is a word line
abbrev pub front_word : List (List ℕ) → Option ℕ
front_word [] = None
front_word (line ∷ rest) = word_of_line line

-- the words of the lines at the front, up to the first line that is no word line
unfoldable pub run : List (List ℕ) → List ℕ
run [] = []
run (line ∷ rest) = elim (word_of_line line) [ None ↦ [] | Some word ↦ word ∷ run rest ]

-- the lines behind the run and behind the line that ended it
unfoldable pub after_run : List (List ℕ) → List (List ℕ)
after_run [] = []
after_run (line ∷ rest) = elim (word_of_line line) [ None ↦ rest | Some word ↦ after_run rest ]

-- the words, where there are no more than the limit
unfoldable pub within : ℕ → List ℕ → Option (List ℕ)
within limit words = cond (nat_le (length words) limit) (Some words) None
