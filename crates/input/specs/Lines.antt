-- The lines of a text of bytes.
use Rattle.std.specs.Prelude.{◌≡◌, ℕ, ◌<◌, cond, List, [], ◌∷◌, ◌++◌, length, ◌==◌, ◌≢◌, slice_index}
use Rattle.std.specs.List.{onto_first}
use Rattle.input.specs.declared.text.Lines.{Lines}

-- the lines of a text: the line feed, byte 10, ends a line and stands in none, and a last line needs no line feed
unfoldable pub lines_of : List ℕ → List (List ℕ)
lines_of [] = []
lines_of (byte ∷ rest) = cond (byte == 10) ([] ∷ lines_of rest) (onto_first byte (lines_of rest))

-- no byte of the line is a line feed
abbrev pub Plain : List ℕ → Type 0
Plain line = (k : ℕ) → k < length line → slice_index line k ≢ 10

-- how a text falls into lines, from its front
pub record FallsIntoLines : Type 0 where
  -- an empty text has no lines
  pub empty : lines_of [] ≡ []
  -- the first line feed ends the first line, and the lines of what stands behind it follow
  pub ended : (line rest : List ℕ) → Plain line → lines_of (line ++ 10 ∷ rest) ≡ line ∷ lines_of rest
  -- without a line feed the whole text is one line
  pub open_ended : (line : List ℕ) → Plain line → 0 < length line → lines_of line ≡ line ∷ []

-- the lines behind the first
abbrev pub later_lines : List (List ℕ) → List (List ℕ)
later_lines [] = []
later_lines (line ∷ lines) = lines

-- the lines that a reader has yet to give
abbrev pub to_come : Lines → List (List ℕ)
to_come lines = lines_of lines.rest.now
