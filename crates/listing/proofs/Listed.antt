-- The listing of what is to come, by what the reader answers.
use Rattle.std.proofs.Common.{◌≡◌, List, ℕ, [], ◌++◌, Some, None, Ok, Err, Option, Result, refl, append_assoc, append-nil}
use Rattle.input.specs.declared.names.Name.{Name}
use Rattle.sheet.specs.Reading.{Entry, Reading, item, whole, fault, answer_of, rest_of}
use Rattle.sheet.proofs.Answered.{items_by_answer}
use Rattle.listing.specs.ItemLine.{item_line}
use Rattle.listing.specs.Listing.{ended, listing}

module _ {F : Type 0} where
  -- the line that an answer adds, in front of the lines that follow
  abbrev pub lines_at : (F → List ℕ) → Name → Result (Option Entry) F → List ℕ → List ℕ
  lines_at refused name (Ok (Some e)) later = ended (item_line name e) ++ later
  lines_at refused name (Ok None) later = []
  lines_at refused name (Err f) later = ended (refused f)

  pub listed_by_answer : (refused : F → List ℕ) (name : Name) (t : Reading F) → listing refused name t ≡ lines_at refused name (answer_of t) (listing refused name (rest_of t))
  unfolding listing
  listed_by_answer refused name (item e r) = refl
  listed_by_answer refused name whole = refl
  listed_by_answer refused name (fault f) = refl

-- the next line of a listing, and that the lines end
pub ruleset listed = (items_by_answer, listed_by_answer, append_assoc, append-nil)
