-- How a refusal is printed, as bytes, without a line feed.
use Rattle.std.specs.Prelude.{ℕ, List, ◌++◌, codes, decimal}
use Rattle.faults.specs.declared.fault.Finder.{Finder}
use Rattle.faults.specs.declared.fault.Finder.TheVariants.{Words, Card, Sheet, Table}

-- the name of the layer that found a fault
abbrev pub finder_name : Finder → List ℕ
finder_name Words = codes "words"
finder_name Card = codes "card"
finder_name Sheet = codes "sheet"
finder_name Table = codes "table"

-- the line of a fault with this number, found at this place by this layer
unfoldable pub refusal_line : ℕ → ℕ → Finder → List ℕ
refusal_line number place finder = codes "refused " ++ (decimal number ++ (codes " " ++ (decimal place ++ (codes " " ++ finder_name finder))))
