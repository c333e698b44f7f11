-- The names of the reckonings.
use Rattle.std.specs.Prelude.{ℕ, cond, List, Some, None, codes, Option}
use Rattle.std.specs.Str.{bytes_eq}
use Rattle.input.specs.declared.names.Name.{Name}
use Rattle.input.specs.declared.names.Name.TheVariants.{Possible, Count, Cost}

-- the reckoning that a line names: the line is the name and nothing more
abbrev pub name_of : List ℕ → Option Name
name_of line =
    cond (bytes_eq line (codes "possible")) (Some Possible)
    (cond (bytes_eq line (codes "count")) (Some Count)
    (cond (bytes_eq line (codes "cost")) (Some Cost) None))
