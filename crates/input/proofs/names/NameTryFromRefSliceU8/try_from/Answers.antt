-- A line that is read byte by byte as a name is that name.
use Rattle.std.proofs.Common.{◌≡◌, ℕ, List, length, codes, ap, sym, arith}
use Rattle.std.proofs.lemmas.Slice.Eq.{HasBytesAt, text_from_reads}
use Rattle.input.specs.Names.{name_of}
use Rattle.input.proofs.names.NameTryFromRefSliceU8.try_from.Goals as goal

read : (line name : List ℕ) → length line ≡ length name → HasBytesAt line 0 name → name_of line ≡ name_of name
read line name long bytes = ap name_of (text_from_reads line name long bytes)

pub returns-in-possible : goal.returns-in-possible
returns-in-possible c = sym (read c.args.line.now (codes "possible") (omega arith) (omega arith))

pub returns-in-count : goal.returns-in-count
returns-in-count c = sym (read c.args.line.now (codes "count") (omega arith) (omega arith))
