-- A code that was not refused stands for the number that it is.
use Rattle.std.proofs.Common.{sym}
use Rattle.reckoning.specs.CodesLemmas.{from_code_of}
use Rattle.reckoning.proofs.weight.codes.CappedTryFromU64.try_from.Goals as goal

pub returns : goal.returns
returns c = (sym (from_code_of _), tt)
