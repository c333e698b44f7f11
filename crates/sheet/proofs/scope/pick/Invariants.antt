use Rattle.std.proofs.Common.{◌≡◌, ◌≤◌, ◌++◌, length, take, drop}
use Rattle.sheet.specs.Scope.{picked}
use Rattle.sheet.proofs.scope.pick.Given as goal

abbrev pub invariant-loop-size : goal.invariant-loop-size
invariant-loop-size l = (l.width ≤ l.size-index) × (length l.chosen ≡ 12) × (take l.width l.chosen ++ picked l.rest (drop l.size-index l.sizes) ≡ picked l.scope l.sizes)
