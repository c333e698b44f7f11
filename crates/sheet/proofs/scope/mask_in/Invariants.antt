use Rattle.std.proofs.Common.{◌≡◌, ◌+◌, ◌*◌, ◌^◌, ◌<◌, drop}
use Rattle.sheet.specs.Scope.{mask_in}
use Rattle.sheet.proofs.scope.mask_in.Given as goal

abbrev pub invariant-loop-size : goal.invariant-loop-size
invariant-loop-size l = (l.bit ≡ 2 ^ l.size-index) × (l.mask < l.bit) × (l.mask + l.bit * mask_in (drop l.size-index l.sizes) ≡ mask_in l.sizes)
