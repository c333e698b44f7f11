use Rattle.std.proofs.Common.{◌≡◌, ◌+◌, ◌*◌, ◌^◌, ◌<◌, ◌≤◌, length, pow-suc, mul-zero, add-one, arith, drop_of_length-le}
use Rattle.sheet.specs.Scope.{mask_in}
use Rattle.sheet.proofs.ScopeSteps.{mask_with, mask_without}
use Rattle.sheet.proofs.scope.mask_in.Goals as goal
use Rattle.sheet.proofs.scope.mask_in.Goals.{then-size-ne0, else-size-ne0}

pub loop-size-preserved : goal.loop-size-preserved
loop-size-preserved c =
    let i = c.loop-size.size-index in
    let within : i < length c.args.sizes.now = omega arith in
    let doubled : c.loop-size.bit * 2 ≡ 2 ^ (i + 1) = rw (add-one, pow-suc 2 i, c.loop-size.invariant.0) in
    elim c.if-size-ne0.branch [
      | then-size-ne0 w ↦ (doubled, omega (arith, w.mask-is), mask_with _ i within _ _ _ c.loop-size.invariant.2 _ w.if-size-ne0.true w.mask-is)
      | else-size-ne0 w ↦ (doubled, omega (arith, w.mask-is), mask_without _ i within _ _ _ c.loop-size.invariant.2 _ w.if-size-ne0.false w.mask-is)
    ]

pub returns : goal.returns
unfolding mask_in
returns c =
    let past : length c.args.sizes.now ≤ c.loop-size.size-index = omega arith in
    let total = rw (drop_of_length-le c.args.sizes.now past, mul-zero c.loop-size.bit) at c.loop-size.invariant.2 in
    record { value = omega (arith, total) }
