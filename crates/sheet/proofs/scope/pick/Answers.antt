use Rattle.std.proofs.Common.{◌<◌, ◌≤◌, length, ap, ◌∙◌, append-nil, arith, add-one, length-set, take-suc-set, drop_of_length-le}
use Rattle.sheet.specs.Scope.{picked}
use Rattle.sheet.proofs.ScopeSteps.{picked_with, picked_without}
use Rattle.sheet.proofs.scope.pick.Goals as goal
use Rattle.sheet.proofs.scope.pick.Goals.{then-rest-eq1, else-rest-eq1}

pub loop-size-preserved : goal.loop-size-preserved
loop-size-preserved c =
    let within : c.loop-size.size-index < length c.args.sizes.now = omega arith in
    let room : c.loop-size.width < length c.loop-size.chosen = omega arith in
    elim c.if-rest-eq1.branch [
      | then-rest-eq1 w ↦ (
        omega (arith, w.width-is),
        ap length w.chosen-is ∙ simp length-set c.loop-size.invariant.1,
        picked_with _ _ within _ _ _ c.loop-size.invariant.2 w.if-rest-eq1.true _ (rw (w.chosen-is, w.width-is, add-one c.loop-size.width) (take-suc-set c.loop-size.chosen c.loop-size.width _ room)),
      )
      | else-rest-eq1 w ↦ (
        omega (arith, w.width-is),
        ap length w.chosen-is ∙ c.loop-size.invariant.1,
        rw (w.chosen-is, w.width-is) (picked_without _ _ within _ _ _ c.loop-size.invariant.2 w.if-rest-eq1.false),
      )
    ]

pub returns : goal.returns
unfolding picked
returns c =
    let past : length c.args.sizes.now ≤ c.loop-size.size-index = omega arith in
    let total = rw (drop_of_length-le c.args.sizes.now past, append-nil) at c.loop-size.invariant.2 in
    record { value = total }
