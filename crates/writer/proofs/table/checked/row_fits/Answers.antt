use Rattle.std.proofs.Common.{◌≡◌, ◌∙◌, rules, arith}
use Rattle.std.proofs.lemmas.Grind.{common_steps}
use Rattle.sheet.specs.Order.{follows}
use Rattle.writer.specs.Writing.{values_in}
use Rattle.writer.proofs.RowTests.{plain_follows}
use Rattle.writer.proofs.table.checked.row_fits.Goals as goal
use Rattle.writer.proofs.table.checked.row_fits.Goals.{then-in_range, else-in_range}

pub returns-then-in_order : goal.returns-then-in_order
returns-then-in_order g c = elim c.if-in_range.branch [
  | then-in_range w ↦
      let order : c.if-in_range.value ≡ follows (values_in c.args.previous) c.args.row.values.now = w.value-is ∙ w.in_order.ensures (λ v. v) (λ x y e. search rules) ∙ plain_follows _ _ in
      grind (arith, common_steps)
  | else-in_range w ↦ grind (arith, common_steps)
]

pub returns-else-in_order : goal.returns-else-in_order
returns-else-in_order g c = elim c.if-in_range.branch [
  | then-in_range w ↦
      let order : c.if-in_range.value ≡ follows (values_in c.args.previous) c.args.row.values.now = w.value-is ∙ w.in_order.ensures (λ v. v) (λ x y e. search rules) ∙ plain_follows _ _ in
      grind (arith, common_steps)
  | else-in_range w ↦ grind (arith, common_steps)
]
