use Rattle.std.proofs.Common.{sym, ◌∙◌}
use Rattle.words.proofs.CursorMoves.{moved_on}
use Rattle.sheet.proofs.RowValues.{value_passed, value_large, value_risen, values_none}
use Rattle.sheet.proofs.card.check_values.Goals as goal

pub returns-in_err-value-clause-value : goal.returns-in_err-value-clause-value
returns-in_err-value-clause-value c = value_risen _ _ _ _ c.loop-size-test.true _ c.from_residual.ensures.1 c.in_err-value.ensures.value ∙ c.loop-size.invariant.1

pub returns-then-value-size-clause-value : goal.returns-then-value-size-clause-value
returns-then-value-size-clause-value c =
    rw c.place-place.ensures.value
    (sym (value_large _ _ _ _ c.loop-size-test.true _ c.in_ok-value.ensures.value c.if-value-size.true) ∙ c.loop-size.invariant.1)

pub loop-size-preserved : goal.loop-size-preserved
loop-size-preserved c =
    let read = c.in_ok-value.ensures in (
      moved_on c.loop-size.invariant.0 read.moved,
      sym (value_passed _ _ _ _ c.loop-size-test.true read.moved.place read.moved.rest _ read.value c.if-value-size.false) ∙ c.loop-size.invariant.1,
    )

pub returns-clause-value : goal.returns-clause-value
returns-clause-value c = values_none _ _ _ _ c.loop-size-test.false ∙ c.loop-size.invariant.1
