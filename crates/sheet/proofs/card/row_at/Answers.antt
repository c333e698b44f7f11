use Rattle.std.proofs.Common.{Err, ap, ◌∙◌}
use Rattle.std.proofs.lemmas.Result.{err_from_is_err_and, on_ok_weaker}
use Rattle.words.specs.Layout.{load_part}
use Rattle.words.proofs.CursorMoves.{moved_on}
use Rattle.sheet.proofs.RowReads.{row_no_values, row_no_order, row_code}
use Rattle.sheet.proofs.card.row_at.Goals as goal

pub returns-in_err-check_values-clause-value : goal.returns-in_err-check_values-clause-value
returns-in_err-check_values-clause-value g c =
    let p = err_from_is_err_and c.from_residual.result c.from_residual.ensures.1 in
    p.1 ∙ ap Err p.2 ∙ row_no_values _ _ _ _ _ c.in_err-check_values.ensures.value

pub returns-then-not-in_order-clause-value : goal.returns-then-not-in_order-clause-value
returns-then-not-in_order-clause-value g c =
    rw c.place.ensures.value (row_no_order _ _ _ _ _ c.in_ok-check_values.ensures.value (rw c.rest.ensures.value at c.if-not-in_order.ensures load_part (λ x y p. p)))

pub returns-clause-value : goal.returns-clause-value
returns-clause-value g c =
    let read = c.in_ok-check_values.ensures in
    (rw (read.moved.place, read.moved.rest) at c.code_at.ensures.value)
    ∙ row_code _ _ _ _ _ read.value (rw c.rest.ensures.value at c.if-not-in_order.ensures load_part (λ x y p. p))

pub returns-clause-moved : goal.returns-clause-moved
returns-clause-moved g c = on_ok_weaker _ (moved_on c.in_ok-check_values.ensures.moved) c.code_at.ensures.moved
