use Rattle.std.proofs.Common.{sym, ◌∙◌, eqb-true}
use borrow.Author.Tests.{eqb-false}
use Rattle.sheet.proofs.EndWords.{end_unread, end_elsewhere, end_early, end_right}
use Rattle.sheet.proofs.ReadSteps.{end_step, end_wrong, end_stop}
use Rattle.sheet.proofs.ReaderStates.{end_fault}
use Rattle.sheet.proofs.parts.end_at.Goals as goal

pub returns-in_err-counted : goal.returns-in_err-counted
returns-in_err-counted g c = record {
  value = sym (end_stop _ _ _ _ _ (end_unread _ _ _ c.in_err-counted.ensures.value) ∙ end_fault _ _ c.from_residual.ensures.1 (g.met.F.ReaderFault.words_rise _));
}

pub returns-then-counted-before : goal.returns-then-counted-before
returns-then-counted-before g c = record {
  value =
      rw (c.wrong_end.ensures.value, c.place-before.ensures.value)
      (sym (end_wrong _ _ _ _ _ (end_elsewhere _ _ _ c.in_ok-counted.ensures.value (rw c.place-before.ensures.value at c.if-counted-before.true))));
}

pub returns-then-not-is_empty : goal.returns-then-not-is_empty
returns-then-not-is_empty g c =
    let read = c.in_ok-counted.ensures in
    record {
      value =
          rw (c.wrong_end-then-not-is_empty.ensures.value, c.place-words.ensures.value, read.moved.place)
          (sym (end_wrong _ _ _ _ _ (end_early _ _ _ read.value (c.if-counted-before.false ∙ c.place-before.ensures.value) read.moved.there (eqb-false _ _ (sym (rw (c.rest.ensures.value, read.moved.rest) at c.if-not-is_empty.ensures))))));
    }

pub returns : goal.returns
returns g c =
    let read = c.in_ok-counted.ensures in
    record {
      value =
          rw (c.place-words.ensures.value, read.moved.place)
          (sym (end_step _ _ _ _ (end_right _ _ _ read.value (c.if-counted-before.false ∙ c.place-before.ensures.value) read.moved.there (eqb-true _ _ (sym (rw (c.rest.ensures.value, read.moved.rest) at c.if-not-is_empty.ensures))))));
    }
