use Rattle.std.proofs.Common.{◌∙◌}
use Rattle.sheet.specs.Readers.{to_come}
use Rattle.sheet.proofs.ReadSteps.{head_step, head_stop}
use Rattle.sheet.proofs.ReaderStates.{handed_fault, then_counts}
use Rattle.sheet.proofs.reader.Reader.head.Goals as goal

pub returns-in_err-head : goal.returns-in_err-head
returns-in_err-head g c = record {
  value = head_stop _ _ _ _ _ c.in_err-head.ensures.value ∙ handed_fault _ _ _ c.from_residual.ensures.1 (g.met.F.ReaderFault.sheets_rise _);
}

pub returns : goal.returns
unfolding to_come
returns g c =
    let read = c.in_ok-head.ensures in
    record { value = then_counts _ g.F.ReaderFault.form _ _ _ _ _ _ c.after.ensures.value _ _ (head_step _ _ _ _ _ _ read.moved.place read.moved.rest _ read.value) }
