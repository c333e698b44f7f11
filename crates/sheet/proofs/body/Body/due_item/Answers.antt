use Rattle.std.proofs.Common.{ap, sym, ◌∙◌, arith}
use Rattle.sheet.specs.Dims.{dims_list}
use Rattle.sheet.proofs.ReadSteps.{slot_step, slot_stop, row_step, row_stop, card_step, card_stop}
use Rattle.sheet.proofs.ReaderStates.{handed_fault, at_slots, at_rows, at_cards, at_end, cards_more, then_slots, then_rows, then_row}
use Rattle.sheet.proofs.body.Body.due_item.Goals as goal

pub returns-in_err-slot : goal.returns-in_err-slot
returns-in_err-slot g c = record {
  value =
      at_slots _ _ c.args.self.now c.args.cursor.now ∙ slot_stop _ _ _ _ _ _ _ _ c.if-self-gt0.true _ c.in_err-slot.ensures.value
      ∙ handed_fault _ _ _ c.from_residual.ensures.1 (g.met.F.ReaderFault.sheets_rise _);
}

pub returns-in_ok-slot : goal.returns-in_ok-slot
returns-in_ok-slot g c =
    let read = c.in_ok-slot.ensures in
    record {
      value =
          then_slots _ _ _ _ _ _
          (at_slots _ _ c.args.self.now c.args.cursor.now
          ∙ slot_step _ _ _ _ _ _ read.moved.place read.moved.rest _ _ _ _ c.if-self-gt0.true _ _ _ read.value c.saturating_sub-self.ensures c.declare.ensures.value);
    }

pub returns-in_err-next_row : goal.returns-in_err-next_row
returns-in_err-next_row g c = record {
  value =
      at_rows _ _ c.args.self.now c.args.cursor.now (omega (arith, c.if-self-gt0.false))
      ∙ row_stop _ _ _ _ _ _ _ _ c.if-self-gt0-2.true _ c.in_err-next_row.ensures.value ∙ handed_fault _ _ _ c.from_residual-in_err-next_row.ensures.1 (g.met.F.ReaderFault.cards_rise _);
}

pub returns-in_ok-next_row : goal.returns-in_ok-next_row
returns-in_ok-next_row g c =
    let read = c.in_ok-next_row.ensures in
    record {
      value =
          then_row _ _ _ _ _ _ _ _ _ _ read.value (omega (arith, c.if-self-gt0.false))
          (at_rows _ _ c.args.self.now c.args.cursor.now (omega (arith, c.if-self-gt0.false))
          ∙ row_step _ _ _ _ _ _ _ _ _ read.moved.place read.moved.rest _ _ _ _ _ read.value read.after.0 (ap dims_list read.after.1) read.after.2);
    }

pub returns-in_err-head : goal.returns-in_err-head
returns-in_err-head g c = record {
  value =
      at_cards _ _ c.args.self.now c.args.cursor.now (omega (arith, c.if-self-gt0.false)) (omega (arith, c.if-self-gt0-2.false)) ∙ cards_more _ _ _ _ _ _ c.if-self-gt0-3.true
      ∙ card_stop _ _ _ _ _ _ _ _ c.in_err-head.ensures.value ∙ handed_fault _ _ _ c.from_residual-in_err-head.ensures.1 (g.met.F.ReaderFault.cards_rise _);
}

pub returns-in_ok-head : goal.returns-in_ok-head
returns-in_ok-head g c =
    let read = c.in_ok-head.ensures in
    record {
      value =
          then_rows _ g.F.ReaderFault.form _ _ _ _ (omega (arith, c.if-self-gt0.false))
          (rw c.new-self.ensures.value
          (at_cards _ g.F.ReaderFault.form c.args.self.now c.args.cursor.now (omega (arith, c.if-self-gt0.false)) (omega (arith, c.if-self-gt0-2.false)) ∙ cards_more _ g.F.ReaderFault.form _ _ _ _ c.if-self-gt0-3.true
          ∙ card_step _ _ _ _ _ _ _ _ _ read.moved.place read.moved.rest _ _ read.value read.dims));
    }

pub returns-in_err-words : goal.returns-in_err-words
returns-in_err-words g c = record {
  value =
      at_end _ _ c.args.self.now c.args.cursor.now (omega (arith, c.if-self-gt0.false)) (omega (arith, c.if-self-gt0-2.false)) (omega (arith, c.if-self-gt0-3.false))
      ∙ sym c.in_err-words.ensures.value ∙ handed_fault _ _ _ c.from_residual-in_err-words.ensures.1 (λ _ e. e);
}

pub returns-in_ok-words : goal.returns-in_ok-words
returns-in_ok-words g c = record {
  value =
      at_end _ _ c.args.self.now c.args.cursor.now (omega (arith, c.if-self-gt0.false)) (omega (arith, c.if-self-gt0-2.false)) (omega (arith, c.if-self-gt0-3.false))
      ∙ sym c.in_ok-words.ensures.value;
}
