use Rattle.std.proofs.Common.{Err, ap, ◌∙◌, arith}
use Rattle.std.proofs.lemmas.Result.{err_from_is_err_and}
use Rattle.writer.proofs.WritingLaws.{written, refuses_first, write_full, write_done, written_back}
use Rattle.writer.proofs.write.write_table.Goals as goal

pub returns-in_err-table-clause-value : goal.returns-in_err-table-clause-value
returns-in_err-table-clause-value g c =
    let p = err_from_is_err_and c.from_residual.result c.from_residual.ensures.1 in
    ap (λ answer. (answer, c.args.out.now)) (p.1 ∙ ap Err p.2) ∙ written _ _ _ c.args.out.now c.in_err-table.ensures.value

pub returns-in_err-table-clause-first : goal.returns-in_err-table-clause-first
returns-in_err-table-clause-first g c = refuses_first _ _ _ _ _ _ (returns-in_err-table-clause-value g c)

pub returns-then-table-room-clause-value : goal.returns-then-table-room-clause-value
returns-then-table-room-clause-value g c = write_full _ _ _ _ c.in_ok-table.ensures.value c.args.out.now c.min-room.result c.min-room.ensures (omega arith)

pub returns-clause-value : goal.returns-clause-value
returns-clause-value g c = write_done _ _ _ _ c.in_ok-table.ensures.value c.args.out.now _ _ c.put.ensures.place c.put.ensures.value (omega arith)

pub returns-clause-back : goal.returns-clause-back
returns-clause-back g c = written_back _ _ _ _ c.in_ok-table.ensures.value c.args.out.now _ _ c.put.ensures.place c.put.ensures.value g.met.R.Reckoning.lawful
