use Rattle.std.proofs.lemmas.List.{drop_all}
use Rattle.sheet.specs.Written.{rows_words}
use Rattle.writer.specs.Writing.{row_of}
use Rattle.writer.proofs.Laying.{laid_nothing, row_room, row_writable, rest_room, rows_more}
use Rattle.writer.proofs.output.Output.rows.Goals as goal

pub row-requires : goal.row-requires
row-requires c = record {
  room = row_room row_of _ _ _ c.loop-row-test.true c.loop-row.self c.loop-row.invariant.room;
  fits = row_writable row_of _ _ _ c.loop-row-test.true c.requires.fits;
}

pub loop-row-preserved : goal.loop-row-preserved
loop-row-preserved c = record {
  room = rest_room row_of _ _ _ c.loop-row-test.true c.row.ensures.laid c.loop-row.invariant.room;
  all = λ after rest. c.loop-row.invariant.all after (rows_more row_of _ _ _ c.loop-row-test.true c.row.ensures.laid rest);
}

pub returns : goal.returns
unfolding rows_words
returns c =
    let last = rw (drop_all c.loop-row.row-index c.args.rows.now c.loop-row-test.false) at c.loop-row.invariant in
    record { laid = last.all _ (laid_nothing _ last.room) }
