use Rattle.std.proofs.Common.{◌≡◌, ◌+◌, map, length, arith, drop_of_length-le}
use Rattle.sheet.specs.Written.{rows_words, table_words}
use Rattle.writer.specs.Writing.{row_of, card_over}
use Rattle.writer.proofs.Laying.{counted_more}
use Rattle.writer.proofs.table.Table.new.Goals as goal

pub loop-row-preserved : goal.loop-row-preserved
loop-row-preserved c = counted_more row_of c.args.rows.now c.loop-row.row-index _ c.loop-row-test.true _ _ c.loop-row.invariant

pub invariant_of-result : goal.invariant_of-result
unfolding rows_words
invariant_of-result c =
    let total : c.loop-row.len + 0 ≡ length (table_words (card_over c.args.scope (map row_of c.args.rows.now))) =
    rw (drop_of_length-le c.args.rows.now c.loop-row-test.false) at c.loop-row.invariant in
    record { slots = c.requires.slots; few = c.requires.few; fits = c.requires.fits; counted = omega (arith, total); short = omega (arith, total, c.requires.short) }
