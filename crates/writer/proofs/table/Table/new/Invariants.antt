-- the words counted so far, and those of the rows that are left, are the words of the table
use Rattle.std.proofs.Common.{◌≡◌, ◌+◌, map, length, drop}
use Rattle.sheet.specs.Written.{rows_words, table_words}
use Rattle.writer.specs.Writing.{row_of, card_over}
use Rattle.writer.proofs.table.Table.new.Given as goal

abbrev pub invariant-loop-row : goal.invariant-loop-row
invariant-loop-row l =
    l.len + length (rows_words (map row_of (drop l.row-index l.rows))) ≡ length (table_words (card_over l.scope (map row_of l.rows)))
