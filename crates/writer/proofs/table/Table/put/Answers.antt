use Rattle.std.proofs.Common.{map, length, sym, ◌∙◌, rules, arith}
use Rattle.std.proofs.lemmas.List.{length-map}
use Rattle.writer.specs.Writing.{row_of}
use Rattle.writer.proofs.Laying.{laid_on, table_laid}
use Rattle.writer.proofs.table.Table.put.Goals as goal

pub returns-clause-value : goal.returns-clause-value
returns-clause-value c =
    let rows = c.args.self.now.rows.now in
    let laid =
    table_laid c.args.self.now.scope (map row_of rows) c.args.self.now.slots (length rows) c.rows.new.self.place (sym (length-map rows row_of)) (omega arith)
    (laid_on c.word.ensures.laid (laid_on c.rows.ensures.laid c.end.ensures.laid)) in
    (search rules) ∙ laid.words ∙ rw (c.at-output.ensures.place, c.at-output.ensures.words)
