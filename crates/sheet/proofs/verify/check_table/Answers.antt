use Rattle.std.proofs.Common.{◌≡◌, ap, ◌∙◌}
use Rattle.sheet.specs.Reading.{erased, built}
use Rattle.sheet.specs.ReadTable.{read_table, table_reading}
use Rattle.sheet.specs.Verify.{verdict}
use Rattle.sheet.proofs.TablesLaws.{only_written_tables, tables_read_back}
use Rattle.sheet.proofs.Verdicts.{verdict_built, erased_read, table_told}
use Rattle.sheet.proofs.verify.check_table.Goals as goal

pub returns : goal.returns
returns g c =
    let a = g.R.Reckoning.meaning in
    let laws = g.met.R.Reckoning.lawful in
    let sheet = c.args.sheet.now in
    let table = c.args.table.now in
    let told : c.finish.result ≡ erased (read_table a sheet table) =
    c.finish.ensures.value ∙ ap verdict c.new.ensures.value ∙ verdict_built (table_reading a sheet table) ∙ erased_read (built (table_reading a sheet table)) (λ b. b.cards) in
    record { value = told; written = table_told a laws sheet table _ told; only_written = only_written_tables a sheet table; gives_back = tables_read_back a laws sheet }
