use Rattle.std.proofs.Common.{◌≡◌, Ok, Err, ap, ◌∙◌}
use Rattle.std.proofs.lemmas.Result.{err_from_is_err_and}
use Rattle.sheet.specs.Verify.{same_tables}
use Rattle.sheet.proofs.EqualTables.{equal_tables}
use Rattle.sheet.proofs.Verdicts.{first_fails, second_fails, both_read, tables_told}
use Rattle.sheet.proofs.verify.same_table.Goals as goal

pub returns-in_err-check_table : goal.returns-in_err-check_table
returns-in_err-check_table g c =
    let a = g.R.Reckoning.meaning in
    let p = err_from_is_err_and c.from_residual.result c.from_residual.ensures.1 in
    let told : c.from_residual.result ≡ same_tables a c.args.sheet.now c.args.left.now c.args.right.now =
    p.1 ∙ ap Err p.2 ∙ first_fails _ _ _ _ c.in_err-check_table.ensures.value in
    record { value = told; weights = tables_told a g.met.R.Reckoning.lawful _ _ _ _ told; equal_words = equal_tables a g.met.R.Reckoning.lawful }

pub returns-in_err-check_table-2 : goal.returns-in_err-check_table-2
returns-in_err-check_table-2 g c =
    let a = g.R.Reckoning.meaning in
    let exit = c.from_residual-in_err-check_table-2 in
    let p = err_from_is_err_and exit.result exit.ensures.1 in
    let told : exit.result ≡ same_tables a c.args.sheet.now c.args.left.now c.args.right.now =
    p.1 ∙ ap Err p.2 ∙ second_fails _ _ _ _ c.in_ok-check_table.ensures.value c.in_err-check_table-2.ensures.value in
    record { value = told; weights = tables_told a g.met.R.Reckoning.lawful _ _ _ _ told; equal_words = equal_tables a g.met.R.Reckoning.lawful }

pub returns : goal.returns
returns g c =
    let a = g.R.Reckoning.meaning in
    let told : Ok c.eq.result ≡ same_tables a c.args.sheet.now c.args.left.now c.args.right.now =
    ap Ok c.eq.ensures ∙ both_read _ _ _ c.in_ok-check_table.ensures.value c.in_ok-check_table-2.ensures.value in
    record { value = told; weights = tables_told a g.met.R.Reckoning.lawful _ _ _ _ told; equal_words = equal_tables a g.met.R.Reckoning.lawful }
