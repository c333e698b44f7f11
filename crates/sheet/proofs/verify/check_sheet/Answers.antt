use Rattle.std.proofs.Common.{◌≡◌, ap, ◌∙◌}
use Rattle.sheet.specs.ReadSheet.{read_sheet, sheet_reading}
use Rattle.sheet.specs.Reading.{erased, built}
use Rattle.sheet.specs.Verify.{verdict}
use Rattle.sheet.proofs.SheetsLaws.{only_written_sheets, sheets_read_back}
use Rattle.sheet.proofs.Verdicts.{verdict_built, erased_read, sheet_told}
use Rattle.sheet.proofs.verify.check_sheet.Goals as goal

pub returns : goal.returns
returns g c =
    let a = g.R.Reckoning.meaning in
    let laws = g.met.R.Reckoning.lawful in
    let ws = c.args.sheet.now in
    let told : c.finish.result ≡ erased (read_sheet a ws) =
    c.finish.ensures.value ∙ ap verdict c.new.ensures.value ∙ verdict_built (sheet_reading a ws) ∙ erased_read (built (sheet_reading a ws)) (λ b. record { slots = b.slots; cards = b.cards }) in
    record { value = told; written = sheet_told a laws ws _ told; only_written = only_written_sheets laws ws; gives_back = sheets_read_back a laws }
