use Rattle.std.proofs.Common.{◌≡◌, sym, ap, ◌∙◌, subst}
use Rattle.sheet.specs.declared.stage.Stage.TheVariants.{Failed}
use Rattle.sheet.specs.Form.{table_form}
use Rattle.sheet.specs.Places.{Stands}
use Rattle.sheet.specs.ReadTable.{table_reading}
use Rattle.sheet.specs.Readers.{to_come}
use Rattle.sheet.proofs.FirstReadings.{first_beside, first_failed}
use Rattle.sheet.proofs.PlacesLaws.{table_stands}
use Rattle.sheet.proofs.reader.start.Reader+R+TableFault.new.Goals as goal

pub returns-in-Ok-clause-value : goal.returns-in-Ok-clause-value
returns-in-Ok-clause-value g c = first_beside _ _ _ _ _ _ c.in-Ok.ensures.value c.of_table.ensures.value c.at_first.ensures.value

pub returns-in-Ok-clause-places : goal.returns-in-Ok-clause-places
returns-in-Ok-clause-places g c =
    subst (Stands c.args.table.now 0) (sym (first_beside _ _ _ _ _ _ c.in-Ok.ensures.value c.of_table.ensures.value c.at_first.ensures.value)) (table_stands g.R.Reckoning.meaning c.args.table.now c.args.sheet.now)

failed : (g : _) (c : goal.After-at_first-in-Err g) → to_come g.R.Reckoning.meaning table_form c.at_first-in-Err.result ≡ table_reading g.R.Reckoning.meaning c.args.sheet.now c.args.table.now
failed g c = first_failed _ _ _ _ _ c.in-Err.ensures.value (c.at_first-in-Err.ensures.value.stage ∙ ap Failed c.into.ensures)

pub returns-in-Err-clause-value : goal.returns-in-Err-clause-value
returns-in-Err-clause-value g c = failed g c

pub returns-in-Err-clause-places : goal.returns-in-Err-clause-places
returns-in-Err-clause-places g c = subst (Stands c.args.table.now 0) (sym (failed g c)) (table_stands g.R.Reckoning.meaning c.args.table.now c.args.sheet.now)
