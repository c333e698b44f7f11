use Rattle.std.proofs.Common.{sym, subst}
use Rattle.sheet.specs.Places.{Stands}
use Rattle.sheet.proofs.FirstReadings.{first_of_sheet}
use Rattle.sheet.proofs.PlacesLaws.{sheet_stands}
use Rattle.sheet.proofs.reader.start.Reader+R+SheetFault.new.Goals as goal

pub returns-clause-value : goal.returns-clause-value
returns-clause-value g c = first_of_sheet _ _ _ c.at_first.ensures.value

pub returns-clause-places : goal.returns-clause-places
returns-clause-places g c =
    subst (Stands c.args.words.now 0) (sym (first_of_sheet _ _ _ c.at_first.ensures.value)) (sheet_stands g.R.Reckoning.meaning c.args.words.now)
