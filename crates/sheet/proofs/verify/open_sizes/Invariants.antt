use Rattle.std.proofs.Common.{◌≡◌}
use Rattle.sheet.specs.ReadSheet.{sheet_reading}
use Rattle.sheet.specs.Form.{sheet_form}
use Rattle.sheet.specs.Readers.{to_come}
use Rattle.sheet.specs.Scope.{no_sizes}
use Rattle.sheet.specs.Verify.{noted_all, items}
use Rattle.sheet.proofs.verify.open_sizes.Given as goal

abbrev pub invariant-loop-item : goal.invariant-loop-item
invariant-loop-item g l =
    let a = g.R.Reckoning.meaning in
    noted_all (to_come a sheet_form l.reader) l.sizes ≡ noted_all (sheet_reading a l.sheet) no_sizes

abbrev pub decreases-loop-item : goal.decreases-loop-item
decreases-loop-item g l = items (to_come g.R.Reckoning.meaning sheet_form l.reader)
