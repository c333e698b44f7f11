use Rattle.std.proofs.Common.{length, refl, arith}
use Rattle.std.proofs.lemmas.List.{length-map}
use Rattle.sheet.specs.Dims.{dims_list}
use Rattle.writer.specs.Writing.{row_of}
use Rattle.writer.proofs.WritingLaws.{ready}
use Rattle.writer.proofs.table.Table.checked.Goals as goal

-- all rows are accepted
pub new-requires : goal.new-requires
new-requires g c =
    let all = ready g.met.R.Reckoning.lawful _ _ c.in_ok-sizes.ensures.value _ _ (length-map c.args.rows.now row_of) _ c.mask_in-scope.ensures.value _ _ c.pick-dims.ensures.value
    c.as_slice.ensures.value (length (dims_list c.pick-dims.result)) refl c.in_default.ensures.value in
    record { slots = all.slots; few = all.few; fits = all.fits; short = omega (arith, all.short) }
