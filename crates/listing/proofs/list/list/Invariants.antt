-- the text so far, and the listing of what is to come, are the whole listing
use Rattle.std.proofs.Common.{◌≡◌, ◌++◌, string_bytes}
use Rattle.sheet.specs.Readers.{to_come}
use Rattle.sheet.specs.Verify.{items}
use Rattle.listing.specs.Listing.{listing, refused_as}
use Rattle.listing.proofs.list.list.Given as goal

abbrev pub invariant-loop-item : goal.invariant-loop-item
invariant-loop-item g l =
    let refused = refused_as g.F.Fault.number g.F.Fault.place g.F.Fault.finder in
    string_bytes l.text ++ listing refused l.name (to_come g.R.Reckoning.meaning g.F.ReaderFault.form l.reader)
    ≡ listing refused l.name (to_come g.R.Reckoning.meaning g.F.ReaderFault.form l.initial.reader)

abbrev pub decreases-loop-item : goal.decreases-loop-item
decreases-loop-item g l = items (to_come g.R.Reckoning.meaning g.F.ReaderFault.form l.reader)
