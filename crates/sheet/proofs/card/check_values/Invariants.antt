use Rattle.std.proofs.Common.{◌≡◌, drop}
use Rattle.words.specs.Cursors.{Moved}
use Rattle.sheet.specs.ReadCard.{values_at}
use Rattle.sheet.specs.Reading.{erased}
use Rattle.sheet.proofs.card.check_values.Given as goal

abbrev pub invariant-loop-size : goal.invariant-loop-size
invariant-loop-size l =
    Moved l.size-index l.initial.cursor l.cursor
    × (erased (values_at (drop l.size-index l.dims) l.cursor.place l.cursor.rest.now) ≡ erased (values_at l.dims l.initial.cursor.place l.initial.cursor.rest.now))
