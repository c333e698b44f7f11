-- a slot in the mask is written, another is passed over
use Rattle.std.proofs.Common.{◌≡◌, ◌-◌, [], ◌∷◌, ◌++◌, codes, decimal, ap, append-nil, arith, ne_eqb, rules}
use Rattle.std.proofs.Output.{has_written_append, has_written_of_eq}
use Rattle.std.proofs.lemmas.List.{flat_map_more}
use Rattle.sheet.specs.Scope.{picked, scope_of}
use Rattle.listing.specs.ItemLine.{spaced}
use Rattle.listing.proofs.InMask.{slot_in, slot_out}
use Rattle.listing.proofs.text.SlotsDisplay.fmt.Goals as goal
use Rattle.listing.proofs.text.SlotsDisplay.fmt.Goals.{then-rest-eq1+in_ok-write, else-rest-eq1}

pub loop-number-preserved : goal.loop-number-preserved
loop-number-preserved g c =
    let l = c.loop-number in
    let (done, whole, wrote) = l.invariant in
    elim c.if-rest-eq1.branch [
      | then-rest-eq1+in_ok-write w ↦ (
        done ++ l.number-counter ∷ [],
        slot_in done _ l.number-counter l.rest (omega arith) (omega arith) whole w.if-rest-eq1.true,
        λ plain.
            has_written_of_eq _ _ _ _ _ (flat_map_more (λ n. codes " " ++ decimal n) [] done l.number-counter)
            (has_written_append _ _ _ _ _ _ (wrote plain) (search rules)),
      )
      | else-rest-eq1 w ↦ (done, slot_out done _ l.number-counter l.rest (omega arith) (omega arith) whole w.if-rest-eq1.false, rw w.f-is wrote)
    ]

pub returns-clause-writes : goal.returns-clause-writes
unfolding picked
returns-clause-writes g c plain ok =
    let (done, whole, wrote) = c.loop-number.invariant in
    let past : c.loop-number.number-counter - 1 ≡ 12 = omega arith in
    let all : done ≡ scope_of c.args.self.now.0 = rw (past, append-nil) at whole in
    has_written_of_eq _ _ _ _ _ (rw (ne_eqb _ _ c.if-self-eq0.false) (ap spaced all)) (wrote plain)
