use Rattle.std.proofs.Common.{◌≡◌, get_or, length, sym, ap, ◌∙◌, rules, arith}
use Rattle.std.proofs.lemmas.List.{length_push}
use Rattle.std.proofs.lemmas.Slice.Zip.{zip_turn, zip_end}
use Rattle.sheet.proofs.Comparing.{differ_here, same_here, none_before}
use Rattle.sheet.proofs.order.comes_before.Goals as goal

pub returns-then-u-v : goal.returns-then-u-v
returns-then-u-v g c f reads =
    let turn = zip_turn c.args.first.now c.args.second.now c.loop-u.yielded c.into_iter-u-iterator.result c.loop-u.u-iterator c.next.new.self c.next.result (search rules) (search rules) c.loop-u.yielded_by (c.in-Some.u, c.in-Some.v) c.in-Some.is c.next.ensures.steps in
    let u : c.value-u.result ≡ f (get_or c.args.first.now (length c.loop-u.yielded) 0) = reads _ _ c.value-u.ensures ∙ ap f (turn.2 0) in
    let v : c.value-v.result ≡ f (get_or c.args.second.now (length c.loop-u.yielded) 0) = reads _ _ c.value-v.ensures ∙ ap f (turn.3 0) in
    rw (u, v) (sym (differ_here f _ _ _ turn.0 turn.1 (rw (u, v) at c.if-u-v.true)) ∙ c.loop-u.invariant f reads)

pub loop-u-preserved : goal.loop-u-preserved
loop-u-preserved g c f reads =
    let turn = zip_turn c.args.first.now c.args.second.now c.loop-u.yielded c.into_iter-u-iterator.result c.loop-u.u-iterator c.next.new.self c.next.result (search rules) (search rules) c.loop-u.yielded_by (c.in-Some.u, c.in-Some.v) c.in-Some.is c.next.ensures.steps in
    let u : c.value-u.result ≡ f (get_or c.args.first.now (length c.loop-u.yielded) 0) = reads _ _ c.value-u.ensures ∙ ap f (turn.2 0) in
    let v : c.value-v.result ≡ f (get_or c.args.second.now (length c.loop-u.yielded) 0) = reads _ _ c.value-v.ensures ∙ ap f (turn.3 0) in
    rw (length_push c.loop-u.yielded (c.in-Some.u, c.in-Some.v)) (sym (same_here f _ _ _ turn.0 turn.1 (sym u ∙ c.if-u-v.false ∙ v)) ∙ c.loop-u.invariant f reads)

pub returns : goal.returns
returns g c f reads =
    let long = zip_end c.args.first.now c.args.second.now c.loop-u.yielded c.into_iter-u-iterator.result c.loop-u.u-iterator c.next.new.self c.next.result (search rules) (search rules) c.loop-u.yielded_by c.in-None.is c.next.ensures.steps in
    sym (none_before f c.args.first.now c.args.second.now (length c.loop-u.yielded) (omega (arith, long))) ∙ c.loop-u.invariant f reads
