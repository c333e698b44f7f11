use Rattle.std.proofs.Common.{Err, sym, ap, ◌∙◌}
use Rattle.std.proofs.lemmas.Result.{err_from_is_err_and}
use Rattle.std.specs.Option.{option_map}
use Rattle.sheet.specs.Dims.{dims_list}
use Rattle.sheet.specs.Reading.{firsts}
use Rattle.sheet.proofs.CardHeads.{card_passed, card_refused, card_unread, is_covered, not_covered}
use Rattle.sheet.proofs.card.card_over.Goals as goal

pub returns-in_err-head-clause-value : goal.returns-in_err-head-clause-value
returns-in_err-head-clause-value g c =
    let p = err_from_is_err_and c.from_residual.result c.from_residual.ensures.1 in
    ap firsts (p.1 ∙ ap Err p.2) ∙ card_unread (g.F.ReaderFault.form.rule c.args.sizes.now) _ _ _ c.in_err-head.ensures.value

pub returns-in_default-clause-value : goal.returns-in_default-clause-value
returns-in_default-clause-value g c =
    let rule = g.F.ReaderFault.form.rule c.args.sizes.now in
    rw c.place-place.ensures.value (card_refused rule _ _ _ c.in_ok-head.ensures.value (not_covered (rule c.in_ok-head.head.scope) _ (sym (ap (option_map dims_list) c.in_default.is) ∙ c.cover.ensures.value)))

pub returns-clause-value : goal.returns-clause-value
returns-clause-value g c =
    let rule = g.F.ReaderFault.form.rule c.args.sizes.now in
    card_passed rule _ _ _ c.in_ok-head.ensures.value (is_covered (rule c.in_ok-head.head.scope) _ _ (sym (ap (option_map dims_list) c.in-Some.is) ∙ c.cover.ensures.value))
