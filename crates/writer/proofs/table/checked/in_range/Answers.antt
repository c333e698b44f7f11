use Rattle.std.proofs.Common.{ltb, sym, ◌∙◌, rules, tests}
use Rattle.std.proofs.lemmas.Iterator.{YieldsList-from_slice, YieldsList-from_zip}
use Rattle.std.proofs.lemmas.Iterator.Search.{all_from_yields_List}
use Rattle.writer.proofs.RowTests.{range_paired, range_unequal}
use Rattle.writer.proofs.table.checked.in_range.Goals as goal

pub returns-then-dims-values : goal.returns-then-dims-values
returns-then-dims-values c = record {
  value = all_from_yields_List (λ p. ltb p.1 p.0) c.all.new.self _ c.all.result c.all.ensures.ran (YieldsList-from_zip (YieldsList-from_slice c.args.dims.now cc) (YieldsList-from_slice c.args.values.now cc)) (λ x b q k. search (rules, tests))
      ∙ sym (range_paired _ _ c.if-dims-values.true);
}

pub returns-else-dims-values : goal.returns-else-dims-values
returns-else-dims-values c = record { value = sym (range_unequal _ _ c.if-dims-values.false) }
