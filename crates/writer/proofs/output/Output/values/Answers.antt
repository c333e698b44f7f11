use Rattle.std.proofs.Common.{arith}
use Rattle.std.proofs.lemmas.List.{drop_more, drop_all}
use Rattle.writer.proofs.Laying.{laid_nothing, laid_on}
use Rattle.writer.proofs.output.Output.values.Goals as goal

pub loop-value-preserved : goal.loop-value-preserved
loop-value-preserved c =
    let before = rw (drop_more c.args.values.now c.loop-value.value-index 0 c.loop-value-test.true) at c.loop-value.invariant in
    record {
      room = omega arith;
      all = λ after rest. before.all after (laid_on c.word.ensures.laid rest);
    }

pub returns : goal.returns
returns c =
    let last = rw (drop_all c.loop-value.value-index c.args.values.now c.loop-value-test.false) at c.loop-value.invariant in
    record { laid = last.all _ (laid_nothing _ last.room) }
