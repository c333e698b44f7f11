use Rattle.writer.proofs.Laying.{laid_on}
use Rattle.writer.proofs.output.Output.row.Goals as goal

pub returns : goal.returns
returns c =
    let high = rw c.high_load.ensures.value at c.word.ensures.laid in
    let low = rw c.low_load.ensures.value at c.word-2.ensures.laid in
    record { laid = laid_on c.values.ensures.laid (laid_on high low) }
