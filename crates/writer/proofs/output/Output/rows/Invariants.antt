use Rattle.std.proofs.Common.{map, length, drop}
use Rattle.sheet.specs.Written.{rows_words}
use Rattle.writer.specs.declared.output.Output.{Output}
use Rattle.writer.specs.Outputs.{HasRoom, Laid}
use Rattle.writer.specs.Writing.{row_of}
use Rattle.writer.proofs.output.Output.rows.Given as goal

abbrev pub invariant-loop-row : goal.invariant-loop-row
invariant-loop-row l =
    let rest = rows_words (map row_of (drop l.row-index l.rows)) in
    record {
      room : HasRoom (length rest) l.self;
      all : (after : Output) → Laid rest l.self after → Laid (rows_words (map row_of l.rows)) l.initial.self after;
    }
