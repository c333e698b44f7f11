use Rattle.std.proofs.Common.{map, length, drop}
use Rattle.words.specs.Layout.{word_of}
use Rattle.words.specs.declared.layout.Kind.TheVariants.{Value}
use Rattle.writer.specs.declared.output.Output.{Output}
use Rattle.writer.specs.Outputs.{HasRoom, Laid}
use Rattle.writer.proofs.output.Output.values.Given as goal

abbrev pub invariant-loop-value : goal.invariant-loop-value
invariant-loop-value l =
    let rest = drop l.value-index l.values in
    record {
      room : HasRoom (length rest) l.self;
      all : (after : Output) → Laid (map (word_of Value) rest) l.self after → Laid (map (word_of Value) l.values) l.initial.self after;
    }
