use Rattle.std.proofs.Common.{set, refl, ap, ◌∙◌, rules, arith}
use Rattle.writer.proofs.Laying.{laid_one}
use Rattle.writer.proofs.output.Output.word.Goals as goal

pub returns : goal.returns
returns c = record {
  laid = record {
    there = c.requires.room;
    place = refl;
    words = ap (set c.args.self.now.words.now c.args.self.now.place) c.make_word.ensures.value ∙ laid_one _ _ _ (omega arith);
    long = search rules;
    same_reference = refl;
  };
}
