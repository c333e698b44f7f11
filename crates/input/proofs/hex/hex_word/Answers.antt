-- A word that was read from eight digits writes them.
use Rattle.std.proofs.Common.{arith}
use Rattle.std.proofs.lemmas.Grind.{common_steps}
use Rattle.input.specs.Words.{number_after}
use Rattle.input.proofs.HexLaws.{word_forth}
use Rattle.input.proofs.hex.hex_word.Goals as goal

pub returns-clause-digits : goal.returns-clause-digits
unfolding number_after
returns-clause-digits c =
    word_forth c.args.line.now c.loop-byte.word c.if-line-ne-DIGITS.false (grind (arith, common_steps, c.loop-byte.invariant.0))
