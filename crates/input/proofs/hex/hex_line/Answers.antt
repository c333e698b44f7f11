-- Each byte of the line is the digit at its place.
use Rattle.std.proofs.Common.{◌≡◌, rules, arith}
use Rattle.std.proofs.lemmas.Slice.Eq.{HasBytesAt, text_from_reads}
use Rattle.input.specs.Words.{low_digits, hex_digits}
use Rattle.input.proofs.HexLaws.{word_back}
use Rattle.input.proofs.hex.hex_line.Goals as goal

pub returns : goal.returns
unfolding hex_digits low_digits
returns c =
    let bytes : HasBytesAt c.from_fn.result 0 (hex_digits c.args.word) = search rules in
    let line : c.from_fn.result ≡ hex_digits c.args.word = text_from_reads c.from_fn.result (hex_digits c.args.word) c.from_fn.ensures.items.long bytes in
    record { value = line; back = rw line (word_back c.args.word (omega arith)) }
