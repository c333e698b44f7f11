-- What is left of the line, after the word so far, gives the line's number; and the digits so far bound the word so far.
use Rattle.std.proofs.Common.{◌≡◌, ◌^◌, ◌<◌, drop}
use Rattle.input.specs.Words.{number_after}
use Rattle.input.proofs.hex.hex_word.Given as goal

abbrev pub invariant-loop-byte : goal.invariant-loop-byte
invariant-loop-byte l = (number_after l.word (drop l.byte-index l.line) ≡ number_after 0 l.line) × (l.word < 16 ^ l.byte-index)
