-- Tables that may be written, as cards.
use Rattle.std.specs.Prelude.{map, Ok, Result}
use Rattle.faults.specs.declared.write.WriteFault.{WriteFault}
use Rattle.sheet.specs.Reading.{on_read}
use Rattle.sheet.specs.Syntax.{Card}
use Rattle.writer.specs.declared.table.Table.{Table}
use Rattle.writer.specs.Writing.{row_of, card_over}

-- The card that a table's words spell.
abbrev pub card_of : Table → Card
card_of t = card_over t.scope (map row_of t.rows.now)

-- What a check answered, by the card of its table.
abbrev pub shown_card : Result Table WriteFault → Result Card WriteFault
shown_card r = on_read (λ f. f) r (λ t. Ok (card_of t))
