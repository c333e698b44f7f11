-- Two moves of a cursor are one.
use Rattle.std.proofs.Common.{◌≡◌, ℕ, ◌+◌, length, drop, ap, ◌∙◌, add_assoc, arith, drop-drop, length-drop}
use Rattle.words.specs.declared.cursor.Cursor.{Cursor}
use Rattle.words.specs.Cursors.{Moved}

pub moved_on : {m n : ℕ} {a b c : Cursor} → Moved m a b → Moved n b c → Moved (m + n) a c
moved_on {m} {n} {a} {b} {c} first second =
    let left : length b.rest.now + m ≡ length a.rest.now = rw (first.rest, length-drop m a.rest.now) (omega (arith, first.there)) in
    record {
      there = omega (arith, left, second.there);
      place = second.place ∙ ap (λ k. k + n) first.place ∙ add_assoc a.place m n;
      rest = second.rest ∙ ap (drop n) first.rest ∙ drop-drop n m a.rest.now;
    }
