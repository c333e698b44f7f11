-- A text falls into lines at its line feeds: the first two lemmas are fields of `FallsIntoLines`.
use Rattle.std.proofs.Common.{◌≡◌, ◌≢◌, ℕ, suc, ◌+◌, ◌<◌, List, [], ◌∷◌, ◌++◌, length, get_or, take, drop, refl, sym, ap, ◌∙◌, arith, ne_eqb, take-append-drop}
use Rattle.std.proofs.lemmas.List.{drop_more, get_or-take, length-take-le}
use Rattle.std.specs.List.{onto_first}
use Rattle.input.specs.Lines.{lines_of, Plain, FallsIntoLines}

pub ended_line : (line rest : List ℕ) → Plain line → lines_of (line ++ 10 ∷ rest) ≡ line ∷ lines_of rest
unfolding lines_of
ended_line [] rest plain = refl
ended_line (byte ∷ line) rest plain =
    rw (ne_eqb byte 10 (plain 0 (omega arith))) (ap (onto_first byte) (ended_line line rest (λ k h. plain (suc k) (omega arith))))

pub open_line : (line : List ℕ) → Plain line → 0 < length line → lines_of line ≡ line ∷ []
unfolding lines_of
open_line [] plain full = absurd (omega arith)
open_line (byte ∷ []) plain full = rw (ne_eqb byte 10 (plain 0 (omega arith)))
open_line (byte ∷ (next ∷ line)) plain full =
    rw (ne_eqb byte 10 (plain 0 (omega arith)))
    (ap (onto_first byte) (open_line (next ∷ line) (λ k h. plain (suc k) (omega arith)) (omega arith)))

-- the first line feed stands at k
pub lines_at : (text : List ℕ) (k : ℕ) → k < length text → get_or text k 0 ≡ 10 → ((j : ℕ) → j < k → get_or text j 0 ≢ 10) → lines_of text ≡ take k text ∷ lines_of (drop (k + 1) text)
lines_at text k within found before =
    let parts : text ≡ take k text ++ 10 ∷ drop (k + 1) text =
    sym (take-append-drop k text) ∙ ap (λ rest. take k text ++ rest) (drop_more text k 0 within ∙ ap (λ byte. byte ∷ drop (k + 1) text) found) in
    ap lines_of parts ∙ ended_line (take k text) (drop (k + 1) text) (λ j h. let lt : j < k = omega (arith, length-take-le k text) in rw (get_or-take k text j 0 lt) (before j lt))

pub falls_into_lines : FallsIntoLines
unfolding lines_of
falls_into_lines = record { empty = refl; ended = ended_line; open_ended = open_line }
