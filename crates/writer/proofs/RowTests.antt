-- The tests of a row's values: how many they are, their ranges and their order.
use Rattle.std.specs.Borrow.{Bor}
use Rattle.std.specs.List.{list_all, zip}
use Rattle.std.proofs.Common.{◌≡◌, ℕ, eqb, ltb, ◌&&◌, List, [], ◌∷◌, map, length, Some, None, Option, sym, refl, ap, ◌∙◌, ⊎_elim, arith}
use Rattle.std.proofs.lemmas.List.{map-id}
use Rattle.std.proofs.lemmas.Bool.{cases_Bool, ne_eqb}
use Rattle.sheet.specs.Order.{follows}
use Rattle.sheet.specs.Order.{before as earlier}
use Rattle.sheet.specs.Reading.{values_by}
use Rattle.sheet.specs.Valid.{in_range}
use Rattle.writer.specs.Writing.{values_in}
use Rattle.sheet.proofs.RowOrder.{in_range_length}

-- values that are too few or too many
pub range_unequal : (dims values : List ℕ) → (length dims ≡ length values → ⊥) → in_range dims values ≡ eqb (length dims) (length values)
range_unequal dims values ne = ⊎_elim (λ e. absurd (ne (sym (in_range_length dims values e)))) (λ e. e) (cases_Bool (in_range dims values)) ∙ sym (ne_eqb _ _ ne)

-- values of the right number, each beside its slot's size
pub range_paired : (dims values : List ℕ) → length dims ≡ length values → in_range dims values ≡ list_all (λ p. ltb p.1 p.0) (zip dims values)
unfolding in_range
range_paired [] [] e = refl
range_paired [] (v ∷ vs) e = absurd (omega arith)
range_paired (size ∷ dims) [] e = absurd (omega arith)
range_paired (size ∷ dims) (v ∷ vs) e = ap (λ b. ltb v size && b) (range_paired dims vs (omega arith))

-- the row before and this one, where each value is its own word
pub plain_follows : (previous : Option (Bor (List ℕ))) (values : List ℕ) → follows (values_by (λ v. v) previous) (map (λ v. v) values) ≡ follows (values_in previous) values
plain_follows None values = refl
plain_follows (Some before) values = ap (λ us. earlier us (map (λ v. v) values)) (map-id before.now) ∙ ap (earlier before.now) (map-id values)
