-- A row and its code, from the readings of their parts.
use Rattle.std.proofs.Common.{◌≡◌, ℕ, ◌+◌, true, false, cond, List, map, length, take, drop, Ok, Err, Option, Result, refl, ap}
use Rattle.words.specs.Layout.{load_part}
use Rattle.reckoning.specs.Algebra.{Algebra}
use Rattle.faults.specs.declared.fault.CardFault.{CardFault}
use Rattle.faults.specs.declared.fault.CardFault.TheVariants.{Order}
use Rattle.sheet.specs.Order.{follows}
use Rattle.sheet.specs.ReadCard.{values_at, code_at, row_at}
use Rattle.sheet.specs.Reading.{on_read, erased, code_only}
use Rattle.sheet.proofs.RowValues.{values_are}

code_alone : {E : Type 0} (values : List ℕ) (r : Result ℕ E) → r ≡ code_only (on_read (λ f. f) r (λ code. Ok (record { values = values; code = code })))
code_alone values (Ok code) = refl
code_alone values (Err f) = refl

module _ {W : Type 0} (a : Algebra W) (dims : List ℕ) (previous : Option (List ℕ)) (at : ℕ) (ws : List ℕ) where
  pub row_no_values : {f : CardFault} → Err f ≡ erased (values_at dims at ws) → Err f ≡ code_only (row_at a dims previous at ws)
  unfolding row_at
  row_no_values {f} e = go (values_at dims at ws) e
    where
      go : (r : Result (List ℕ) CardFault) → Err f ≡ erased r → Err f ≡ code_only (on_read (λ f. f) r (λ values. cond (follows previous values) (on_read (λ f. f) (code_at a (at + length dims) (drop (length dims) ws)) (λ code. Ok (record { values = values; code = code }))) (Err (Order at))))
      go (Ok vs) e = cc
      go (Err g) e = cc

  values_read : Ok tt ≡ erased (values_at dims at ws) → values_at dims at ws ≡ Ok (map load_part (take (length dims) ws))
  values_read e = go (values_at dims at ws) (values_are dims at ws) e
    where
      go : (r : Result (List ℕ) CardFault) → ((vs : List ℕ) → r ≡ Ok vs → vs ≡ map load_part (take (length dims) ws)) → Ok tt ≡ erased r → r ≡ Ok (map load_part (take (length dims) ws))
      go (Ok vs) are e = ap Ok (are vs refl)
      go (Err g) are e = cc

  pub row_no_order : Ok tt ≡ erased (values_at dims at ws) → false ≡ follows previous (map load_part (take (length dims) ws)) → Err (Order at) ≡ code_only (row_at a dims previous at ws)
  unfolding row_at
  row_no_order e t = rw (values_read e, ← t)

  pub row_code : Ok tt ≡ erased (values_at dims at ws) → true ≡ follows previous (map load_part (take (length dims) ws)) → code_at a (at + length dims) (drop (length dims) ws) ≡ code_only (row_at a dims previous at ws)
  unfolding row_at
  row_code e t = rw (values_read e, ← t) (code_alone _ _)
