-- Two numbers of 56 bits are equal where their values are, and such a number stays as it is when it is cut.
use Rattle.std.specs.Prelude.{◌≡◌, ◌^◌, ◌<◌, ◌≤◌}
use mathlib.Core.HLevel.{is_prop→PathP}
use Rattle.std.proofs.Math.Bridge.{le_prop}
use Rattle.std.proofs.Common.{arith}
use Rattle.reckoning.specs.Cut.{cut, largest}
use Rattle.reckoning.specs.declared.weight.Capped.{Capped}

pub same : (a b : Capped) → a.value ≡ b.value → a ≡ b
same a b p = λ i. record { value = p i; within = is_prop→PathP (λ j. p j < 2 ^ 56) (λ j. le_prop) a.within b.within i }

pub bounded : (a : Capped) → a.value ≤ largest
bounded a = omega (arith, a.within)

pub cut_value : (a : Capped) → cut a.value ≡ a
cut_value a = same _ _ (omega (arith, bounded a))
