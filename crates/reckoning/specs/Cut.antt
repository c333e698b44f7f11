-- Arithmetic on numbers of 56 bits, where a result that is too large is cut to the largest of them.
use Rattle.std.specs.Prelude.{ℕ, ◌+◌, ◌-◌, ◌*◌, ◌^◌, ◌<◌, min, max}
use Rattle.std.proofs.Common.{arith}
use Rattle.reckoning.specs.declared.weight.Capped.{Capped}

-- The largest number of 56 bits.
abbrev pub largest : ℕ
largest = 2 ^ 56 - 1

-- What is cut has 56 bits.
pub cut_within : (n : ℕ) → min n largest < 2 ^ 56
cut_within n = omega arith

-- The number n, or the largest of 56 bits if n exceeds it.
abbrev pub cut : ℕ → Capped
cut n = record { value = min n largest; within = cut_within n }

-- The sum of two numbers, cut.
abbrev pub cut_sum : Capped → Capped → Capped
cut_sum a b = cut (a.value + b.value)

-- The product of two numbers, cut.
abbrev pub cut_product : Capped → Capped → Capped
cut_product a b = cut (a.value * b.value)

-- The lesser of two numbers; the cut changes nothing here.
abbrev pub lesser : Capped → Capped → Capped
lesser a b = cut (min a.value b.value)

-- The greater of two numbers; the cut changes nothing here.
abbrev pub greater : Capped → Capped → Capped
greater a b = cut (max a.value b.value)
