-- The laws of the cut sum, the cut product, the lesser and the greater of numbers of 56 bits.
use Rattle.std.specs.Prelude.{◌≡◌, ℕ}
use Rattle.std.proofs.Common.{ap, mul-add, arith}
use Rattle.reckoning.specs.Cut.{cut, largest, cut_sum, cut_product, lesser, greater}
use Rattle.reckoning.specs.declared.weight.Capped.{Capped}
use Rattle.reckoning.specs.Cutting.{Cuttable, cut_assoc, cut_distributes, cuttable_sum, cuttable_product, cuttable_min, cuttable_max, add_min, mul_max}
use Rattle.reckoning.specs.Equality.{same, bounded}

-- an operation on numbers, cut to 56 bits: each of the four is one
abbrev lifted : (ℕ → ℕ → ℕ) → Capped → Capped → Capped
lifted f a b = cut (f a.value b.value)

lifted_comm : {f : ℕ → ℕ → ℕ} → Cuttable largest f → (a b : Capped) → lifted f a b ≡ lifted f b a
lifted_comm cuttable a b = ap cut (cuttable.comm a.value b.value)

lifted_assoc : {f : ℕ → ℕ → ℕ} → Cuttable largest f → (a b c : Capped) → lifted f (lifted f a b) c ≡ lifted f a (lifted f b c)
lifted_assoc cuttable a b c = same _ _ (cut_assoc cuttable a.value b.value c.value)

lifted_distributes : {f g : ℕ → ℕ → ℕ} → Cuttable largest f → Cuttable largest g → ((m n k : ℕ) → f m (g n k) ≡ g (f m n) (f m k)) → (a b c : Capped) → lifted f a (lifted g b c) ≡ lifted g (lifted f a b) (lifted f a c)
lifted_distributes of-f of-g distributes a b c = same _ _ (cut_distributes of-f of-g distributes a.value b.value c.value)

pub sum_comm : (a b : Capped) → cut_sum a b ≡ cut_sum b a
sum_comm = lifted_comm (cuttable_sum largest)

pub sum_assoc : (a b c : Capped) → cut_sum (cut_sum a b) c ≡ cut_sum a (cut_sum b c)
sum_assoc = lifted_assoc (cuttable_sum largest)

pub sum_zero : (a : Capped) → cut_sum a (cut 0) ≡ a
sum_zero a = same _ _ (omega (arith, bounded a))

pub sum_largest : (a : Capped) → cut_sum a (cut largest) ≡ cut largest
sum_largest a = same _ _ (omega arith)

pub sum_lesser : (a b c : Capped) → cut_sum a (lesser b c) ≡ lesser (cut_sum a b) (cut_sum a c)
sum_lesser = lifted_distributes (cuttable_sum largest) (cuttable_min largest) add_min

pub product_comm : (a b : Capped) → cut_product a b ≡ cut_product b a
product_comm = lifted_comm (cuttable_product largest)

pub product_assoc : (a b c : Capped) → cut_product (cut_product a b) c ≡ cut_product a (cut_product b c)
product_assoc = lifted_assoc (cuttable_product largest)

pub product_one : (a : Capped) → cut_product a (cut 1) ≡ a
product_one a = same _ _ (omega (arith, bounded a))

pub product_zero : (a : Capped) → cut_product a (cut 0) ≡ cut 0
product_zero a = same _ _ (omega arith)

pub product_sum : (a b c : Capped) → cut_product a (cut_sum b c) ≡ cut_sum (cut_product a b) (cut_product a c)
product_sum = lifted_distributes (cuttable_product largest) (cuttable_sum largest) mul-add

pub product_greater : (a b c : Capped) → cut_product a (greater b c) ≡ greater (cut_product a b) (cut_product a c)
product_greater = lifted_distributes (cuttable_product largest) (cuttable_max largest) mul_max

pub lesser_comm : (a b : Capped) → lesser a b ≡ lesser b a
lesser_comm = lifted_comm (cuttable_min largest)

pub lesser_assoc : (a b c : Capped) → lesser (lesser a b) c ≡ lesser a (lesser b c)
lesser_assoc = lifted_assoc (cuttable_min largest)

pub lesser_largest : (a : Capped) → lesser a (cut largest) ≡ a
lesser_largest a = same _ _ (omega (arith, bounded a))

pub greater_comm : (a b : Capped) → greater a b ≡ greater b a
greater_comm = lifted_comm (cuttable_max largest)

pub greater_assoc : (a b c : Capped) → greater (greater a b) c ≡ greater a (greater b c)
greater_assoc = lifted_assoc (cuttable_max largest)

pub greater_zero : (a : Capped) → greater a (cut 0) ≡ a
greater_zero a = same _ _ (omega (arith, bounded a))
