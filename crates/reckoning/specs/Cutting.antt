-- The sum, the product, the lesser and the greater of numbers keep their laws when every result is cut to a limit.
use Rattle.std.specs.Prelude.{◌≡◌, ℕ, zero, suc, ◌+◌, ◌*◌, ◌≤◌, min, max}
use Rattle.std.proofs.Common.{sym, ap, ◌∙◌, ⊎_elim, add_comm, add_assoc, mul_comm, mul_assoc, mul-zero, mul-suc, mul-le-mul_left, le_of_lt, arith}
use Rattle.std.proofs.Math.Nat.{min_comm, max_comm, max-eq_left, max-eq_right}
use Rattle.std.proofs.lemmas.Bool.{cases_lt}

-- a commutative and associative operation whose cut result stays the same when an argument is cut
pub record Cuttable (limit : ℕ) (f : ℕ → ℕ → ℕ) : Type 0 where
  pub comm : (m n : ℕ) → f m n ≡ f n m
  pub assoc : (m n k : ℕ) → f (f m n) k ≡ f m (f n k)
  pub cut_first : (m n : ℕ) → min (f (min m limit) n) limit ≡ min (f m n) limit

module _ {limit : ℕ} {f : ℕ → ℕ → ℕ} (cuttable : Cuttable limit f) where
  pub cut_second : (m n : ℕ) → min (f m (min n limit)) limit ≡ min (f m n) limit
  cut_second m n = ap (λ k. min k limit) (cuttable.comm m (min n limit)) ∙ cuttable.cut_first n m ∙ ap (λ k. min k limit) (cuttable.comm n m)

  pub cut_both : (m n : ℕ) → min (f (min m limit) (min n limit)) limit ≡ min (f m n) limit
  cut_both m n = cuttable.cut_first m (min n limit) ∙ cut_second m n

  pub cut_assoc : (m n k : ℕ) → min (f (min (f m n) limit) k) limit ≡ min (f m (min (f n k) limit)) limit
  cut_assoc m n k = cuttable.cut_first (f m n) k ∙ ap (λ j. min j limit) (cuttable.assoc m n k) ∙ sym (cut_second m (f n k))

pub cut_distributes : {limit : ℕ} {f g : ℕ → ℕ → ℕ} → Cuttable limit f → Cuttable limit g → ((m n k : ℕ) → f m (g n k) ≡ g (f m n) (f m k)) → (m n k : ℕ) → min (f m (min (g n k) limit)) limit ≡ min (g (min (f m n) limit) (min (f m k) limit)) limit
cut_distributes {limit} {f} {g} of-f of-g distributes m n k =
    cut_second of-f m (g n k) ∙ ap (λ j. min j limit) (distributes m n k) ∙ sym (cut_both of-g (f m n) (f m k))

pub cuttable_sum : (limit : ℕ) → Cuttable limit ◌+◌
cuttable_sum limit = record { comm = add_comm; assoc = add_assoc; cut_first = λ m n. omega arith }

pub cuttable_min : (limit : ℕ) → Cuttable limit min
cuttable_min limit = record { comm = min_comm; assoc = λ m n k. omega arith; cut_first = λ m n. omega arith }

pub cuttable_max : (limit : ℕ) → Cuttable limit max
cuttable_max limit = record { comm = max_comm; assoc = λ m n k. omega arith; cut_first = λ m n. omega arith }

-- a factor from the limit on can be replaced by the limit: unless the other factor is 0, the product reaches the limit with either
large_factor : (limit m n : ℕ) → limit ≤ m → min (limit * n) limit ≡ min (m * n) limit
large_factor limit m zero h = ap (λ k. min k limit) (mul-zero limit ∙ sym (mul-zero m))
large_factor limit m (suc n) h = omega (arith, mul-suc m n, mul-suc limit n)

product_cut_first : (limit m n : ℕ) → min (min m limit * n) limit ≡ min (m * n) limit
product_cut_first limit m n =
    ⊎_elim
    (λ below. let e : min m limit ≡ m = omega arith in ap (λ k. min (k * n) limit) e)
    (λ above. let e : min m limit ≡ limit = omega arith in ap (λ k. min (k * n) limit) e ∙ large_factor limit m n above)
    (cases_lt m limit)

pub cuttable_product : (limit : ℕ) → Cuttable limit ◌*◌
cuttable_product limit = record { comm = mul_comm; assoc = mul_assoc; cut_first = product_cut_first limit }

pub add_min : (m n k : ℕ) → m + min n k ≡ min (m + n) (m + k)
add_min m n k = omega arith

pub mul_max : (m n k : ℕ) → m * max n k ≡ max (m * n) (m * k)
mul_max m n k =
    ⊎_elim
    (λ below. ap (λ j. m * j) (max-eq_right (le_of_lt below)) ∙ sym (max-eq_right (mul-le-mul_left m (le_of_lt below))))
    (λ above. ap (λ j. m * j) (max-eq_left above) ∙ sym (max-eq_left (mul-le-mul_left m above)))
    (cases_lt n k)
