-- Hexadecimal digits: what one more digit does to a number, the room that a word has, a digit's bits, and a word read back from its digits.
use Rattle.std.proofs.Common.{◌≡◌, ℕ, zero, suc, ◌+◌, ◌*◌, ◌/◌, ◌%◌, ◌^◌, ◌<◌, ◌≤◌, ◌⊎◌, List, [], ◌∷◌, length, Some, None, Option, sym, refl, ap, ◌∙◌, inl, inr, mul_assoc, add-mul, pow-suc, arith}
use native.Mathlib.Nat.{pow-succ', pow-le-pow_right, div-div-eq-div-mul}
use lib.Arith.{mod-mul}
use Rattle.std.proofs.lemmas.Nat.{pow-add}
use Rattle.std.proofs.lemmas.Bool.Decides.{nat_tests}
use Rattle.input.specs.Digits.{digit_value, digit_of}
use Rattle.input.specs.Words.{number_after, word_of_line, low_digits, hex_digits}

pub digit_small : (byte digit : ℕ) → Some digit ≡ digit_value byte → digit < 16
digit_small byte digit e = grind (arith, nat_tests)

pub digit_back : (value : ℕ) → value < 16 → digit_value (digit_of value) ≡ Some value
digit_back value h = grind (arith, nat_tests)

pub digit_forth : (byte digit : ℕ) → Some digit ≡ digit_value byte → digit_of digit ≡ byte
digit_forth byte digit e = grind (arith, nat_tests)

pub number_more : (before byte digit : ℕ) (rest : List ℕ) → Some digit ≡ digit_value byte → number_after before (byte ∷ rest) ≡ number_after (before * 16 + digit) rest
unfolding number_after
number_more before byte digit rest e = rw (sym e, number_after)

pub number_stop : (before byte : ℕ) (rest : List ℕ) → None ≡ digit_value byte → number_after before (byte ∷ rest) ≡ None
unfolding number_after
number_stop before byte rest e = rw (sym e, number_after)

-- fewer than eight digits leave room for one more
pub short_number : (places : ℕ) → places < 8 → 16 ^ places ≤ 16 ^ 7
short_number places short = pow-le-pow_right {n = 16} (omega arith) {i = places} {j = 7} (omega arith)

pub more_places : (before places digit : ℕ) → before < 16 ^ places → digit < 16 → before * 16 + digit < 16 ^ suc places
more_places before places digit h l = omega (arith, pow-suc 16 places)

-- a digit is four bits
pub four_bits : (places : ℕ) → 2 ^ (4 * places) ≡ 16 ^ places
four_bits zero = refl
four_bits (suc places) =
    let more : 4 * suc places ≡ 4 * places + 4 = omega arith in
    rw (more, pow-add 2 (4 * places) 4, pow-suc 16 places, four_bits places)

pub number_low : (places before number : ℕ) → number_after before (low_digits places number) ≡ Some (before * 16 ^ places + number % 16 ^ places)
unfolding number_after low_digits
number_low zero before number = ap Some (omega arith)
number_low (suc places) before number =
    let digit : ℕ = number / 16 ^ places % 16 in
    let shift : 16 ^ suc places ≡ 16 * 16 ^ places = pow-succ' 16 places in
    let split : number % (16 * 16 ^ places) ≡ digit * 16 ^ places + number % 16 ^ places = mod-mul number (omega arith) (omega (arith, pow-le-pow_right {n = 16} (omega arith) {i = zero} {j = places} (omega arith))) in
    number_more before (digit_of digit) digit (low_digits places number) (sym (digit_back digit (omega arith)))
    ∙ number_low places (before * 16 + digit) number
    ∙ ap Some (rw (shift, split) (omega (arith, add-mul (before * 16) digit (16 ^ places), mul_assoc before 16 (16 ^ places))))

cases_digit : (digit : Option ℕ) → (None ≡ digit) ⊎ ((value : ℕ) × (Some value ≡ digit))
cases_digit None = inl refl
cases_digit (Some value) = inr (value, refl)

-- the line that writes a number has its lowest digits, behind those that wrote `before`
pub digits_forth : (line : List ℕ) (before number : ℕ) → number_after before line ≡ Some number → (line ≡ low_digits (length line) number) × (number / 16 ^ length line ≡ before)
unfolding number_after low_digits
digits_forth [] before number e = let same : before ≡ number = cc in (refl, omega arith)
digits_forth (byte ∷ rest) before number e =
    elim (cases_digit (digit_value byte)) [
      | inl none ↦ let z : ◌≡◌ {A = ℕ} 0 1 = cc (number_stop before byte rest none, e) in absurd (omega arith)
      | inr some ↦
          let digit = some.0 in
          let behind = digits_forth rest (before * 16 + digit) number (sym (number_more before byte digit rest some.1) ∙ e) in
          let this : number / 16 ^ length rest % 16 ≡ digit = rw behind.1 (omega (arith, digit_small byte digit some.1)) in
          let above : number / 16 ^ length rest / 16 ≡ before = rw behind.1 (omega (arith, digit_small byte digit some.1)) in
          (cc (digit_forth byte digit some.1, behind.0, this), ap (λ n. number / n) (pow-suc 16 (length rest)) ∙ sym (div-div-eq-div-mul number (16 ^ length rest) 16) ∙ above)
    ]

pub word_forth : (line : List ℕ) (word : ℕ) → length line ≡ 8 → Some word ≡ number_after 0 line → line ≡ hex_digits word
unfolding hex_digits
word_forth line word len e = (digits_forth line 0 word (sym e)).0 ∙ ap (λ k. low_digits k word) len

pub word_back : (word : ℕ) → word < 2 ^ 32 → word_of_line (hex_digits word) ≡ Some word
unfolding word_of_line hex_digits low_digits
word_back word h = number_low 8 0 word ∙ ap Some (omega arith)

-- reading a line digit by digit
pub ruleset reading = (digit_small, number_more, number_stop, short_number, more_places)
