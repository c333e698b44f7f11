-- The codes of numbers of 56 bits.
use Rattle.std.specs.Prelude.{◌≡◌, ℕ, ◌^◌, cond, Some, None, Option, Result, IfErr, nat_lt}
use Rattle.std.specs.Result.{result_ok}
use Rattle.reckoning.specs.Cut.{cut}
use Rattle.reckoning.specs.declared.weight.Capped.{Capped}
use Rattle.reckoning.specs.declared.weight.codes.TooLarge.{TooLarge}

-- The code of a number is the number itself.
abbrev pub code_of : Capped → ℕ
code_of a = a.value

-- A code below 2 ^ 56 stands for the number that it is, and any other for none.
abbrev pub from_code : ℕ → Option Capped
from_code c = cond (nat_lt c (2 ^ 56)) (Some (cut c)) None

-- The result is the number that the code stands for, or an error with the code, which stands for none.
abbrev pub Decodes : ℕ → Result Capped TooLarge → Type 0
Decodes c r = (result_ok r ≡ from_code c) × IfErr r (λ e. e.0 ≡ c)
