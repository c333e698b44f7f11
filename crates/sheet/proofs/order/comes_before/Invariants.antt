use Rattle.std.proofs.Common.{◌≡◌, ℕ, map, length, drop}
use Rattle.sheet.specs.Order.{before}
use Rattle.sheet.proofs.order.comes_before.Given as goal

abbrev pub invariant-loop-u : goal.invariant-loop-u
invariant-loop-u g l =
    (f : ℕ → ℕ) → ((x y : ℕ) → goal.V-post g l.value x y → y ≡ f x)
    → before (map f (drop (length l.yielded) l.first)) (map f (drop (length l.yielded) l.second)) ≡ before (map f l.first) (map f l.second)
