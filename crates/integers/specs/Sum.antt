-- Finite sums of integers: equal terms, zero terms, linearity, exchange of two sums, one term, the last and the first term by themselves. Assumes nothing.
use Rattle.std.specs.Prelude.{ℕ, zero, suc, ◌+◌, ℤ, pos, ◌+ℤ◌}

-- f 0 + f 1 + .. + f (n - 1)
abbrev pub Σℤ : ℕ → (ℕ → ℤ) → ℤ
Σℤ zero f = pos zero
Σℤ (suc n) f = Σℤ n f +ℤ f n
