-- The size of a whole number: of sums, products, the lesser and the greater; what fits a signed 64-bit number. Assumes nothing.
use Rattle.std.specs.Prelude.{ℕ, ◌≤◌, ℤ, nat_abs}

-- at most b in size
pub record SizeWithin (b : ℕ) (z : ℤ) : Type 0 where
  pub size : nat_abs z ≤ b
