-- Wider ranges give wider bounds. Assumes nothing.
use Rattle.std.specs.Prelude.{ℕ, ◌<◌, ℤ, ◌≤ℤ◌}

-- of n places, the range from lo to hi lies in that from lo' to hi'
pub record Wider (lo hi lo' hi' : ℕ → ℤ) (n : ℕ) : Type 0 where
  pub ends : (a : ℕ) → a < n → lo a ≤ℤ hi a
  pub below : (a : ℕ) → a < n → lo' a ≤ℤ lo a
  pub above : (a : ℕ) → a < n → hi a ≤ℤ hi' a
