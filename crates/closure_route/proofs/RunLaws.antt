-- Numbers that rise with their place, and whose first and last differ by as much as their places, follow one another.
-- Assumes nothing.
use Prim.Native.Nat.{ℕ, zero, suc, ◌+◌, ◌-◌, ◌≤◌, ◌<◌}
use native.Mathlib.Omega.{arith}
use mathlib.Core.Path.{◌≡◌, ap}
use Rattle.closure_route.specs.Run.{Rises, Follows}

module _ (f : ℕ → ℕ) (from last : ℕ) (rises : Rises f from last) where
  spread : (q d : ℕ) → from ≤ q → q + d < last → f q + d ≤ f (q + d)
  spread q zero lo hi =
      let e : q + 0 ≡ q = omega arith in
      omega (arith, ap f e)
  spread q (suc d) lo hi = omega (arith, spread q d lo (omega arith), rises (q + d) (q + suc d) (omega arith) (omega arith) hi)

  -- at least as much as the places are apart
  pub run-apart : (q q' : ℕ) → from ≤ q → q ≤ q' → q' < last → f q + (q' - q) ≤ f q'
  run-apart q q' lo h hi =
      let e : q + (q' - q) ≡ q' = omega arith in
      omega (arith, spread q (q' - q) lo (omega arith), ap f e)

  pub run_is : f (last - 1) ≡ f from + (last - 1 - from) → Follows f from last
  run_is ends q lo hi =
      omega (arith, run-apart from q (omega arith) lo hi, run-apart q (last - 1) lo (omega arith) (omega arith))
