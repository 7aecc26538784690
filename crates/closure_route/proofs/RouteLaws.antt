-- The columns of the recurrence, one after the other.
-- Assumes nothing.
use Prim.Native.Nat.{ℕ, ◌+◌, ◌-◌, ◌≤◌, ◌<◌}
use native.Mathlib.Omega.{arith}
use mathlib.Core.Path.{◌≡◌, refl, sym, subst, ◌∙◌}
use mathlib.Core.Bool.{Bool}
use mathlib.Core.List.{List}
use lib.ListN.{length}
use lib.Ieee.{Float, nan}
use Rattle.lists.specs.Overwrite.{overwrite}
use Rattle.pairs.specs.ColumnOrder.{set_size}
use Rattle.entries.specs.Entries.{entry_values}
use Rattle.entries.proofs.Position.{entry_values-overwrite}
use Rattle.closure_route.specs.Route.{RouteLists, route_set, ClosureRouteInput, SolvedFrom, ColumnsSolved, ColumnInput}

-- ---- the columns, one after the other

module _ {n : ℕ} {S : ℕ → ℕ → Bool} {Z : ℕ → ℕ → Float} where
  pub solved_none : (z : List Float) → ColumnsSolved n S Z n z z
  solved_none z = record { long = refl; rest = λ q l. refl; entries = λ r c h p l. absurd (omega arith) }

  pub solved_next : {m j : ℕ} {z₀ z z' : List Float} → ColumnsSolved n S Z m z₀ z → ColumnsSolved n S Z j z z' → ColumnsSolved n S Z j z₀ z'
  solved_next A B = record { long = B.long ∙ A.long; rest = λ q l. B.rest q l ∙ A.rest q l; entries = B.entries }

  -- all columns
  pub solved_all : {z₀ z : List Float} → set_size n S ≤ length z₀ → ColumnsSolved n S Z 0 z₀ z → z ≡ overwrite (entry_values n S Z) z₀
  solved_all {z₀} {z} fits A =
      entry_values-overwrite n S Z nan z₀ z fits A.long A.rest (λ r c h l t. A.entries r c (omega arith) h l t)

-- what the next column asks
pub column_next : {g : RouteLists} {Z : ℕ → ℕ → Float} {j : ℕ} {z₀ z : List Float} → ClosureRouteInput g (length z₀)
    → ColumnsSolved g.n (route_set g) Z j z₀ z → 0 < j → j ≤ g.n → ColumnInput g (j - 1) Z z
column_next {g} {Z} {j} {z₀} {z} G A lo hi =
    let e : j ≡ j - 1 + 1 = omega arith in
    record {
      route = subst (ClosureRouteInput g) (sym A.long) G;
      inside = omega arith;
      later = subst (λ (m : ℕ). SolvedFrom g.n (route_set g) Z m z) e A.entries;
    }
