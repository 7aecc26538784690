-- One column of the route is the recurrence's. Assumes nothing.
use mathlib.Core.List.{List}
use Prim.Native.Nat.{ℕ}
use Rattle.takahashi.specs.Recurrence.{Arithmetic, Entry, table}
use Rattle.scatter.specs.Scatter.{ClosedPattern, Laid}

module _ (A : Arithmetic) (off on : A.Carrier → A.Carrier → A.Carrier) (none : A.Carrier) where
  -- ---- all of it
  module _ (n : ℕ) (desc : ℕ → List (Entry A.Carrier)) (P : ClosedPattern none n desc) (starts rows : List ℕ) (L : Laid none n desc starts rows)
      (diag : ℕ → A.Carrier) where
    abbrev pub table_of : ℕ → ℕ → A.Carrier
    table_of = table A off on n diag desc
