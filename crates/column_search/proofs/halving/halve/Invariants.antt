use Prim.Native.Nat.{ℕ, ◌≤◌, ◌<◌, ◌-◌, ◌+◌}
use mathlib.Core.Path.{◌≡◌}
use mathlib.Core.List.{List}
use Rattle.columns.specs.Columns.{row}
use Rattle.result.specs.Halving.{halving}
use Rattle.column_search.proofs.halving.halve.Given as goal

-- the places left: some, within the ends, and halving them ends where halving all does
abbrev pub Left : List ℕ → ℕ → ℕ → ℕ → ℕ → ℕ → ℕ → Type 0
Left rows r s e base there size =
    (s ≤ base) × (0 < size) × (base + size ≤ e) × (there ≡ row rows base) × (halving rows r base size ≡ halving rows r s (e - s))

abbrev pub invariant-loop-size : goal.invariant-loop-size
invariant-loop-size l = Left l.rows l.r l.s l.e l.base l.there l.size

abbrev pub decreases-loop-size : goal.decreases-loop-size
decreases-loop-size l = l.size
