use Prim.Native.Nat.{ℕ}
use mathlib.Core.Path.{◌≡◌}
use mathlib.Core.List.{List}
use lib.ListN.{length}
use lib.IntN.{ℤ}
use Rattle.whole_pairs.specs.Entry.{cell_fault}
use Rattle.whole_pairs.specs.Worst.{worst, worst_in}
use Rattle.weight_ranges.specs.Ranges.{max_range_entry}
use Rattle.weight_ranges.proofs.checks.row_fault.Given as goal

-- the worst fault of place a
abbrev pub line : List ℕ → List ℕ → List ℤ → List ℕ → ℕ → ℕ
line starts rows values columns a = worst_in (cell_fault max_range_entry starts rows values columns a) 0 (length columns)

abbrev pub invariant-loop-a : goal.invariant-loop-a
invariant-loop-a l = l.found ≡ worst (line l.starts l.rows l.values l.columns) l.a
