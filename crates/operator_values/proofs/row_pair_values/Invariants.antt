use Prim.Native.Nat.{ℕ}
use mathlib.Core.Path.{◌≡◌}
use mathlib.Core.List.{List}
use lib.ListN.{get_or}
use lib.Ieee.{Float, nan}
use Rattle.lists.specs.Overwrite.{filled}
use Rattle.pairs.specs.Positions.{inverse_at}
use Rattle.quadratic_form.specs.RowValue.{row_pair_value}
use Rattle.operator_values.proofs.row_pair_values.Given as goal

-- the value of row pair p
abbrev pub pair_value : List ℕ → List ℕ → List Float → List ℕ → List ℕ → List Float → List ℕ → List ℕ → (ℕ → ℕ → Float) → ℕ → Float
pair_value ast ac aw bst bc bw ar br Z p = row_pair_value ast ac aw bst bc bw Z (get_or ar p 0) (get_or br p 0)

abbrev pub invariant-loop-p : goal.invariant-loop-p
invariant-loop-p l = l.output ≡ filled (pair_value l.a_row_starts l.a_columns l.a_weights l.b_row_starts l.b_columns l.b_weights l.a_rows l.b_rows (inverse_at nan l.n l.scratch l.result_values)) l.p l.initial.output
