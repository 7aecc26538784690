use Prim.Native.Nat.{ℕ}
use mathlib.Core.Path.{◌≡◌}
use mathlib.Core.List.{List}
use lib.ListN.{get_or}
use lib.Ieee.{Float, nan}
use Rattle.lists.specs.Overwrite.{filled}
use Rattle.factor_order.specs.Permutation.{index}
use Rattle.original_diagonal_with_limit.proofs.write_original.Given as goal

-- the first entry of column perm i
abbrev pub entry : List ℕ → List ℕ → List Float → ℕ → Float
entry perm starts values i = get_or values (index starts (index perm i)) nan

abbrev pub invariant-loop-i : goal.invariant-loop-i
invariant-loop-i l = l.output ≡ filled (entry l.orig_to_perm l.result_starts l.result_values) l.i l.initial.output
