use Prim.Native.Nat.{ℕ}
use lib.ListN.{get_or}
use mathlib.Core.List.{List}
use mathlib.Core.Bool.{Bool}
use Rattle.lists.specs.Test.{any}
use Rattle.pairs.specs.Pair.{ordered}
use Rattle.levels.specs.Levels.{Raised}
use Rattle.levels.proofs.closing.mark_levels.Given as goal

-- the pairs of the first i requests
abbrev pub before : List ℕ → List ℕ → ℕ → ℕ → ℕ → Bool
before rs cs i r c = any (λ k. ordered (get_or rs k 0) (get_or cs k 0) r c) i

abbrev pub invariant-loop-i : goal.invariant-loop-i
invariant-loop-i l = Raised l.n 1 (before l.request_rows l.request_columns l.i) l.initial.scratch 0 l.scratch l.count
