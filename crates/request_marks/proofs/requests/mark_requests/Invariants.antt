use Prim.Native.Nat.{ℕ}
use mathlib.Core.Bool.{Bool}
use mathlib.Core.List.{List}
use lib.ListN.{get_or}
use Rattle.lists.specs.Test.{any}
use Rattle.pairs.specs.Pair.{ordered}
use Rattle.marked_pairs.specs.MarkedPairs.{AlsoMarked}
use Rattle.request_marks.proofs.requests.mark_requests.Given as goal

-- the pairs of the first i requests
abbrev pub before : List ℕ → List ℕ → ℕ → ℕ → ℕ → Bool
before rs cs i r c = any (λ k. ordered (get_or rs k 0) (get_or cs k 0) r c) i

abbrev pub invariant-loop-i : goal.invariant-loop-i
invariant-loop-i l = AlsoMarked l.n (before l.request_rows l.request_columns l.i) l.initial.scratch l.scratch l.count
