use Prim.Native.Nat.{ℕ, ◌+◌}
use native.Mathlib.Omega.{arith}
use mathlib.Core.Path.{◌≡◌, sym, ap}
use mathlib.Core.List.{List}
use lib.ListN.{length, get_or}
use Rattle.lists.specs.Test.{any, any_none}
use Rattle.columns.specs.Columns as columns
use Rattle.marked_pairs.specs.MarkedPairs.{AlsoMarked, also_none, also_more, pairs_also, pairs_cong}
use Rattle.request_marks.specs.OperatorMarks.{RowInput}
use Rattle.request_marks.specs.CrossRequests.{cross_set, pair_set, cross_requested}
use Rattle.request_marks.proofs.OperatorLaws.{row_input}
use Rattle.request_marks.proofs.cross.mark_cross_pairs.Goals as goal

-- at equal rows
same-input : {n : ℕ} {cs : List ℕ} {w : List ℕ} {count : ℕ} (rs : List ℕ) {i i' : ℕ} → i ≡ i' → RowInput n cs (columns.start rs i') (columns.start rs (i' + 1)) w count
    → RowInput n cs (columns.start rs i) (columns.start rs (i + 1)) w count
same-input rs x R = rw x R

same-marked : {n : ℕ} (as' ac bs' bc : List ℕ) {w w' : List ℕ} {count i j i' j' : ℕ} → i ≡ i' → j ≡ j'
    → AlsoMarked n (cross_set ac bc (columns.start as' i) (columns.start as' (i + 1)) (columns.start bs' j) (columns.start bs' (j + 1))) w w' count
    → AlsoMarked n (cross_set ac bc (columns.start as' i') (columns.start as' (i' + 1)) (columns.start bs' j') (columns.start bs' (j' + 1))) w w' count
same-marked as' ac bs' bc x y M = rw (sym x, sym y) M

pub loop-p-init : goal.loop-p-init
loop-p-init c = also_none _ (λ r k. any_none _) c.clear_pairs.ensures.marked

pub mark_row_pair-count-requires : goal.mark_row_pair-count-requires
mark_row_pair-count-requires c = let l = c.loop-p in
    let O = c.requires.pairs in
    let i< = O.inside l.p c.loop-p-test.true in
    let j< = O.inside₂ l.p c.loop-p-test.true in record { i_bound = (omega (arith, c.at.ensures), omega (arith, c.at-in-loop-p.ensures)); row_input = same-input c.args.a_row_starts.now c.at.ensures (row_input c.requires.small O.first l.invariant.marked (get_or c.args.a_rows.now l.p 0) i<); row_input_2 = same-input c.args.b_row_starts.now c.at-in-loop-p.ensures (row_input c.requires.small O.second l.invariant.marked (get_or c.args.b_rows.now l.p 0) j<) }

pub loop-p-preserved : goal.loop-p-preserved
loop-p-preserved c = let l = c.loop-p in
    let a = c.args in
    let step = same-marked a.a_row_starts.now a.a_columns.now a.b_row_starts.now a.b_columns.now c.at.ensures c.at-in-loop-p.ensures c.mark_row_pair-count.ensures in
    also_more (pair_set a.a_row_starts.now a.a_columns.now a.b_row_starts.now a.b_columns.now a.a_rows.now a.b_rows.now) l.p l.invariant step

pub returns : goal.returns
unfolding cross_requested
returns c = let a = c.args in
    let e : c.loop-p.p ≡ length a.a_rows.now = omega arith in
    pairs_cong
    (λ r k h l. ap (λ (j : ℕ). any (λ p. pair_set a.a_row_starts.now a.a_columns.now a.b_row_starts.now a.b_columns.now a.a_rows.now a.b_rows.now p r k) j) e)
    (pairs_also c.clear_pairs.ensures c.loop-p.invariant)
