use native.Mathlib.Omega.{arith}
use Prim.Native.Nat.{ℕ}
use mathlib.Core.Path.{◌≡◌, ap, ap₂}
use lib.ListN.{length, get_or}
use Rattle.lists.specs.Test.{any_none}
use Rattle.pairs.specs.Pair.{ordered}
use Rattle.closed_set.specs.Requests.{requested}
use Rattle.marked_pairs.specs.MarkedPairs.{also_none, also_more, also_cong, pairs_also, pairs_cong}
use Rattle.request_marks.proofs.requests.mark_requests.Invariants.{before}
use Rattle.request_marks.proofs.requests.mark_requests.Goals as goal

pub loop-i-init : goal.loop-i-init
loop-i-init c = also_none _ (λ r k. any_none _) c.clear_pairs.ensures.marked

pub insert_closure_pair-count-requires : goal.insert_closure_pair-count-requires
insert_closure_pair-count-requires c = let R = c.requires.requests in
    record {
      small = c.requires.small;
      first = omega (arith, c.at.ensures, R.rows_inside c.loop-i.i c.loop-i-test.true);
      second = omega (arith, c.at-in-loop-i.ensures, R.columns_inside c.loop-i.i (omega (arith, c.loop-i-test.true, R.equal)));
      marked = c.loop-i.invariant.marked;
    }

pub loop-i-preserved : goal.loop-i-preserved
loop-i-preserved c = let rs = c.args.request_rows.now in
    let cs = c.args.request_columns.now in
    also_more (λ k. ordered (get_or rs k 0) (get_or cs k 0)) c.loop-i.i c.loop-i.invariant
    (also_cong (λ r k h l. ap₂ (λ (x y : ℕ). ordered x y r k) c.at.ensures c.at-in-loop-i.ensures) c.insert_closure_pair-count.ensures.also)

pub returns : goal.returns
unfolding requested
returns c = let e : c.loop-i.i ≡ length c.args.request_rows.now = omega arith in
    pairs_cong (λ r k h l. ap (λ (j : ℕ). before c.args.request_rows.now c.args.request_columns.now j r k) e) (pairs_also c.clear_pairs.ensures c.loop-i.invariant)
