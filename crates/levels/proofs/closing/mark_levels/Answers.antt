use native.Mathlib.Omega.{arith}
use Prim.Native.Nat.{ℕ}
use mathlib.Core.Path.{◌≡◌, refl, ap, ◌∙◌}
use lib.ListN.{length, get_or}
use mathlib.Core.Bool.{Bool, cond}
use mathlib.Core.Path.{ap₂}
use lib.Dec.{ltb}
use Rattle.lists.specs.Test.{any_none}
use Rattle.lists.specs.Overwrite.{cleared}
use Rattle.pairs.specs.Pair.{pair_total, ordered}
use Rattle.closed_set.specs.Requests.{requested}
use Rattle.levels.specs.Levels.{raised_none, raised_more, raised_cong}
use Rattle.levels.proofs.InsertLaws.{levels_none}
use Rattle.levels.proofs.closing.mark_levels.Invariants.{before}
use Rattle.levels.proofs.closing.mark_levels.Goals as goal
use Rattle.levels.proofs.closing.mark_levels.Goals.{After-clear}

-- raised from words without a level
from-none : {w : ℕ} → w ≡ 0 → (b : Bool) → cond (ltb 0 w) w (cond b 1 0) ≡ cond b 1 0
from-none e b = rw e refl

-- the words that were cleared
words-cleared : (c : After-clear) → c.clear.new.words ≡ cleared (pair_total c.args.n) c.args.scratch.now
words-cleared c = c.clear.ensures ∙ ap (λ (m : ℕ). cleared m c.args.scratch.now) c.pair_total.ensures.0

pub loop-i-init : goal.loop-i-init
loop-i-init c = let w = levels_none c.args.n _ _ c.requires.room (words-cleared (goal.at.loop-i-init c).After-clear) in
    raised_none _ (λ r k. any_none _) w.levels

pub insert_level-count-requires : goal.insert_level-count-requires
insert_level-count-requires c = let R = c.requires.requests in
    record {
      small = c.requires.small;
      first = omega (arith, c.at.ensures, R.rows_inside c.loop-i.i c.loop-i-test.true);
      second = omega (arith, c.at-in-loop-i.ensures, R.columns_inside c.loop-i.i (omega (arith, c.loop-i-test.true, R.equal)));
      positive = omega arith;
      levels = c.loop-i.invariant.levels;
    }

pub loop-i-preserved : goal.loop-i-preserved
loop-i-preserved c = let rs = c.args.request_rows.now in
    let cs = c.args.request_columns.now in raised_more (omega arith) (λ k. ordered (get_or rs k 0) (get_or cs k 0)) c.loop-i.i c.loop-i.invariant
    (raised_cong (λ r k h l. ap₂ (λ (x y : ℕ). ordered x y r k) c.at.ensures c.at-in-loop-i.ensures) c.insert_level-count.ensures)

pub returns : goal.returns
unfolding requested
returns c = let w = levels_none c.args.n _ _ c.requires.room (words-cleared (goal.at.returns c).After-clear) in
    let rs = c.args.request_rows.now in
    let cs = c.args.request_columns.now in
    let e : c.loop-i.i ≡ length rs = omega arith in
    let A = raised_cong (λ r k h l. ap (λ (j : ℕ). before rs cs j r k) e) c.loop-i.invariant in
    record {
      long = A.long ∙ w.long;
      words = λ r k h l. A.words r k h l ∙ from-none (w.words r k h l) (before rs cs (length rs) r k);
      levels = A.levels;
      later = A.later ∙ w.later;
    }
