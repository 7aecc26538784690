use native.Mathlib.Omega.{arith}
use Prim.Native.Nat.{ℕ, ◌+◌}
use mathlib.Core.Path.{◌≡◌, ap, sym, subst, ◌∙◌}
use lib.ListN.{get_or}
use Rattle.lists.specs.Test.{any_in, any_in_none}
use Rattle.pairs.proofs.Pair.{pair_total_small}
use Rattle.columns.specs.Kept.{nonzero, pattern}
use Rattle.levels.specs.Levels.{level_queue, QueuedLevel, raised_none, raised_next, raised_cong, levelled_most}
use Rattle.levels.specs.Closing.{word_depends}
use Rattle.levels.proofs.closing.close_level.Goals as goal
use Rattle.levels.proofs.closing.close_level.Goals.{After-at-w}

-- the word taken from the queue
word : (c : After-at-w) → c.at-w.result ≡ level_queue c.args.n c.loop-j.scratch c.loop-j.j
word c = c.at-w.ensures ∙ ap (λ (k : ℕ). get_or c.loop-j.scratch (k + c.loop-j.j) 0) c.pair_total-start.ensures.0

pub loop-j-init : goal.loop-j-init
loop-j-init c = raised_none _ (λ x y. any_in_none _ _) c.requires.levels

pub close_pair-count-requires : goal.close_pair-count-requires
close_pair-count-requires c = let Q = c.loop-j.invariant.levels.queued c.loop-j.j (omega (arith, c.loop-j-test.true, c.loop-j.invariant.more)) in
    let P = subst (λ (w : ℕ). QueuedLevel c.args.n c.loop-j.scratch w) (sym (word (goal.at.close_pair-count-requires c).After-at-w)) Q in
    record {
      small = c.requires.small;
      factor = c.requires.factor;
      ordered = P.ordered;
      inside = P.inside;
      positive = c.requires.positive;
      levels = c.loop-j.invariant.levels;
    }

pub loop-j-preserved : goal.loop-j-preserved
loop-j-preserved c = let g = c.args in
    let desc = pattern g.starts.now g.rows.now (nonzero g.values.now) in
    let e : c.at-w.result ≡ level_queue g.n g.scratch.now c.loop-j.j = word (goal.at.loop-j-preserved c).After-at-w ∙ c.loop-j.invariant.queue c.loop-j.j c.loop-j-test.true in raised_next c.requires.positive (λ j x y. word_depends desc (level_queue g.n g.scratch.now j) x y) c.loop-j.j _ c.loop-j.auto.j c.loop-j.invariant
    (raised_cong (λ x y o l. ap (λ (w : ℕ). word_depends desc w x y) e) c.close_pair-count.ensures)

pub overflow_add-start : goal.overflow_add-start
overflow_add-start c = omega (arith, c.loop-j-test.true, c.pair_total-start.ensures.0, pair_total_small c.args.n c.requires.small, levelled_most c.requires.levels)

pub at-w-requires : goal.at-w-requires
at-w-requires c = omega (arith, c.loop-j-test.true, c.pair_total-start.ensures.0, levelled_most c.requires.levels, c.requires.levels.room)

pub returns : goal.returns
returns c = let g = c.args in
    let desc = pattern g.starts.now g.rows.now (nonzero g.values.now) in
    let e : c.loop-j.j ≡ g.hi = omega (arith, c.requires.rises) in
    raised_cong (λ x y o l. ap (λ (k : ℕ). any_in (λ j. word_depends desc (level_queue g.n g.scratch.now j) x y) g.lo k) e) c.loop-j.invariant
