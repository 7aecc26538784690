use native.Mathlib.Omega.{arith}
use Prim.Native.Nat.{ℕ, suc, ◌≤◌, ◌-◌, ◌+◌}
use mathlib.Core.Path.{◌≡◌, refl, subst, ◌∙◌}
use mathlib.Core.Bool.{Bool}
use mathlib.Core.List.{List}
use Rattle.refusal.specs.Bounds.{max_dimension}
use Rattle.closed_set.specs.ClosedSet.{Pattern, Ranged}
use Rattle.lists.specs.Test.{any_in}
use Rattle.pairs.proofs.Pair.{pair_total_small}
use Rattle.columns.specs.Kept.{nonzero, pattern}
use Rattle.closed_set.specs.Requests.{requested}
use Rattle.closed_set.proofs.Requests.{requested_ranged}
use Rattle.closed_set.proofs.FactorPattern.{factor_pattern}
use Rattle.levels.specs.Levels.{level_queue, Raised, levelled_most}
use Rattle.levels.specs.Closing.{AtLevel, word_depends, one_level, level_next, level_end}
use Rattle.levels.proofs.closing.level_pairs.Goals as goal

-- one level further, the level given in other words
next_level : {n : ℕ} (desc : ℕ → List ℕ) (req : ℕ → ℕ → Bool) → Pattern n desc → Ranged n req → n ≤ max_dimension
    → {k level after : ℕ} {s s' : List ℕ} {lo hi count : ℕ} → level ≡ suc (suc k) → suc k ≡ after
    → AtLevel n desc req k s lo hi
    → Raised n level (λ x y. any_in (λ i. word_depends desc (level_queue n s i) x y) lo hi) s hi s' count
    → AtLevel n desc req after s' hi count
next_level {n} desc req P R small {k} {level} {after} {s} {s'} {lo} {hi} {count} e f A B =
    subst (λ (j : ℕ). AtLevel n desc req j s' hi count) f
    (level_next n desc req P R A
    (subst (λ (j : ℕ). Raised n j (λ x y. any_in (λ i. word_depends desc (level_queue n s i) x y) lo hi) s hi s' count) e B)
    small)

pub loop-lo-init : goal.loop-lo-init
loop-lo-init c = let a = c.args in (
  omega arith,
  omega arith,
  refl,
  refl,
  one_level a.n _ _ (factor_pattern (nonzero a.values.now) c.requires.factor) (requested_ranged a.request_rows.now a.request_columns.now a.n c.requires.marks.requests)
      c.mark_levels-hi.ensures,
)

pub overflow_add-level : goal.overflow_add-level
overflow_add-level c = omega (arith, c.loop-lo.invariant.1, c.loop-lo-test.true, levelled_most c.loop-lo.invariant.4.levels, pair_total_small c.args.n c.requires.marks.small)

pub close_level-count-requires : goal.close_level-count-requires
close_level-count-requires c = record {
  small = c.requires.marks.small;
  factor = c.requires.factor;
  rises = c.loop-lo.invariant.4.rises;
  positive = omega arith;
  levels = c.loop-lo.invariant.4.levels;
}

pub loop-lo-smaller : goal.loop-lo-smaller
loop-lo-smaller c = omega (arith, c.loop-lo-test.true, levelled_most c.loop-lo.invariant.4.levels)

pub loop-lo-preserved : goal.loop-lo-preserved
loop-lo-preserved c = let a = c.args in
    let desc = pattern a.starts.now a.rows.now (nonzero a.values.now) in
    let req = requested a.request_rows.now a.request_columns.now in
    let k = c.loop-lo.level - 1 in
    let e : c.loop-lo.level + 1 ≡ suc (suc k) = omega (arith, c.loop-lo.invariant.0) in
    let f : suc k ≡ c.loop-lo.level + 1 - 1 = omega (arith, c.loop-lo.invariant.0) in
    let B = c.close_level-count.ensures in (
      omega arith,
      omega (arith, c.loop-lo.invariant.1, c.loop-lo-test.true),
      B.long ∙ c.loop-lo.invariant.2,
      B.later ∙ c.loop-lo.invariant.3,
      next_level desc req
          (factor_pattern (nonzero a.values.now) c.requires.factor)
          (requested_ranged a.request_rows.now a.request_columns.now a.n c.requires.marks.requests)
          c.requires.marks.small e f c.loop-lo.invariant.4 B,
    )

pub shape_of-scratch : goal.shape_of-scratch
shape_of-scratch c = c.loop-lo.invariant.2 ∙ c.mark_levels-hi.ensures.long

pub returns : goal.returns
returns c = let a = c.args in
    let m = c.mark_levels-hi.ensures in
    let I = c.loop-lo.invariant in
    let e : c.loop-lo.hi ≡ c.loop-lo.lo = omega (arith, c.loop-lo-test.false, I.4.rises) in
    let desc = pattern a.starts.now a.rows.now (nonzero a.values.now) in
    let req = requested a.request_rows.now a.request_columns.now in
    level_end a.n desc req (factor_pattern (nonzero a.values.now) c.requires.factor) (requested_ranged a.request_rows.now a.request_columns.now a.n c.requires.marks.requests)
    (subst (λ (k : ℕ). AtLevel a.n desc req (c.loop-lo.level - 1) c.loop-lo.scratch c.loop-lo.lo k) e I.4)
    (I.2 ∙ m.long)
    (I.3 ∙ m.later)
