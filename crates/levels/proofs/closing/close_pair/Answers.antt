use native.Mathlib.Omega.{arith}
use Prim.Native.Nat.{ℕ, ◌≤◌, ◌<◌, ◌+◌}
use mathlib.Core.Path.{◌≡◌, ap₂, ◌∙◌}
use lib.ListN.{length}
use Rattle.lists.specs.Test.{any_in, any_in_none}
use Rattle.columns.specs.Columns.{start}
use Rattle.columns.specs.Kept.{nonzero}
use Rattle.columns.proofs.Factor.{starts_end}
use Rattle.levels.specs.Levels.{raised_none, raised_next, raised_cong}
use Rattle.levels.specs.Closing.{column_depends}
use Rattle.levels.proofs.closing.close_pair.Invariants.{entry_depends}
use Rattle.levels.proofs.closing.close_pair.Goals as goal

pub loop-p-init : goal.loop-p-init
loop-p-init c = raised_none _ (λ x y. any_in_none _ _) c.requires.levels

pub close_entry-total-requires : goal.close_entry-total-requires
close_entry-total-requires c = let a = c.args in
    let F = c.requires.factor in
    let w : start a.starts.now (a.c + 1) ≤ length a.rows.now = starts_end F.starts_rise (a.c + 1) (omega (arith, c.requires.ordered, c.requires.inside)) in
    let m : c.loop-p.p < length a.rows.now = omega (arith, w, c.loop-p-test.true, c.at-end.ensures) in
    record {
      small = c.requires.small;
      stored = m;
      weighed = omega (arith, m, F.valued);
      row_inside = F.rows_ascend.inside c.loop-p.p m;
      inside = c.requires.inside;
      positive = c.requires.positive;
      levels = c.loop-p.invariant.levels;
    }

pub loop-p-preserved : goal.loop-p-preserved
loop-p-preserved c = let a = c.args in raised_next c.requires.positive (entry_depends a.rows.now a.values.now a.r a.c) c.loop-p.p _ c.loop-p.auto.p c.loop-p.invariant c.close_entry-total.ensures

pub returns : goal.returns
returns c = let a = c.args in
    let e : c.loop-p.p ≡ start a.starts.now (a.c + 1) = omega (arith, c.requires.factor.starts_rise.rising a.c (omega (arith, c.requires.ordered, c.requires.inside)), c.at-start.ensures, c.at-end.ensures) in
    raised_cong
    (λ x y o l.
    ap₂ (λ (i j : ℕ). any_in (λ p. entry_depends a.rows.now a.values.now a.r a.c p x y) i j) c.at-start.ensures e
    ∙ column_depends (nonzero a.values.now) c.requires.factor a.r a.c (omega (arith, c.requires.ordered, c.requires.inside)) x y)
    c.loop-p.invariant
