use Rattle.factor_route.proofs.ScatterLaws.{mark_inside, mark_skip}
use Rattle.refusal.specs.Bounds.{max_dimension}
use native.Mathlib.Nat.{le_refl}
use borrow.Author.Rules.{rules}
use native.Mathlib.Omega.{arith}
use Prim.Native.Nat.{ℕ, ◌<◌}
use mathlib.Core.Path.{ap, subst, sym, ◌∙◌}
use lib.ListN.{get_or}
use Rattle.factor_route.proofs.column_scatter.find_mark.Goals as goal
use Rattle.factor_route.proofs.column_scatter.find_mark.Goals.{After-at}

-- the row has a place in the marker
fits : (c : After-at) → c.at.result < max_dimension
fits c =
    let l = c.loop-p in
    subst (λ (k : ℕ). k < max_dimension) (sym c.at.ensures) (l.invariant.1.fits l.p (le_refl l.p) (mark_inside l.invariant.1))

pub loop-p-init : goal.loop-p-init
loop-p-init c = (search rules, c.requires)

pub at-requires : goal.at-requires
at-requires c = let h = mark_inside c.loop-p.invariant.1 in
    omega (arith, c.loop-p.invariant.1.stored)

pub offset_bounds-marker-at : goal.offset_bounds-marker-at
offset_bounds-marker-at c = let h = fits c in
    search rules

pub bounds-marker-at : goal.bounds-marker-at
bounds-marker-at c = fits (goal.at.bounds-marker-at c).After-at

pub overflow_add-p : goal.overflow_add-p
overflow_add-p c = let h = mark_inside c.loop-p.invariant.1 in
    omega arith

pub loop-p-smaller : goal.loop-p-smaller
loop-p-smaller c = let h = mark_inside c.loop-p.invariant.1 in
    omega arith

pub loop-p-preserved : goal.loop-p-preserved
loop-p-preserved c = let l = c.loop-p in
    (omega arith, mark_skip l.invariant.1 (λ e. c.loop-p-test.true (ap (λ (k : ℕ). get_or c.args.marker.now k 0) c.at.ensures ∙ e)))

pub returns : goal.returns
returns c = let l = c.loop-p in
    record { from = l.invariant.0; below = mark_inside l.invariant.1; mark = ap (λ (k : ℕ). get_or c.args.marker.now k 0) (sym c.at.ensures) ∙ c.loop-p-test.false }
