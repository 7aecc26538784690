use Rattle.scatter.proofs.Scatter.{unmarks_none, unmarks_next}
use Rattle.refusal.specs.Bounds.{max_dimension}
use mathlib.Core.Path.{subst, sym}
use borrow.Author.Rules.{rules}
use native.Mathlib.Omega.{arith}
use Prim.Native.Nat.{ℕ, ◌<◌}
use Rattle.factor_route.proofs.column_marks.unmark_column.Goals as goal
use Rattle.factor_route.proofs.column_marks.unmark_column.Goals.{After-at-r}

-- the row has a place in the marker
fits : (c : After-at-r) → c.at-r.result < max_dimension
fits c = subst (λ (x : ℕ). x < max_dimension) (sym c.at-r.ensures) (c.requires.1 c.loop-p.p (omega arith))

pub loop-p-init : goal.loop-p-init
loop-p-init c = unmarks_none _ _ _

pub offset_bounds-marker-r : goal.offset_bounds-marker-r
offset_bounds-marker-r c = let h : c.at-r.result < max_dimension = fits c in search rules

pub bounds-marker-r : goal.bounds-marker-r
bounds-marker-r c = fits (goal.at.bounds-marker-r c).After-at-r

pub loop-p-preserved : goal.loop-p-preserved
loop-p-preserved c = rw (unmarks_next, ← c.loop-p.invariant, c.at-r.ensures)
