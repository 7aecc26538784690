use Rattle.factor_route.proofs.MarkLaws.{marked_none, marked_more, marked_few, marked_end}
use Rattle.refusal.specs.Bounds.{max_dimension}
use mathlib.Core.Path.{subst, sym}
use native.Mathlib.Omega.{arith}
use Prim.Native.Nat.{ℕ, ◌<◌}
use Rattle.factor_route.proofs.column_marks.mark_column.Goals as goal

pub loop-p-init : goal.loop-p-init
loop-p-init c = marked_none c.args.rows.now c.args.values.now c.args.c c.args.s _ _ _

pub mark_entry-m-requires : goal.mark_entry-m-requires
mark_entry-m-requires c = let l = c.loop-p in
    let a = c.at in (
      subst (λ (x : ℕ). x < max_dimension) (sym a.ensures) (c.requires.fits l.p l.auto.p (omega arith)),
      marked_few c.args.rows.now c.args.values.now c.args.c c.args.s _ _ _ c.args.e l.p l.m _ _ _ l.auto.p (omega arith)
          c.requires l.invariant,
    )

pub loop-p-preserved : goal.loop-p-preserved
loop-p-preserved c = let l = c.loop-p in
    let z = c.args in
    let a = c.at in marked_more z.rows.now z.values.now z.c z.s _ _ _ l.p l.m _ _ _ _ _ _ _ l.auto.p l.invariant
    (rw (← a.ensures) c.mark_entry-m.ensures)

pub returns : goal.returns
returns c = let z = c.args in
    marked_end z.rows.now z.values.now z.c z.s _ _ _ z.e c.loop-p.p c.loop-p.m _ _ _ (omega arith)
    c.loop-p.invariant
