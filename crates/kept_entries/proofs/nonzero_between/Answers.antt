use Rattle.lists.specs.Select.{tally_none, tally_next, tally_most}
use Rattle.lists.specs.Sum.{bit}
use native.Mathlib.Omega.{arith}
use mathlib.Core.Path.{ap, sym, ◌∙◌}
use Rattle.kept_entries.proofs.nonzero_between.Goals.{else-is_kept, then-is_kept}
use Rattle.kept_entries.proofs.nonzero_between.Goals as goal

pub loop-p-init : goal.loop-p-init
loop-p-init g c = sym (tally_none _ _)

pub overflow_add-count : goal.overflow_add-count
overflow_add-count g c = let a = c.args in
    omega (arith, tally_most (g.T.StoredValue.kept a.values.now) a.s c.loop-p.p)

pub loop-p-preserved : goal.loop-p-preserved
loop-p-preserved g c =
    let a = c.args in
    let n = tally_next (g.T.StoredValue.kept a.values.now) a.s c.loop-p.p c.loop-p.auto.p in
    let e = c.is_kept.ensures in
    elim c.if-is_kept.branch [ then-is_kept w ↦ omega (arith, n, ap bit (sym e ∙ w.if-is_kept.true)) | else-is_kept w ↦ omega (arith, n, ap bit (sym e ∙ w.if-is_kept.false)) ]
