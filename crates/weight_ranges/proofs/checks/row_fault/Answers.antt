use Prim.Native.Nat.{max}
use mathlib.Core.Path.{ap₂, sym, ◌∙◌}
use Rattle.whole_pairs.proofs.Worst.{worst_none, worst_next}
use Rattle.weight_ranges.proofs.checks.row_fault.Invariants.{line}
use Rattle.weight_ranges.proofs.checks.row_fault.Goals as goal

pub loop-a-init : goal.loop-a-init
loop-a-init c = sym (worst_none _)

pub loop-a-preserved : goal.loop-a-preserved
loop-a-preserved c = let l = c.loop-a in
    let a = c.args in
    c.max-found.ensures ∙ ap₂ max l.invariant c.line_fault.ensures ∙ sym (worst_next (line a.starts.now a.rows.now a.values.now a.columns.now) l.a)
