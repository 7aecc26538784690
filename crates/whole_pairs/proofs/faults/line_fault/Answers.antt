use Prim.Native.Nat.{max}
use mathlib.Core.Path.{ap₂, sym, ◌∙◌}
use Rattle.whole_pairs.specs.Entry.{pair_fault, cell_fault}
use Rattle.whole_pairs.proofs.Worst.{worst_in_none, worst_in_next}
use Rattle.whole_pairs.proofs.faults.line_fault.Goals as goal

pub loop-q-init : goal.loop-q-init
loop-q-init c = sym (worst_in_none _ c.args.s)

pub pair_fault-requires : goal.pair_fault-requires
pair_fault-requires c = c.requires.well_formed

pub loop-q-preserved : goal.loop-q-preserved
loop-q-preserved c = let l = c.loop-q in
    let a = c.args in c.max-worst.ensures
    ∙ ap₂ max l.invariant
    (c.pair_fault.ensures ∙ ap₂ (pair_fault a.most a.starts.now a.rows.now a.values.now) c.at-row.ensures c.at.ensures)
    ∙ sym (worst_in_next (cell_fault a.most a.starts.now a.rows.now a.values.now a.cells.now a.p) a.s l.q l.auto.q)
