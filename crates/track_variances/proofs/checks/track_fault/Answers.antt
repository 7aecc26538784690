use Prim.Native.Nat.{max}
use mathlib.Core.Path.{ap, ap₂, sym, ◌∙◌}
use Rattle.whole_pairs.specs.Entry.{cell_fault}
use Rattle.track_variances.specs.Track.{max_track_entry}
use Rattle.whole_pairs.specs.Worst.{worst_in}
use Rattle.whole_pairs.proofs.Worst.{worst_none, worst_next}
use Rattle.track_variances.proofs.checks.track_fault.Invariants.{line}
use Rattle.track_variances.proofs.checks.track_fault.Goals as goal

pub loop-p-init : goal.loop-p-init
loop-p-init c = sym (worst_none _)

pub loop-p-preserved : goal.loop-p-preserved
loop-p-preserved c = let l = c.loop-p in
    let a = c.args in
    c.max-found.ensures
    ∙ ap₂ max l.invariant (c.line_fault.ensures ∙ ap (worst_in (cell_fault max_track_entry a.starts.now a.rows.now a.values.now a.track.now l.p) l.p) c.min-e.ensures)
    ∙ sym (worst_next (line a.starts.now a.rows.now a.values.now a.track.now a.width) l.p)
