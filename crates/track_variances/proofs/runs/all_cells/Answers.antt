use native.Mathlib.Omega.{arith}
use Prim.Native.Nat.{ℕ}
use mathlib.Core.Path.{◌≡◌, subst, ◌∙◌}
use lib.ListN.{length, length-set}
use lib.IntN.{pos}
use Rattle.whole_pairs.specs.Entry.{entry_or_zero}
use Rattle.track_variances.specs.Track.{track_entry}
use Rattle.track_variances.specs.Slots.{Slots}
use Rattle.track_variances.proofs.Laws.{slots_done}
use Rattle.track_variances.proofs.runs.all_cells.Goals as goal

pub returns : goal.returns
returns c =
    let a = c.args in
    let long = c.loop-c.auto.list ∙ length-set a.list.now 0 (pos 0) in
    let e : c.loop-c.c ≡ length a.track.now = omega (arith, c.loop-c-test.false, c.loop-c.auto.c-end) in
    slots_done (entry_or_zero a.starts.now a.rows.now a.values.now) a.track.now a.k c.loop-c.list c.requires.runs_ready.wide c.requires.runs_ready.long (long ∙ c.requires.list_len)
    (subst (λ (i : ℕ). Slots (track_entry a.starts.now a.rows.now a.values.now a.track.now) a.k i c.loop-c.list) e c.loop-c.invariant)
