use Rattle.refusal.proofs.Returned.{returned}
use mathlib.Core.Path.{sym}
use lib.ListN.{length}
use Rattle.track_variances.specs.Track.{track_steps}
use Rattle.refusal.proofs.Steps.{both_refused, both_passed}
use Rattle.track_variances.proofs.Laws.{runs_ready}
use Rattle.track_variances.proofs.track_variances_whole.Goals as goal

pub write_runs-requires : goal.write_runs-requires
write_runs-requires c =
    let passed = sym c.in_ok-check_call.ensures in
    let a = c.args in
    let r = runs_ready a.starts.now a.rows.now a.values.now a.track.now a.width (length a.output.now) passed in
    record { runs_ready = r.0; width_in_bounds = r.1 }

pub returns-in_err-check_call : goal.returns-in_err-check_call
returns-in_err-check_call c =
    let steps = track_steps c.args.starts.now c.args.rows.now c.args.values.now c.args.track.now c.args.width (length c.args.output.now) in
    let e = sym c.in_err-check_call.ensures in
    record { replies = returned _ _ c.from_residual.ensures.1 e; output_after_lem = (both_refused steps _ _ e).1 }

pub returns : goal.returns
returns c =
    let steps = track_steps c.args.starts.now c.args.rows.now c.args.values.now c.args.track.now c.args.width (length c.args.output.now) in
    let passed = sym c.in_ok-check_call.ensures in
    let b = both_passed steps _ passed c.write_runs.ensures in
    record { replies = b.0; output_after_lem = b.1 }
