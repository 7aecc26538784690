use borrow.Author.Rules.{rules}
use native.Mathlib.Omega.{arith}
use Prim.Native.Nat.{ℕ, ◌-◌}
use mathlib.Core.Path.{◌≡◌, ap, sym, ◌∙◌}
use lib.ListN.{length}
use Rattle.refusal.specs.Steps.{Passed, verdict}
use Rattle.refusal.specs.Bounds.{output_steps}
use Rattle.run_sums.specs.Runs.{runs}
use Rattle.refusal.specs.Refusal.{reply_of}
use Rattle.result.proofs.Laws.{result_steps-sound}
use Rattle.track_variances.specs.Track.{run_steps}
use Rattle.track_variances.proofs.Laws.{width_steps-sound, track_result, track_width, track_runs, track_room}
use Rattle.track_variances.proofs.checks.check_call.Goals as goal

runs-passed : (c : goal.After-check_output) → let a = c.args in Passed (run_steps a.starts.now a.rows.now a.values.now a.track.now a.width)
runs-passed c = sym c.check_runs.ensures ∙ ap reply_of c.in_default-check_runs.is

pub returns-in-Err : goal.returns-in-Err
returns-in-Err c = track_result _ _ _ _ _ _ (sym c.check_result.ensures ∙ ap reply_of c.in-Err.is)

pub returns-in-Err-check_width : goal.returns-in-Err-check_width
returns-in-Err-check_width c =
    let result-passed = sym c.check_result.ensures ∙ ap reply_of c.in_default.is in
    track_width _ _ _ _ _ _ result-passed (sym c.check_width.ensures ∙ ap reply_of c.in-Err-check_width.is)

pub check_runs-requires : goal.check_runs-requires
check_runs-requires c =
    let width_passed = sym c.check_width.ensures ∙ ap reply_of c.in_default-check_width.is in
    let w = width_steps-sound _ _ width_passed in
    let result-passed = sym c.check_result.ensures ∙ ap reply_of c.in_default.is in
    record { well_formed = result_steps-sound _ _ _ result-passed; width_nonzero = (w.wide, w.long) }

pub returns-in-Err-check_runs : goal.returns-in-Err-check_runs
returns-in-Err-check_runs c =
    let result-passed = sym c.check_result.ensures ∙ ap reply_of c.in_default.is in
    let width_passed = sym c.check_width.ensures ∙ ap reply_of c.in_default-check_width.is in
    track_runs _ _ _ _ _ _ result-passed width_passed (sym c.check_runs.ensures ∙ ap reply_of c.in-Err-check_runs.is)

pub overflow_sub-width : goal.overflow_sub-width
overflow_sub-width c =
    let width_passed = sym c.check_width.ensures ∙ ap reply_of c.in_default-check_width.is in
    let width_is = width_steps-sound _ _ width_passed in
    let w = width_is.wide in search rules

pub overflow_sub-track : goal.overflow_sub-track
overflow_sub-track c =
    let width_passed = sym c.check_width.ensures ∙ ap reply_of c.in_default-check_width.is in
    let width_is = width_steps-sound _ _ width_passed in
    let w = width_is.long in search rules

pub returns : goal.returns
returns c =
    let width_passed = sym c.check_width.ensures ∙ ap reply_of c.in_default-check_width.is in
    let w = width_steps-sound _ _ width_passed in
    let result-passed = sym c.check_result.ensures ∙ ap reply_of c.in_default.is in
    let a = c.args in
    let n : length a.track.now - (a.width - 1) ≡ runs (length a.track.now) a.width = omega (arith, w.wide, w.long) in
    c.check_output.ensures ∙ ap (λ (i : ℕ). verdict (output_steps i a.room)) n
    ∙ track_room a.starts.now a.rows.now a.values.now a.track.now a.width a.room result-passed width_passed (runs-passed c)
