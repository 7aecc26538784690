use Rattle.std.proofs.Common.{refl}
use Rattle.refusal.proofs.Returned.{returned}
use Prim.Native.Nat.{ℕ}
use mathlib.Core.List.{List}
use mathlib.Core.Path.{◌≡◌, sym}
use lib.ListN.{length}
use lib.Ieee.{Float}
use borrow.Author.Rules.{rules}
use Rattle.refusal.specs.Steps.{refused, verdict}
use Rattle.refusal.proofs.Steps.{both_refused, both_passed}
use Rattle.result.proofs.Laws.{result_steps-sound, diag_steps-malformed, diag_steps_short, diag_steps_marks_short, diag_steps_passed}
use Rattle.result.specs.Lookup.{diag_steps}
use Rattle.lookup.specs.DiagonalList.{DiagonalsListed}
use Rattle.lookup.proofs.diag.Goals as goal

-- a refusal leaves both outputs
refuses : (starts rows : List ℕ) (values output : List Float) (marks : List ℕ) {k : ℕ} → verdict (diag_steps starts rows (length values) (length output) (length marks)) ≡ refused k
    → DiagonalsListed starts rows values output marks (refused k) output marks
refuses starts rows values output marks e =
    let steps = diag_steps starts rows (length values) (length output) (length marks) in
    let b = both_refused steps _ output e in
    record { replies = b.0; output_after_lem = b.1; marks_after = (both_refused steps _ marks e).1 }

pub overflow_sub-starts : goal.overflow_sub-starts
overflow_sub-starts c = let w = (result_steps-sound _ _ _ (sym c.in_ok-check_result.ensures)).some in search rules

pub returns-then-output-starts : goal.returns-then-output-starts
returns-then-output-starts c =
    let a = c.args in
    let passed = sym c.in_ok-check_result.ensures in
    refuses a.starts.now a.rows.now a.values.now a.output.now a.marks.now (diag_steps_short _ _ _ _ (length a.marks.now) passed c.if-output-starts.true)

pub overflow_sub-starts-2 : goal.overflow_sub-starts-2
overflow_sub-starts-2 c = let w = (result_steps-sound _ _ _ (sym c.in_ok-check_result.ensures)).some in search rules

pub returns-then-marks-starts : goal.returns-then-marks-starts
returns-then-marks-starts c =
    let a = c.args in
    let passed = sym c.in_ok-check_result.ensures in
    refuses a.starts.now a.rows.now a.values.now a.output.now a.marks.now (diag_steps_marks_short _ _ _ _ _ passed c.if-output-starts.false c.if-marks-starts.true)

pub write_diagonals-requires : goal.write_diagonals-requires
write_diagonals-requires c =
    record { well_formed = result_steps-sound _ _ _ (sym c.in_ok-check_result.ensures); starts_in_bounds = (c.if-output-starts.false, c.if-marks-starts.false) }

pub returns-in_err-check_result : goal.returns-in_err-check_result
returns-in_err-check_result c =
    let a = c.args in
    rw (returned _ _ c.from_residual.ensures.1 refl)
    (refuses a.starts.now a.rows.now a.values.now a.output.now a.marks.now
    (diag_steps-malformed _ _ _ (length a.output.now) (length a.marks.now) _ (sym c.in_err-check_result.ensures)))

pub returns : goal.returns
returns c =
    let a = c.args in
    let steps = diag_steps a.starts.now a.rows.now (length a.values.now) (length a.output.now) (length a.marks.now) in
    let passed = sym c.in_ok-check_result.ensures in
    let h = diag_steps_passed _ _ _ _ _ passed c.if-output-starts.false c.if-marks-starts.false in
    let b = both_passed steps _ h c.write_diagonals.ensures.output_after in
    record { replies = b.0; output_after_lem = b.1; marks_after = (both_passed steps _ h c.write_diagonals.ensures.marks_after).1 }
