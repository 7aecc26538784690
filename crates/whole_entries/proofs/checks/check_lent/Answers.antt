use Prim.Native.Nat.{ℕ, min}
use Rattle.std.specs.Prelude.{◌≡◌, [], ◌∷◌, ltb}
use Rattle.std.proofs.Common.{ap}
use Rattle.refusal.specs.Steps.{verdict}
use Rattle.refusal.specs.Refusal.{reply_of}
use Rattle.whole_selection.specs.Call.{work_steps}
use Rattle.std.proofs.Common.{sym, ◌∙◌}
use Rattle.refusal.proofs.Returned.{returned}
use Rattle.refusal.proofs.Steps.{append-refused, append_passed}
use Rattle.whole_entries.proofs.checks.check_lent.Goals as goal

-- the work list's step
places : (c : goal.After-check_output) → let a = c.args in reply_of c.check_output.result ≡ verdict (work_steps a.n a.limit a.work)
unfolding work_steps
places c =
    let a = c.args in
    c.check_output.ensures
    ∙ ap (λ (k : ℕ). verdict ((7, ltb a.work k) ∷ [])) (c.min.ensures ∙ ap (min a.limit) c.pair_total.ensures.0)

pub returns-in_err-check_units : goal.returns-in_err-check_units
returns-in_err-check_units c = returned _ _ c.from_residual.ensures.1
    (append-refused _ _ _ tt (sym c.in_err-check_units.ensures))

pub returns-in_err-check_room : goal.returns-in_err-check_room
returns-in_err-check_room c = returned _ _ c.from_residual-in_err-check_room.ensures.1
    (append_passed _ _ tt (sym c.in_ok-check_units.ensures)
    ∙ append-refused _ _ _ tt (sym c.in_err-check_room.ensures))

pub returns : goal.returns
returns c = places c
    ∙ sym
    (append_passed _ _ tt (sym c.in_ok-check_units.ensures)
    ∙ append_passed _ _ tt (sym c.in_ok-check_room.ensures))
