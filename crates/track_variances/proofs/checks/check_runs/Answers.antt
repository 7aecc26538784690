use Prim.Native.Nat.{ℕ}
use mathlib.Core.Path.{ap, ◌∙◌}
use mathlib.Core.List.{[], ◌∷◌}
use lib.Dec.{leb}
use Rattle.refusal.specs.Steps.{verdict}
use Rattle.track_variances.proofs.Laws.{run_steps-fault}
use Rattle.track_variances.proofs.checks.check_runs.Goals as goal

pub track_fault-requires : goal.track_fault-requires
track_fault-requires c = record { well_formed = c.requires.well_formed; width_nonzero = c.requires.width_nonzero }

pub returns : goal.returns
returns c = let a = c.args in
    c.fault_verdict.ensures ∙ ap (λ (f : ℕ). verdict ((8, leb 2 f) ∷ (20, leb 1 f) ∷ [])) c.track_fault.ensures
    ∙ run_steps-fault a.starts.now a.rows.now a.values.now a.track.now a.width c.requires.width_nonzero.0 c.requires.width_nonzero.1
