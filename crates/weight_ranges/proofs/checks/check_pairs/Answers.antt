use Prim.Native.Nat.{ℕ}
use mathlib.Core.Path.{ap, ◌∙◌}
use mathlib.Core.List.{[], ◌∷◌}
use lib.Dec.{leb}
use Rattle.refusal.specs.Steps.{verdict}
use Rattle.weight_ranges.proofs.Laws.{pair_steps-fault}
use Rattle.weight_ranges.proofs.checks.check_pairs.Goals as goal

pub returns : goal.returns
returns c = let a = c.args in
    c.fault_verdict.ensures ∙ ap (λ (f : ℕ). verdict ((8, leb 2 f) ∷ (20, leb 1 f) ∷ [])) c.row_fault.ensures
    ∙ pair_steps-fault a.starts.now a.rows.now a.values.now a.columns.now
