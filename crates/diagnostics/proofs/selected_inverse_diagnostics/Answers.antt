use Rattle.diagnostics.specs.Diagnosis.{diagnosis}
use Rattle.diagnostics.proofs.selected_inverse_diagnostics.Goals as goal

pub returns : goal.returns
unfolding diagnosis
returns c = rw c.closure_over_factor-ratio.ensures
