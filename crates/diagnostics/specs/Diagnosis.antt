-- The diagnosis of a selected inverse: counts, their ratio, the limit and the status.
-- Assumes nothing.
use Rattle.std.specs.Prelude.{ℕ, max, Bool, true, false, pos, Float}
use Rattle.std.specs.Float.{binary64}
use Rattle.std.specs.Float.Ieee.{of_int, div}
use Rattle.diagnostics.specs.declared.SelectedInverseStatus.{SelectedInverseStatus}
use Rattle.diagnostics.specs.declared.SelectedInverseStatus.TheVariants.{Complete, ClosureTooLarge}
use Rattle.diagnostics.specs.declared.SelectedInverseDiagnostics.{SelectedInverseDiagnostics}

-- the status of a set that is within the limit, and of one that is not
abbrev pub status_of : Bool → SelectedInverseStatus
status_of true = Complete
status_of false = ClosureTooLarge

-- whether a status is Complete
abbrev pub complete_of : SelectedInverseStatus → Bool
complete_of Complete = true
complete_of ClosureTooLarge = false

-- 2^53: whole numbers up to it are floats
abbrev pub max_count : ℕ
max_count = 9007199254740992

-- closure pairs / max(factor pairs, 1), each count and the quotient rounded once
unfoldable pub ratio_of : ℕ → ℕ → Float
ratio_of closure_pairs factor_pairs = div binary64 (of_int binary64 (pos closure_pairs)) (of_int binary64 (pos (max factor_pairs 1)))

-- the record of these counts
unfoldable pub diagnosis : ℕ → ℕ → ℕ → ℕ → SelectedInverseStatus → SelectedInverseDiagnostics
diagnosis requested_pairs closure_pairs factor_pairs limit s = record {
  requested_pairs = requested_pairs;
  closure_pairs = closure_pairs;
  factor_pairs = factor_pairs;
  closure_over_factor = ratio_of closure_pairs factor_pairs;
  closure_limit = limit;
  status = s;
}
