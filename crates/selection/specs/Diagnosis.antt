-- The diagnosis of a factor, a set of requested pairs and a limit; what it takes from the factor are its pattern and the number of its kept pairs.
-- Assumes nothing.
use Rattle.std.specs.Prelude.{ℕ, ◌+◌, min, Bool, List, leb}
use Rattle.closed_set.specs.Size.{closure_size, requested_pairs}
use Rattle.diagnostics.specs.Diagnosis.{status_of, diagnosis}
use Rattle.diagnostics.specs.declared.SelectedInverseDiagnostics.{SelectedInverseDiagnostics}

-- the counted pairs of the closed set: limit + 1 where it has more than the limit
abbrev pub closure_pairs : ℕ → (ℕ → List ℕ) → (ℕ → ℕ → Bool) → ℕ → ℕ
closure_pairs n desc req limit = min (closure_size n desc req) (limit + 1)

-- the diagnosis of a closed set of this size, with the factor's kept entries and the limit
abbrev pub diagnosed : ℕ → ℕ → ℕ → ℕ → SelectedInverseDiagnostics
diagnosed requested size factor limit = diagnosis requested (min size (limit + 1)) factor limit (status_of (leb size limit))

-- the diagnosis of a pattern of n columns, a count of kept pairs, a set of requested pairs and a limit
unfoldable pub diagnosis_of : ℕ → (ℕ → List ℕ) → ℕ → (ℕ → ℕ → Bool) → ℕ → SelectedInverseDiagnostics
diagnosis_of n desc kept req limit = diagnosed (requested_pairs n req) (closure_size n desc req) kept limit
