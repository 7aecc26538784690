-- The bounds of refusal 1, and refusal 7 of an output.
-- Assumes nothing.
use Rattle.std.specs.Prelude.{ℕ, List, [], ◌∷◌, ltb}
use Rattle.refusal.specs.Steps.{Step}

-- the largest dimension
abbrev pub max_dimension : ℕ
max_dimension = 4096

-- the most stored entries, requests or terms
abbrev pub max_entries : ℕ
max_entries = 1048576

-- 7: an output of fewer places than are needed
abbrev pub output_steps : ℕ → ℕ → List Step
output_steps needed output = (7, ltb output needed) ∷ []
