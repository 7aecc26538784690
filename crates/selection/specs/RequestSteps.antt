-- What is refused of requests, a dimension and two lists: steps 4 and 5.
-- Assumes nothing.
use Rattle.std.specs.Prelude.{ℕ, not, List, [], ◌∷◌, ltb, eqb, length}
use Rattle.refusal.specs.Bounds.{max_entries}
use Rattle.refusal.specs.Steps.{Step}
use Rattle.columns.specs.Columns.{outside}

-- 1: too many requests; they are counted by their rows
abbrev pub request_bound_steps : ℕ → List Step
request_bound_steps requests = (1, ltb max_entries requests) ∷ []

-- 4: the request dimension is not n, or the lists are of unequal length; 5: a request index of n or more
unfoldable pub request_steps : ℕ → ℕ → List ℕ → List ℕ → List Step
request_steps n dimension rows columns =
    (4, not (eqb dimension n))
    ∷ (4, not (eqb (length rows) (length columns)))
    ∷ (5, outside n rows)
    ∷ (5, outside n columns)
    ∷ []
