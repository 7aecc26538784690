-- The requests of an operator: every pair of two columns of one of its rows, put in order.
-- Assumes nothing.
use Rattle.std.specs.Prelude.{ℕ, Bool, ◌&&◌, List, leb}
use Rattle.columns.specs.OperatorPair.{operator_pair}

-- (r, c) is a pair of columns of one row of the operator, in order
abbrev pub operator_requested : List ℕ → List ℕ → ℕ → ℕ → Bool
operator_requested row_starts columns r c = leb c r && operator_pair row_starts columns r c
