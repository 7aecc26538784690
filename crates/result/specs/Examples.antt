-- The result of F2 of document 01, and small broken results: what the definitions give, by computation.
-- Assumes nothing.
use Rattle.std.specs.Prelude.{List, [], ◌∷◌, Float, negsuc}
use Rattle.std.specs.Float.{binary64}
use Rattle.std.specs.Float.Ieee.{of_int}
use Rattle.columns.specs.Examples.{whole}

-- F2's result has F2's starts and rows, and these values
abbrev pub f2_result_values : List Float
f2_result_values = whole 5 ∷ of_int binary64 (negsuc 1) ∷ whole 1 ∷ []
