-- The factor with the rows 2 0 and 6 4, in sixteenths: the hypotheses of the exact case beyond unit diagonals are met, with s = 4, and the inverse's entries
-- 13 / 16, -3 / 16 and 1 / 16 read back. Other crates' worked calls of it start here. F2 is the case s = 0.
-- Then two factors that no s covers: one whose f64 entry is exact all the same, and one that is finer than 2 ^ -53.
-- Assumes nothing.
use Rattle.std.specs.Prelude.{ℕ, Bool, true, false, List, [], ◌∷◌, negsuc, Float}
use Rattle.std.specs.Float.{fin}
use Rattle.refusal.specs.Steps.{Step, Reply}
use Rattle.columns.specs.Columns.{FactorLists, factor_lists}
use Rattle.columns.specs.Examples.{whole, f2_starts, f2_rows}
use Rattle.exact.specs.Examples.{sixteenths-z, sixteenths_matrix}
use Rattle.selection.specs.Selection.{Selection, lists, Lent, ResultLists, filling_of}
use Rattle.selection.specs.Call.{Call, call}
use Rattle.exact_entries.specs.Recurrence.{found}
use Rattle.exact_entries.specs.DyadicEntries.{ReadsMultiples}
use Rattle.exact_entries.specs.Worked.{f2_lent, f2_cleared}

-- ---- what every call on the factor has
abbrev pub sixteenths_values : List Float
sixteenths_values = whole 2 ∷ whole 6 ∷ whole 4 ∷ []

abbrev pub sixteenths_factor : FactorLists Float
sixteenths_factor = factor_lists 2 f2_starts f2_rows sixteenths_values

-- k / 16, k odd
abbrev pub sixteenth : Bool → ℕ → Float
sixteenth minus k = fin minus k (negsuc 3)

-- what a call that selects all three pairs leaves: starts and rows as the factor's own, the values 13 / 16, -3 / 16 and 1 / 16, and the scratch 0
abbrev pub sixteenths_lists : Lent
sixteenths_lists = lists f2_starts f2_rows (sixteenth false 13 ∷ sixteenth true 3 ∷ sixteenth false 1 ∷ []) f2_cleared

abbrev pub SixteenthsLeft : List Step → Selection → Type 0
SixteenthsLeft steps x = ResultLists steps (filling_of x) f2_lent sixteenths_lists

-- what a lookup finds in it, and that the inverse 13 -3 and -3 1 over 16 is what reads back
abbrev pub sixteenths_found : Selection → ℕ → ℕ → Reply Float
sixteenths_found x = found x sixteenths_lists

abbrev pub SixteenthsRead : Selection → Type 0
SixteenthsRead x = ReadsMultiples x sixteenths_lists 4 sixteenths-z sixteenths_matrix 16

-- ---- selected entries: the request (0, 0), limit 3
abbrev pub sixteenths-call : Call
sixteenths-call = call 2 f2_starts f2_rows sixteenths_values 2 (0 ∷ []) (0 ∷ []) 3
