-- F2 of document 01 worked through: what the theorems of the exact case ask of a call is met, and what they then give.
-- F2's L has the rows 1 0 and 2 1; the inverse of L * Lᵀ has the rows 5 -2 and -2 1. Other crates' worked calls of F2 start here.
-- Assumes nothing.
use Rattle.std.specs.Prelude.{ℕ, List, [], ◌∷◌, Float}
use Rattle.std.specs.Float.Ieee.{neg}
use Rattle.refusal.specs.Steps.{Step, Reply}
use Rattle.columns.specs.Examples.{whole, f2_starts, f2_rows, f2_values}
use Rattle.exact.specs.Examples.{f2_matrix}
use Rattle.selection.specs.Selection.{Selection, lists, Lent, ResultLists, filling_of}
use Rattle.selection.specs.Call.{Call, call}
use Rattle.exact_entries.specs.Recurrence.{found}
use Rattle.exact_entries.specs.ExactEntries.{ReadsBack}

-- lists that just suffice
abbrev pub f2_lent : Lent
f2_lent = lists (9 ∷ 9 ∷ 9 ∷ []) (9 ∷ 9 ∷ 9 ∷ []) (whole 9 ∷ whole 9 ∷ whole 9 ∷ []) (9 ∷ 9 ∷ 9 ∷ 9 ∷ 9 ∷ 9 ∷ 9 ∷ 9 ∷ 9 ∷ 9 ∷ 9 ∷ 9 ∷ [])

-- what a call that selects all three pairs leaves: starts and rows as F2's own, the values 5, -2 and 1, and the scratch 0
abbrev pub f2_result : List Float
f2_result = whole 5 ∷ neg (whole 2) ∷ whole 1 ∷ []

abbrev pub f2_cleared : List ℕ
f2_cleared = 0 ∷ 0 ∷ 0 ∷ 0 ∷ 0 ∷ 0 ∷ 0 ∷ 0 ∷ 0 ∷ 0 ∷ 0 ∷ 0 ∷ []

abbrev pub f2_lists : Lent
f2_lists = lists f2_starts f2_rows f2_result f2_cleared

abbrev pub F2Left : List Step → Selection → Type 0
F2Left steps x = ResultLists steps (filling_of x) f2_lent f2_lists

-- what a lookup finds in it, and that the inverse is what reads back
abbrev pub f2_found : Selection → ℕ → ℕ → Reply Float
f2_found x = found x f2_lists

abbrev pub F2ReadsBack : Selection → Type 0
F2ReadsBack x = ReadsBack x f2_lists f2_matrix

-- ---- selected entries: F2, the request (0, 0), limit 3
abbrev pub f2-call : Call
f2-call = call 2 f2_starts f2_rows f2_values 2 (0 ∷ []) (0 ∷ []) 3
