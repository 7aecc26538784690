-- F2 with the request (0, 0) and limit 3, whole: the lists before and after, by computation; what the theorems say of it; and one call that 20 refuses.
-- Assumes nothing.
use Rattle.std.specs.Prelude.{ℕ, List, [], ◌∷◌, pos, negsuc}
use Rattle.columns.specs.Examples.{f2_starts, f2_rows}
use Rattle.whole_selection.specs.Call.{WholeCall, WholeLent, whole_call, whole_lent}

abbrev pub f2_whole : WholeCall
f2_whole = whole_call 2 f2_starts f2_rows (pos 1 ∷ pos 2 ∷ pos 1 ∷ []) 2 (0 ∷ []) (0 ∷ []) 3

-- twelve words
abbrev pub words : ℕ → List ℕ
words w = w ∷ w ∷ w ∷ w ∷ w ∷ w ∷ w ∷ w ∷ w ∷ w ∷ w ∷ w ∷ []

-- lists that held other numbers, a place longer than need be
abbrev pub before : WholeLent
before = whole_lent (8 ∷ 8 ∷ 8 ∷ 8 ∷ []) (9 ∷ 9 ∷ 9 ∷ 9 ∷ []) (pos 7 ∷ pos 7 ∷ pos 7 ∷ pos 7 ∷ []) (words 6) (pos 5 ∷ pos 5 ∷ pos 5 ∷ pos 5 ∷ [])

-- Z(0, 0) = 5, Z(1, 0) = -2, Z(1, 1) = 1; scratch and work 0 in their lengths
abbrev pub left : WholeLent
left = whole_lent (0 ∷ 2 ∷ 3 ∷ 8 ∷ []) (0 ∷ 1 ∷ 1 ∷ 9 ∷ []) (pos 5 ∷ negsuc 1 ∷ pos 1 ∷ pos 7 ∷ []) (words 0) (pos 0 ∷ pos 0 ∷ pos 0 ∷ pos 5 ∷ [])
