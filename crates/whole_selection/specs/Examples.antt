-- Calls in whole numbers worked through by computation: each condition of 20 alone, the edges of 2 ^ 53, the order of refusals; and F2 whole, at which the
-- theorems' hypotheses are met.
-- Assumes nothing.
use Rattle.std.specs.Prelude.{ℕ, ◌+◌, ◌-◌, ◌^◌, ◌≡◌, List, [], ◌∷◌, ℤ, pos, negsuc, neg_ℤ}
use Rattle.refusal.specs.Steps.{Reply, refused, answered, first}
use Rattle.columns.specs.Examples.{f2_starts, f2_rows}
use Rattle.diagnostics.specs.Diagnosis.{diagnosis}
use Rattle.diagnostics.specs.declared.SelectedInverseDiagnostics.{SelectedInverseDiagnostics}
use Rattle.diagnostics.specs.declared.SelectedInverseStatus.TheVariants.{Complete, ClosureTooLarge}
use Rattle.whole_selection.specs.Call.{WholeCall, WholeRoom, whole_call, whole_room, whole_answer, whole_steps}

-- what a call replies whose lists have these lengths
abbrev pub reply_in : WholeCall → WholeRoom → Reply SelectedInverseDiagnostics
reply_in x lengths = first (whole_steps x lengths) (whole_answer x)

-- F2 with l below the diagonal, a request and a limit, in lists that are long enough
abbrev pub f2-call : ℤ → ℕ → ℕ → ℕ → WholeCall
f2-call l row col limit = whole_call 2 f2_starts f2_rows (pos 1 ∷ l ∷ pos 1 ∷ []) 2 (row ∷ []) (col ∷ []) limit

abbrev pub f2-reply : ℤ → ℕ → ℕ → ℕ → Reply SelectedInverseDiagnostics
f2-reply l row col limit = reply_in (f2-call l row col limit) (whole_room 3 3 3 12 3)

-- a factor of n columns with this request and limit, in lists of T places and so many words of scratch
abbrev pub worked : ℕ → List ℕ → List ℕ → List ℤ → ℕ → ℕ → ℕ → ℕ → ℕ → Reply SelectedInverseDiagnostics
worked n starts rows values row col limit total words = reply_in (whole_call n starts rows values n (row ∷ []) (col ∷ []) limit) (whole_room (n + 1) total total words total)

-- Z(3, 1) = -5, Z(3, 2) = z, and Z(3, 0) from them with 1 and 3
abbrev pub product-of : ℤ → Reply SelectedInverseDiagnostics
product-of z =
    worked 4 (0 ∷ 3 ∷ 5 ∷ 7 ∷ 8 ∷ []) (0 ∷ 1 ∷ 2 ∷ 1 ∷ 3 ∷ 2 ∷ 3 ∷ 3 ∷ [])
    (pos 1 ∷ pos 1 ∷ pos 3 ∷ pos 1 ∷ pos 5 ∷ pos 1 ∷ neg_ℤ z ∷ pos 1 ∷ []) 3 0 4 10 27

-- Z(4, 0) is minus the sum of 2 ^ 53, a and b in this order
abbrev pub sum_of : ℤ → ℤ → Reply SelectedInverseDiagnostics
sum_of a b =
    worked 5 (0 ∷ 4 ∷ 6 ∷ 8 ∷ 10 ∷ 11 ∷ []) (0 ∷ 1 ∷ 2 ∷ 3 ∷ 1 ∷ 4 ∷ 2 ∷ 4 ∷ 3 ∷ 4 ∷ 4 ∷ [])
    (pos 1 ∷ pos 1 ∷ pos 1 ∷ pos 1 ∷ pos 1 ∷ negsuc (2 ^ 53 - 1) ∷ pos 1 ∷ neg_ℤ a ∷ pos 1 ∷ neg_ℤ b ∷ pos 1 ∷ []) 4 0 5 15 36

-- F3 with these below its first diagonal: Z(0, 0) = 1 + a * a + b * b
abbrev pub entry_of : ℕ → ℕ → Reply SelectedInverseDiagnostics
entry_of a b = worked 3 (0 ∷ 3 ∷ 4 ∷ 5 ∷ []) (0 ∷ 1 ∷ 2 ∷ 1 ∷ 2 ∷ []) (pos 1 ∷ pos a ∷ pos b ∷ pos 1 ∷ pos 1 ∷ []) 0 0 6 6 19

-- n = 2 with an entry above the diagonal of column 1, below nothing
abbrev pub above : ℤ → Reply SelectedInverseDiagnostics
above l = worked 2 (0 ∷ 1 ∷ 3 ∷ []) (0 ∷ 0 ∷ 1 ∷ []) (pos 1 ∷ l ∷ pos 1 ∷ []) 1 1 3 3 12

-- n = 2 with one entry a column: row 1 in column 0, and this diagonal in column 1
abbrev pub no_first : ℤ → ℕ → Reply SelectedInverseDiagnostics
no_first d = λ request. worked 2 (0 ∷ 1 ∷ 2 ∷ []) (1 ∷ 1 ∷ []) (pos 1 ∷ d ∷ []) request 1 3 3 12

pub record Replies : Type 0 where
  -- document 01's F2
  pub f2_first : f2-reply (pos 2) 0 0 3 ≡ answered (diagnosis 1 3 3 3 Complete)
  pub f2_limited : f2-reply (pos 2) 0 0 2 ≡ answered (diagnosis 1 3 3 2 ClosureTooLarge)
  -- a kept entry alone, in a column that the set does not reach; both ends are accepted; past the limit no size counts
  pub kept_alone : f2-reply (pos (2 ^ 53 + 1)) 1 1 3 ≡ refused 20
  pub kept_alone_below : f2-reply (negsuc (2 ^ 53)) 1 1 3 ≡ refused 20
  pub kept_edge : f2-reply (pos (2 ^ 53)) 1 1 3 ≡ answered (diagnosis 1 1 3 3 Complete)
  pub kept_edge_below : f2-reply (negsuc (2 ^ 53 - 1)) 1 1 3 ≡ answered (diagnosis 1 1 3 3 Complete)
  pub kept_limited : f2-reply (negsuc (2 ^ 63 - 1)) 1 1 0 ≡ answered (diagnosis 1 1 3 0 ClosureTooLarge)
  -- with no requests the empty set is within limit 0
  pub none_asked : reply_in (whole_call 2 f2_starts f2_rows (pos 1 ∷ pos (2 ^ 53 + 1) ∷ pos 1 ∷ []) 2 [] [] 0) (whole_room 3 0 0 12 0) ≡ refused 20
  -- entries of 2 ^ 53 in size
  pub entry_edge : f2-reply (negsuc (2 ^ 53 - 1)) 1 0 3 ≡ answered (diagnosis 1 2 3 3 Complete)
  pub entry_edge_below : f2-reply (pos (2 ^ 53)) 1 0 3 ≡ answered (diagnosis 1 2 3 3 Complete)
  -- a product alone: 3 times a third of 2 ^ 53 + 1, on a sum of -5; and 3 less
  pub product_alone : product-of (pos 3002399751580331) ≡ refused 20
  pub product_within : product-of (pos 3002399751580330) ≡ answered (diagnosis 1 4 8 4 Complete)
  -- a running sum alone that exceeds and returns; and the same numbers in another order
  pub sum_alone : sum_of (pos 1) (negsuc 0) ≡ refused 20
  pub sum_within : sum_of (negsuc 0) (pos 1) ≡ answered (diagnosis 1 5 11 5 Complete)
  -- an entry alone: 1 - S' with S' = -(2 ^ 53)
  pub entry_alone : entry_of (2 ^ 26) (2 ^ 26) ≡ refused 20
  pub entry_within : entry_of (2 ^ 26) (2 ^ 26 - 1) ≡ answered (diagnosis 1 6 5 6 Complete)
  -- above the diagonal any number is dropped
  pub above_dropped : above (negsuc (2 ^ 63 - 1)) ≡ answered (diagnosis 1 1 2 3 Complete)
  -- 5 before 19, 19 of any column before 6, 6 before 7
  pub five_first : no_first (pos 2) 2 ≡ refused 5
  pub nineteen_first : no_first (pos 2) 1 ≡ refused 19
  pub six_left : no_first (pos 1) 1 ≡ refused 6
  pub nineteen_negative : no_first (negsuc 0) 1 ≡ refused 19
  -- 7 for each list a place too short, before 20
  pub starts_short : reply_in (f2-call (pos 2) 0 0 3) (whole_room 2 3 3 12 3) ≡ refused 7
  pub scratch_short : reply_in (f2-call (pos 2) 0 0 3) (whole_room 3 3 3 11 3) ≡ refused 7
  pub work_short : reply_in (f2-call (pos (2 ^ 53 + 1)) 0 0 3) (whole_room 3 3 3 12 2) ≡ refused 7
  -- the lesser of limit and T is enough
  pub work_least : reply_in (f2-call (pos 2) 1 1 1) (whole_room 3 1 1 12 1) ≡ answered (diagnosis 1 1 3 1 Complete)
