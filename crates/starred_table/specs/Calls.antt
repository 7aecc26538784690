-- The calls of the starred cases: what those for F2, F3 and a factor without columns reply, and the operator row.
-- Assumes nothing.
use Rattle.std.specs.Prelude.{ℕ, ◌≡◌, List, [], ◌∷◌}
use Rattle.refusal.specs.Steps.{Reply, first}
use Rattle.columns.specs.Examples.{whole, f2_starts, f2_rows, f2_values, f3_starts, f3_rows, f3_values}
use Rattle.diagnostics.specs.declared.SelectedInverseDiagnostics.{SelectedInverseDiagnostics}
use Rattle.selection.specs.Selection.{Room, room, selected_answer}
use Rattle.selection.specs.Call.{Call, call, selection_of, selected_steps}
use Rattle.operator_variances.specs.Transformed.{TransformedCall, transformed_call}

-- what a call with lists of these lengths replies
abbrev pub call_reply : Call → Room → Reply SelectedInverseDiagnostics
call_reply x lengths = first (selected_steps x lengths) (selected_answer (selection_of x))

-- F2 and F3 with requests and a limit, in lists that just suffice
abbrev pub F2 : List ℕ → List ℕ → ℕ → Reply SelectedInverseDiagnostics
F2 request_rows request_columns limit = call_reply (call 2 f2_starts f2_rows f2_values 2 request_rows request_columns limit) (room 3 3 3 12)

abbrev pub F3 : List ℕ → List ℕ → ℕ → Reply SelectedInverseDiagnostics
F3 request_rows request_columns limit = call_reply (call 3 f3_starts f3_rows f3_values 3 request_rows request_columns limit) (room 4 6 6 19)

-- no columns and no requests
abbrev pub NoColumns : ℕ → Reply SelectedInverseDiagnostics
NoColumns limit = call_reply (call 0 (0 ∷ []) [] [] 0 [] [] limit) (room 1 1 1 1)

-- F2 with the operator row 1 at 0, 1 at 1
abbrev pub f2_operator : TransformedCall
f2_operator = transformed_call 2 f2_starts f2_rows f2_values 2 (0 ∷ 2 ∷ []) (0 ∷ 1 ∷ []) (whole 1 ∷ whole 1 ∷ [])

-- ---- lengths that are the same

pub same_room : {a b c d a' b' c' d' : ℕ} → a ≡ a' → b ≡ b' → c ≡ c' → d ≡ d' → room a b c d ≡ room a' b' c' d'
same_room p q r s = rw (p, q, r, s)
