-- Factors of one dimension with equal kept positions, and equal requests and limit: equal status and counts, equal starts and filled rows.
-- Assumes nothing.
use Rattle.std.specs.Prelude.{ℕ, ◌+◌, ◌≡◌, Bool, List, take, Float}
use Rattle.columns.specs.Columns.{factor_lists}
use Rattle.columns.specs.Form.{Form}
use Rattle.diagnostics.specs.declared.SelectedInverseStatus.TheVariants.{Complete}
use Rattle.selection.specs.Selection.{Selection, selecting, Lent, selected_size, selected_answer}
use Rattle.selection.specs.Call.{Call, call, selection_of, selected_reply}

-- ---- two factors, each in either form, with the same descendants in each column

module _ (n limit : ℕ) (req : ℕ → ℕ → Bool) (form : Form) (starts rows : List ℕ) (values : List Float) (form' : Form) (starts' rows' : List ℕ)
    (values' : List Float) where
  abbrev pub one : Selection
  one = selecting form (factor_lists n starts rows values) req limit

  abbrev pub other : Selection
  other = selecting form' (factor_lists n starts' rows' values') req limit

  -- what is the same after calls that passed: the answers and, when Complete, starts and filled rows
  pub record SameLists (left left' : Lent) : Type 0 where
    pub answers : selected_answer one ≡ selected_answer other
    pub starts_same : (selected_answer one).status ≡ Complete → take (n + 1) left.result_starts ≡ take (n + 1) left'.result_starts
    pub rows_same : (selected_answer one).status ≡ Complete → take (selected_size one) left.result_rows ≡ take (selected_size one) left'.result_rows

-- ---- two calls

module _ (n dimension limit : ℕ) (request_rows request_columns : List ℕ) (starts rows : List ℕ) (values : List Float) (starts' rows' : List ℕ)
    (values' : List Float) (lent lent' : Lent) where
  abbrev pub call₁ : Call
  call₁ = call n starts rows values dimension request_rows request_columns limit

  abbrev pub call₂ : Call
  call₂ = call n starts' rows' values' dimension request_rows request_columns limit

  -- accepted calls whose factors keep the same positions: equal replies and, when Complete, equal starts and filled rows
  pub record SameResults (left left' : Lent) : Type 0 where
    pub replies : selected_reply call₁ lent ≡ selected_reply call₂ lent'
    pub starts_same : (selected_answer (selection_of call₁)).status ≡ Complete → take (n + 1) left.result_starts ≡ take (n + 1) left'.result_starts
    pub rows_same : (selected_answer (selection_of call₁)).status ≡ Complete
        → take (selected_size (selection_of call₁)) left.result_rows ≡ take (selected_size (selection_of call₁)) left'.result_rows
