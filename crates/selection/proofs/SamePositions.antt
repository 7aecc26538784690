-- Laws of specs/SamePositions.antt.
use Rattle.std.specs.Prelude.{ℕ, ◌+◌, ◌≤◌, ◌<◌, ◌≡◌, Bool, true, cond, List, take, Float}
use Rattle.std.proofs.Common.{sym, ap, subst, ◌∙◌, le-leb}
use Rattle.lists.specs.Overwrite.{overwrite, overwrite_front}
use Rattle.refusal.specs.Steps.{Step, Passed, answered}
use Rattle.refusal.proofs.Steps.{first_passed}
use Rattle.pairs.specs.ColumnOrder.{set_size}
use Rattle.pairs.proofs.ColumnOrder.{set_size_cong}
use Rattle.columns.specs.Kept.{nonzero, pattern}
use Rattle.columns.specs.Form.{Form, cholesky}
use Rattle.columns.proofs.Form.{kept_pairs-pattern, pattern_pairs_cong}
use Rattle.closed_set.specs.Requests.{requested}
use Rattle.diagnostics.specs.declared.SelectedInverseDiagnostics.{SelectedInverseDiagnostics}
use Rattle.closed_set.specs.KeptSet.{SameKept}
use Rattle.selection.proofs.Diagnosis.{member_same, diagnosis_of_same, kept_pattern}
use Rattle.entries.specs.Entries.{entry_starts, entry_rows}
use Rattle.entries.proofs.Entries.{entry_starts-length, entry_rows_length}
use Rattle.entries.proofs.Position.{entry_starts_cong, entry_rows_cong}
use Rattle.selection.specs.Selection.{LentOf, Lent, Room, room_of, Filling, filling_of, Accepted, selected_set, selected_size, selected_answer}
use Rattle.selection.specs.Selection.{filled_starts, filled_rows, ResultLists}
use Rattle.selection.proofs.Selection.{passed_starts, passed_rows}
use Rattle.selection.proofs.Status.{selected_complete_lem}
use Rattle.selection.specs.Call.{selection_of, selected_steps}
use Rattle.selection.proofs.Call.{accepted}
use Rattle.selection.specs.SamePositions.{one, other, SameLists, call₁, call₂, SameResults}

-- ---- what a filling within the limit leaves in front

module _ {W : Type 0} (f : Filling W) (lent : LentOf W) (complete : f.complete ≡ true) where
  pub front_starts : take (f.n + 1) (filled_starts f lent) ≡ entry_starts f.n f.set
  front_starts =
      ap (λ (b : Bool). take (f.n + 1) (cond b (overwrite (entry_starts f.n f.set) lent.result_starts) lent.result_starts)) complete
      ∙ ap (λ (k : ℕ). take k (overwrite (entry_starts f.n f.set) lent.result_starts)) (sym (entry_starts-length f.n f.set))
      ∙ overwrite_front (entry_starts f.n f.set) lent.result_starts

  pub front_rows : take (set_size f.n f.set) (filled_rows f lent) ≡ entry_rows f.n f.set
  front_rows =
      ap (λ (b : Bool). take (set_size f.n f.set) (cond b (overwrite (entry_rows f.n f.set) lent.result_rows) lent.result_rows)) complete
      ∙ ap (λ (k : ℕ). take k (overwrite (entry_rows f.n f.set) lent.result_rows)) (sym (entry_rows_length f.n f.set))
      ∙ overwrite_front (entry_rows f.n f.set) lent.result_rows

-- ---- two factors, each in either form, with the same descendants in each column

module _ (n limit : ℕ) (req : ℕ → ℕ → Bool) (form : Form) (starts rows : List ℕ) (values : List Float) (form' : Form) (starts' rows' : List ℕ)
    (values' : List Float) where
  module _ {lengths lengths' : Room} (A : Accepted (one n limit req form starts rows values form' starts' rows' values') lengths) (A' : Accepted (other n limit req form starts rows values form' starts' rows' values') lengths')
      (same : (c : ℕ) → c < n → pattern starts rows (nonzero values) c ≡ pattern starts' rows' (nonzero values') c) where
    same_set : (r c : ℕ) → c ≤ r → r < n → selected_set (one n limit req form starts rows values form' starts' rows' values') r c ≡ selected_set (other n limit req form starts rows values form' starts' rows' values') r c
    same_set = member_same n (pattern starts rows (nonzero values)) (pattern starts' rows' (nonzero values')) same req

    pub same_size : selected_size (one n limit req form starts rows values form' starts' rows' values') ≡ selected_size (other n limit req form starts rows values form' starts' rows' values')
    same_size = set_size_cong n (selected_set (one n limit req form starts rows values form' starts' rows' values')) (selected_set (other n limit req form starts rows values form' starts' rows' values')) same_set

    -- equal status and counts
    pub same_answer : selected_answer (one n limit req form starts rows values form' starts' rows' values') ≡ selected_answer (other n limit req form starts rows values form' starts' rows' values')
    same_answer =
        diagnosis_of_same n (pattern starts rows (nonzero values)) (pattern starts' rows' (nonzero values')) same req limit
        (kept_pairs-pattern n starts rows values form A.diagonals
        ∙ pattern_pairs_cong n (pattern starts rows (nonzero values)) (pattern starts' rows' (nonzero values')) same
        ∙ sym (kept_pairs-pattern n starts' rows' values' form' A'.diagonals))

    -- equal starts and filled rows
    pub same_starts : (lent lent' : Lent) → selected_size (one n limit req form starts rows values form' starts' rows' values') ≤ limit → take (n + 1) (filled_starts (filling_of (one n limit req form starts rows values form' starts' rows' values')) lent) ≡ take (n + 1) (filled_starts (filling_of (other n limit req form starts rows values form' starts' rows' values')) lent')
    same_starts lent lent' h =
        front_starts (filling_of (one n limit req form starts rows values form' starts' rows' values')) lent (le-leb _ _ h) ∙ entry_starts_cong n (selected_set (one n limit req form starts rows values form' starts' rows' values')) (selected_set (other n limit req form starts rows values form' starts' rows' values')) same_set
        ∙ sym (front_starts (filling_of (other n limit req form starts rows values form' starts' rows' values')) lent' (le-leb _ _ (subst (λ (k : ℕ). k ≤ limit) same_size h)))

    pub same_rows : (lent lent' : Lent) → selected_size (one n limit req form starts rows values form' starts' rows' values') ≤ limit
        → take (selected_size (one n limit req form starts rows values form' starts' rows' values')) (filled_rows (filling_of (one n limit req form starts rows values form' starts' rows' values')) lent) ≡ take (selected_size (one n limit req form starts rows values form' starts' rows' values')) (filled_rows (filling_of (other n limit req form starts rows values form' starts' rows' values')) lent')
    same_rows lent lent' h =
        front_rows (filling_of (one n limit req form starts rows values form' starts' rows' values')) lent (le-leb _ _ h) ∙ entry_rows_cong n (selected_set (one n limit req form starts rows values form' starts' rows' values')) (selected_set (other n limit req form starts rows values form' starts' rows' values')) same_set
        ∙ sym (front_rows (filling_of (other n limit req form starts rows values form' starts' rows' values')) lent' (le-leb _ _ (subst (λ (k : ℕ). k ≤ limit) same_size h)))
        ∙ ap (λ (k : ℕ). take k (filled_rows (filling_of (other n limit req form starts rows values form' starts' rows' values')) lent')) (sym same_size)

  module _ (lent lent' : Lent) (A : Accepted (one n limit req form starts rows values form' starts' rows' values') (room_of lent)) (A' : Accepted (other n limit req form starts rows values form' starts' rows' values') (room_of lent'))
      (same : (c : ℕ) → c < n → pattern starts rows (nonzero values) c ≡ pattern starts' rows' (nonzero values') c)
      (steps steps' : List Step) (p : Passed steps) (p' : Passed steps') where
    pub same_lists : {left left' : Lent} → ResultLists steps (filling_of (one n limit req form starts rows values form' starts' rows' values')) lent left → ResultLists steps' (filling_of (other n limit req form starts rows values form' starts' rows' values')) lent' left'
        → (SameLists n limit req form starts rows values form' starts' rows' values') left left'
    same_lists L L' = record {
      answers = same_answer A A' same;
      starts_same = λ e.
          ap (take (n + 1)) (passed_starts steps (filling_of (one n limit req form starts rows values form' starts' rows' values')) lent p L) ∙ same_starts A A' same lent lent' ((selected_complete_lem (one n limit req form starts rows values form' starts' rows' values')).0 e)
          ∙ ap (take (n + 1)) (sym (passed_starts steps' (filling_of (other n limit req form starts rows values form' starts' rows' values')) lent' p' L'));
      rows_same = λ e.
          ap (take (selected_size (one n limit req form starts rows values form' starts' rows' values'))) (passed_rows steps (filling_of (one n limit req form starts rows values form' starts' rows' values')) lent p L) ∙ same_rows A A' same lent lent' ((selected_complete_lem (one n limit req form starts rows values form' starts' rows' values')).0 e)
          ∙ ap (take (selected_size (one n limit req form starts rows values form' starts' rows' values'))) (sym (passed_rows steps' (filling_of (other n limit req form starts rows values form' starts' rows' values')) lent' p' L'));
    }

-- ---- two calls

module _ (n dimension limit : ℕ) (request_rows request_columns : List ℕ) (starts rows : List ℕ) (values : List Float) (starts' rows' : List ℕ)
    (values' : List Float) (lent lent' : Lent) where
  module _ (p : Passed (selected_steps (call₁ n dimension limit request_rows request_columns starts rows values starts' rows' values' lent lent') (room_of lent))) (p' : Passed (selected_steps (call₂ n dimension limit request_rows request_columns starts rows values starts' rows' values' lent lent') (room_of lent')))
      (same : SameKept n starts rows (nonzero values) starts' rows' (nonzero values')) where
    A : Accepted (selection_of (call₁ n dimension limit request_rows request_columns starts rows values starts' rows' values' lent lent')) (room_of lent)
    A = accepted (call₁ n dimension limit request_rows request_columns starts rows values starts' rows' values' lent lent') (room_of lent) p

    A' : Accepted (selection_of (call₂ n dimension limit request_rows request_columns starts rows values starts' rows' values' lent lent')) (room_of lent')
    A' = accepted (call₂ n dimension limit request_rows request_columns starts rows values starts' rows' values' lent lent') (room_of lent') p'

    pub same_positions : {left left' : Lent}
        → ResultLists (selected_steps (call₁ n dimension limit request_rows request_columns starts rows values starts' rows' values' lent lent') (room_of lent)) (filling_of (selection_of (call₁ n dimension limit request_rows request_columns starts rows values starts' rows' values' lent lent'))) lent left
        → ResultLists (selected_steps (call₂ n dimension limit request_rows request_columns starts rows values starts' rows' values' lent lent') (room_of lent')) (filling_of (selection_of (call₂ n dimension limit request_rows request_columns starts rows values starts' rows' values' lent lent'))) lent' left'
        → (SameResults n dimension limit request_rows request_columns starts rows values starts' rows' values' lent lent') left left'
    same_positions L L' =
        let S = same_lists n limit (requested request_rows request_columns) cholesky starts rows values cholesky starts' rows' values' lent lent' A A'
        (kept_pattern (nonzero values) (nonzero values') A.factor A'.factor same) (selected_steps (call₁ n dimension limit request_rows request_columns starts rows values starts' rows' values' lent lent') (room_of lent)) (selected_steps (call₂ n dimension limit request_rows request_columns starts rows values starts' rows' values' lent lent') (room_of lent')) p p' L L' in
        record {
          replies = first_passed _ _ p ∙ ap (λ (d : SelectedInverseDiagnostics). answered d) S.answers ∙ sym (first_passed _ _ p');
          starts_same = S.starts_same;
          rows_same = S.rows_same;
        }
