use Rattle.closure.proofs.KeptBy.{closure_rows}
use native.Mathlib.Omega.{arith}
use Prim.Native.Nat.{ℕ, ◌≤◌}
use lib.ListN.{length-replicate}
use Rattle.columns.specs.Columns.{factor_lists}
use Rattle.refusal.specs.Bounds.{max_dimension}
use mathlib.Core.Path.{◌≡◌}
use mathlib.Core.Bool.{Bool}
use Rattle.columns.specs.Form.{Form, form_of}
use Rattle.selection.specs.Selection.{Selection, selecting, Lent, lists, room_of, Accepted, selected_answer}
use Rattle.closure.specs.Closure.{Requested, marked_set, marked_requested}
use Rattle.closure.specs.Covered.{unlisted}
use Rattle.fill.proofs.Fill.{fill_layout, fill_listed, fill_route, fill_long, fill_positions, fill_done, large_positions, large_done, kept_small, kept_answer}
use Rattle.fill.proofs.fill_lists.Goals as goal

-- how the factor is given
abbrev form-After-diagnose-arg-1 : goal.After-diagnose-arg-1 → Form
form-After-diagnose-arg-1 s = form_of s.args.pivots

-- how the factor is given
abbrev form-After-lay_out-arg-in-Complete-2-1 : goal.After-lay_out-arg-in-Complete-2-1 → Form
form-After-lay_out-arg-in-Complete-2-1 s = form_of s.args.pivots

-- how the factor is given
abbrev form-After-takahashi_selected_inverse-arg-1 : goal.After-takahashi_selected_inverse-arg-1 → Form
form-After-takahashi_selected_inverse-arg-1 s = form_of s.args.pivots

-- how the factor is given
abbrev form-After-slice_known-in-Complete-4-1 : goal.After-slice_known-in-Complete-4-1 → Form
form-After-slice_known-in-Complete-4-1 s = form_of s.args.pivots

-- how the factor is given
abbrev form-In-ClosureTooLarge : goal.In-ClosureTooLarge → Form
form-In-ClosureTooLarge s = form_of s.args.pivots

-- the selection of the marked pairs, or of another set that they are, and the lists lent
abbrev handed-After-lay_out-arg-in-Complete-2-1 : goal.After-lay_out-arg-in-Complete-2-1 → Selection
handed-After-lay_out-arg-in-Complete-2-1 s =
    let a = s.args in
    selecting (form-After-lay_out-arg-in-Complete-2-1 s) (factor_lists a.n a.starts.now a.rows.now a.values.now) (marked_set a.n a.scratch.now) a.limit

-- the selection of the marked pairs, or of another set that they are, and the lists lent
abbrev handed-After-takahashi_selected_inverse-arg-1 : goal.After-takahashi_selected_inverse-arg-1 → Selection
handed-After-takahashi_selected_inverse-arg-1 s =
    let a = s.args in
    selecting (form-After-takahashi_selected_inverse-arg-1 s) (factor_lists a.n a.starts.now a.rows.now a.values.now) (marked_set a.n a.scratch.now) a.limit

-- the selection of the marked pairs, or of another set that they are, and the lists lent
abbrev handed-After-slice_known-in-Complete-4-1 : goal.After-slice_known-in-Complete-4-1 → Selection
handed-After-slice_known-in-Complete-4-1 s =
    let a = s.args in
    selecting (form-After-slice_known-in-Complete-4-1 s) (factor_lists a.n a.starts.now a.rows.now a.values.now) (marked_set a.n a.scratch.now) a.limit

abbrev asked-After-lay_out-arg-in-Complete-2-1 : goal.After-lay_out-arg-in-Complete-2-1 → (ℕ → ℕ → Bool) → Selection
asked-After-lay_out-arg-in-Complete-2-1 s req = let a = s.args in selecting (form-After-lay_out-arg-in-Complete-2-1 s) (factor_lists a.n a.starts.now a.rows.now a.values.now) req a.limit

abbrev asked-After-takahashi_selected_inverse-arg-1 : goal.After-takahashi_selected_inverse-arg-1 → (ℕ → ℕ → Bool) → Selection
asked-After-takahashi_selected_inverse-arg-1 s req = let a = s.args in selecting (form-After-takahashi_selected_inverse-arg-1 s) (factor_lists a.n a.starts.now a.rows.now a.values.now) req a.limit

abbrev asked-After-slice_known-in-Complete-4-1 : goal.After-slice_known-in-Complete-4-1 → (ℕ → ℕ → Bool) → Selection
asked-After-slice_known-in-Complete-4-1 s req = let a = s.args in selecting (form-After-slice_known-in-Complete-4-1 s) (factor_lists a.n a.starts.now a.rows.now a.values.now) req a.limit

abbrev asked-In-ClosureTooLarge : goal.In-ClosureTooLarge → (ℕ → ℕ → Bool) → Selection
asked-In-ClosureTooLarge s req = let a = s.args in selecting (form-In-ClosureTooLarge s) (factor_lists a.n a.starts.now a.rows.now a.values.now) req a.limit

abbrev lent-After-lay_out-arg-in-Complete-2-1 : goal.After-lay_out-arg-in-Complete-2-1 → Lent
lent-After-lay_out-arg-in-Complete-2-1 s = let a = s.args in lists a.result_starts.now a.result_rows.now a.result_values.now a.scratch.now

abbrev lent-After-takahashi_selected_inverse-arg-1 : goal.After-takahashi_selected_inverse-arg-1 → Lent
lent-After-takahashi_selected_inverse-arg-1 s = let a = s.args in lists a.result_starts.now a.result_rows.now a.result_values.now a.scratch.now

abbrev lent-After-slice_known-in-Complete-4-1 : goal.After-slice_known-in-Complete-4-1 → Lent
lent-After-slice_known-in-Complete-4-1 s = let a = s.args in lists a.result_starts.now a.result_rows.now a.result_values.now a.scratch.now

abbrev lent-In-ClosureTooLarge : goal.In-ClosureTooLarge → Lent
lent-In-ClosureTooLarge s = let a = s.args in lists a.result_starts.now a.result_rows.now a.result_values.now a.scratch.now

-- the marked pairs are a set
set-After-lay_out-arg-in-Complete-2-1 : (d : goal.After-lay_out-arg-in-Complete-2-1) → let a = d.args in Requested a.n (marked_set a.n a.scratch.now) a.scratch.now
set-After-lay_out-arg-in-Complete-2-1 d = let a = d.args in marked_requested a.n a.scratch.now

-- the marked pairs are a set
set-After-takahashi_selected_inverse-arg-1 : (d : goal.After-takahashi_selected_inverse-arg-1) → let a = d.args in Requested a.n (marked_set a.n a.scratch.now) a.scratch.now
set-After-takahashi_selected_inverse-arg-1 d = let a = d.args in marked_requested a.n a.scratch.now

-- the marked pairs are a set
set-After-slice_known-in-Complete-4-1 : (d : goal.After-slice_known-in-Complete-4-1) → let a = d.args in Requested a.n (marked_set a.n a.scratch.now) a.scratch.now
set-After-slice_known-in-Complete-4-1 d = let a = d.args in marked_requested a.n a.scratch.now

-- the marked pairs are a set
set-In-ClosureTooLarge : (d : goal.In-ClosureTooLarge) → let a = d.args in Requested a.n (marked_set a.n a.scratch.now) a.scratch.now
set-In-ClosureTooLarge d = let a = d.args in marked_requested a.n a.scratch.now

-- an accepted selection (factorLists stays so for another) set that the marked pairs are
other-After-slice_known-in-Complete-4-1 : (s : goal.After-slice_known-in-Complete-4-1) (req : ℕ → ℕ → Bool) → Requested s.args.n req s.args.scratch.now → Accepted (asked-After-slice_known-in-Complete-4-1 s req) (room_of (lent-After-slice_known-in-Complete-4-1 s))
other-After-slice_known-in-Complete-4-1 s req R =
    let A = s.requires.accepted in
    record {
      small = A.small;
      few = A.few;
      factor = A.factor;
      finite = A.finite;
      requests = R.ranged;
      diagonals = A.diagonals;
      starts_room = A.starts_room;
      rows_room = A.rows_room;
      values_room = A.values_room;
      scratch_room = A.scratch_room;
    }

-- an accepted selection (factorLists stays so for another) set that the marked pairs are
other-In-ClosureTooLarge : (s : goal.In-ClosureTooLarge) (req : ℕ → ℕ → Bool) → Requested s.args.n req s.args.scratch.now → Accepted (asked-In-ClosureTooLarge s req) (room_of (lent-In-ClosureTooLarge s))
other-In-ClosureTooLarge s req R =
    let A = s.requires.accepted in
    record {
      small = A.small;
      few = A.few;
      factor = A.factor;
      finite = A.finite;
      requests = R.ranged;
      diagonals = A.diagonals;
      starts_room = A.starts_room;
      rows_room = A.rows_room;
      values_room = A.values_room;
      scratch_room = A.scratch_room;
    }

-- the diagnosis is that of the selection
told_answer-After-lay_out-arg-in-Complete-2-1 : (d : goal.After-lay_out-arg-in-Complete-2-1) (req : ℕ → ℕ → Bool) → Requested d.args.n req d.args.scratch.now
    → d.diagnose-diagnosis.result ≡ selected_answer (asked-After-lay_out-arg-in-Complete-2-1 d req)
told_answer-After-lay_out-arg-in-Complete-2-1 d req R =
    let a = d.args in
    kept_answer (form-After-lay_out-arg-in-Complete-2-1 d) a.n a.starts.now a.rows.now a.values.now d.requires.accepted.factor req a.limit d.kept_pairs-kept.ensures
    (d.diagnose-diagnosis.ensures.answers req R)

-- the diagnosis is that of the selection
told_answer-After-takahashi_selected_inverse-arg-1 : (d : goal.After-takahashi_selected_inverse-arg-1) (req : ℕ → ℕ → Bool) → Requested d.args.n req d.args.scratch.now
    → d.diagnose-diagnosis.result ≡ selected_answer (asked-After-takahashi_selected_inverse-arg-1 d req)
told_answer-After-takahashi_selected_inverse-arg-1 d req R =
    let a = d.args in
    kept_answer (form-After-takahashi_selected_inverse-arg-1 d) a.n a.starts.now a.rows.now a.values.now d.requires.accepted.factor req a.limit d.kept_pairs-kept.ensures
    (d.diagnose-diagnosis.ensures.answers req R)

-- the diagnosis is that of the selection
told_answer-After-slice_known-in-Complete-4-1 : (d : goal.After-slice_known-in-Complete-4-1) (req : ℕ → ℕ → Bool) → Requested d.args.n req d.args.scratch.now
    → d.diagnose-diagnosis.result ≡ selected_answer (asked-After-slice_known-in-Complete-4-1 d req)
told_answer-After-slice_known-in-Complete-4-1 d req R =
    let a = d.args in
    kept_answer (form-After-slice_known-in-Complete-4-1 d) a.n a.starts.now a.rows.now a.values.now d.requires.accepted.factor req a.limit d.kept_pairs-kept.ensures
    (d.diagnose-diagnosis.ensures.answers req R)

-- the diagnosis is that of the selection
told_answer-In-ClosureTooLarge : (d : goal.In-ClosureTooLarge) (req : ℕ → ℕ → Bool) → Requested d.args.n req d.args.scratch.now
    → d.diagnose-diagnosis.result ≡ selected_answer (asked-In-ClosureTooLarge d req)
told_answer-In-ClosureTooLarge d req R =
    let a = d.args in
    kept_answer (form-In-ClosureTooLarge d) a.n a.starts.now a.rows.now a.values.now d.requires.accepted.factor req a.limit d.kept_pairs-kept.ensures
    (d.diagnose-diagnosis.ensures.answers req R)

pub kept_pairs-kept-requires : goal.kept_pairs-kept-requires
kept_pairs-kept-requires c = c.requires.accepted.factor

pub diagnose-diagnosis-requires : goal.diagnose-diagnosis-requires
diagnose-diagnosis-requires c = let A = c.requires.accepted in
    let k = c.kept_pairs-kept.ensures in record { kept_pairs_le_max_count = kept_small (form-After-diagnose-arg-1 c) c.args.n c.args.starts.now c.args.rows.now c.args.values.now A.factor A.small k; closure_input = closure_rows (record { small = A.small; factor = A.factor; unlisted = unlisted A.small; marked = c.requires.marked }); values_lent = omega (arith, A.factor.valued) }

pub lay_out-requires : goal.lay_out-requires
lay_out-requires c = let K = c.diagnose-diagnosis.ensures.leaves _ (set-After-lay_out-arg-in-Complete-2-1 c) in
    let D = told_answer-After-lay_out-arg-in-Complete-2-1 c _ (set-After-lay_out-arg-in-Complete-2-1 c) in
    let within = c.in-Complete.is in
    let long : c.args.n ≤ max_dimension = c.requires.accepted.small in
    let kept = c.diagnose-diagnosis.auto.stops in (
      fill_layout (handed-After-lay_out-arg-in-Complete-2-1 c) (lent-After-lay_out-arg-in-Complete-2-1 c) c.requires.accepted K D within,
      omega (arith, kept, length-replicate {A = ℕ} max_dimension 0),
      fill_listed (handed-After-lay_out-arg-in-Complete-2-1 c) (lent-After-lay_out-arg-in-Complete-2-1 c) c.requires.accepted K D within,
    )

pub takahashi_selected_inverse-requires : goal.takahashi_selected_inverse-requires
takahashi_selected_inverse-requires c = fill_route (handed-After-takahashi_selected_inverse-arg-1 c) (lent-After-takahashi_selected_inverse-arg-1 c) c.requires.accepted (c.diagnose-diagnosis.ensures.leaves _ (set-After-takahashi_selected_inverse-arg-1 c)) (told_answer-After-takahashi_selected_inverse-arg-1 c _ (set-After-takahashi_selected_inverse-arg-1 c)) c.in-Complete.is
    c.lay_out.ensures

pub returns-in-Complete : goal.returns-in-Complete
returns-in-Complete c = let E = c.diagnose-diagnosis.ensures in
    let within = c.in-Complete.is in
    record {
      fills = record {
        answers = told_answer-After-slice_known-in-Complete-4-1 c;
        leaves = λ req R.
            fill_done (asked-After-slice_known-in-Complete-4-1 c req) (lent-After-slice_known-in-Complete-4-1 c) (other-After-slice_known-in-Complete-4-1 c req R) (E.leaves req R) (told_answer-After-slice_known-in-Complete-4-1 c req R) within c.lay_out.ensures
            c.takahashi_selected_inverse.ensures;
      };
      long = fill_long (handed-After-slice_known-in-Complete-4-1 c) (lent-After-slice_known-in-Complete-4-1 c) c.requires.accepted (E.leaves _ (set-After-slice_known-in-Complete-4-1 c)) (told_answer-After-slice_known-in-Complete-4-1 c _ (set-After-slice_known-in-Complete-4-1 c)) within c.lay_out.ensures;
      positions = λ req R complete.
          fill_positions (asked-After-slice_known-in-Complete-4-1 c req) (lent-After-slice_known-in-Complete-4-1 c) (other-After-slice_known-in-Complete-4-1 c req R) (E.leaves req R) (told_answer-After-slice_known-in-Complete-4-1 c req R) within c.lay_out.ensures;
    }

pub returns-in-ClosureTooLarge : goal.returns-in-ClosureTooLarge
returns-in-ClosureTooLarge c = let E = c.diagnose-diagnosis.ensures in
    let within = c.in-ClosureTooLarge.is in
    record {
      fills = record {
        answers = told_answer-In-ClosureTooLarge c;
        leaves = λ req R. large_done (asked-In-ClosureTooLarge c req) (lent-In-ClosureTooLarge c) (other-In-ClosureTooLarge c req R) (E.leaves req R) (told_answer-In-ClosureTooLarge c req R) within;
      };
      long = (E.leaves _ (set-In-ClosureTooLarge c)).long;
      positions = λ req R complete. large_positions (asked-In-ClosureTooLarge c req) (lent-In-ClosureTooLarge c) (other-In-ClosureTooLarge c req R) (E.leaves req R) (told_answer-In-ClosureTooLarge c req R) within complete;
    }
