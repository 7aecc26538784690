-- Laws of specs/Call.antt.
use Rattle.std.specs.Prelude.{ℕ, length}
use Rattle.std.proofs.Common.{ltb-false}
use Rattle.refusal.specs.Steps.{Passed}
use Rattle.refusal.proofs.Steps.{passed_clear, passed_front, passed_back}
use Rattle.refusal.specs.Groups.{AllPassed}
use Rattle.refusal.proofs.Groups.{groups_passed}
use Rattle.columns.specs.Columns.{bound_steps}
use Rattle.columns.specs.Factor.{FactorBounded}
use Rattle.columns.proofs.Factor.{bound_steps-sound}
use Rattle.columns.specs.Stored.{stored_steps}
use Rattle.columns.proofs.Stored.{stored_steps-sound, stored_steps_finite}
use Rattle.columns.specs.Diagonal.{diagonal_steps}
use Rattle.columns.proofs.Diagonal.{diagonal_steps-sound}
use Rattle.closed_set.specs.ClosedSet.{Ranged}
use Rattle.closed_set.specs.Requests.{Requests}
use Rattle.closed_set.proofs.Requests.{requested_ranged}
use Rattle.selection.specs.RequestSteps.{request_bound_steps}
use Rattle.selection.proofs.RequestSteps.{request_steps-sound}
use Rattle.selection.specs.Selection.{Selection, cholesky_of, Room, room_steps, fill_steps, Accepted}
use Rattle.selection.specs.Call.{Call, selection_of, selected_groups, selected_steps, EnoughRoom}

pub room_steps-sound : (n limit : ℕ) (lengths : Room) → Passed (room_steps n limit lengths) → EnoughRoom n limit lengths
unfolding room_steps
room_steps-sound n limit lengths p =
    let r = passed_clear (room_steps n limit lengths) p in
    record {
      starts_room = ltb-false _ _ r.0;
      rows_room = ltb-false _ _ r.1.0;
      values_room = ltb-false _ _ r.1.1.0;
      scratch_room = ltb-false _ _ r.1.1.1.0;
    }

-- a factor and requests past their checks, and lists that can be filled
pub fill_accepted : (x : Selection) (lengths : Room) → FactorBounded x.factor.n (length x.factor.rows) → Passed (stored_steps x.factor)
    → Ranged x.factor.n x.requests → Passed (fill_steps x.factor x.limit lengths)
    → Accepted (cholesky_of x) lengths
fill_accepted x lengths bounded stored R p =
    let F = stored_steps-sound x.factor stored in
    let a = diagonal_steps x.factor in
    let b = room_steps x.factor.n x.limit lengths in
    let room = room_steps-sound x.factor.n x.limit lengths (passed_back a b p) in
    record {
      small = bounded.small;
      few = bounded.few;
      factor = F;
      finite = stored_steps_finite x.factor stored;
      requests = R;
      diagonals = diagonal_steps-sound x.factor.n x.factor.starts x.factor.rows x.factor.values F.rows_ascend (passed_front a b p);
      starts_room = room.starts_room;
      rows_room = room.rows_room;
      values_room = room.values_room;
      scratch_room = room.scratch_room;
    }

-- the steps pass only for a call that has all this
module _ (x : Call) (lengths : Room) (p : Passed (selected_steps x lengths)) where
  passed : AllPassed (selected_groups x lengths)
  unfolding selected_steps
  passed = groups_passed (selected_groups x lengths) p

  pub accepted_requests : Requests x.factor.n x.request_rows x.request_columns
  accepted_requests = request_steps-sound x.factor.n x.dimension x.request_rows x.request_columns passed.1.1.0

  pub accepted : Accepted (selection_of x) lengths
  accepted =
      let bounds = bound_steps x.factor.n (length x.factor.rows) in
      let B = bound_steps-sound x.factor.n (length x.factor.rows) (passed_front bounds (request_bound_steps (length x.request_rows)) passed.0) in
      fill_accepted (selection_of x) lengths B passed.1.0
      (requested_ranged x.request_rows x.request_columns x.factor.n accepted_requests) passed.1.1.1.0
