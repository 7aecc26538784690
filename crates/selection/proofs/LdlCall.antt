-- Laws of specs/LdlCall.antt.
use Rattle.std.specs.Prelude.{List, ◌++◌, length}
use Rattle.refusal.specs.Steps.{Step, Passed}
use Rattle.refusal.proofs.Steps.{passed_front, passed_back}
use Rattle.refusal.specs.Groups.{AllPassed}
use Rattle.refusal.proofs.Groups.{groups_passed}
use Rattle.columns.specs.Columns.{bound_steps}
use Rattle.columns.specs.Kept.{nonzero}
use Rattle.columns.proofs.Factor.{bound_steps-sound}
use Rattle.columns.specs.Pivots.{float_one, pivot_steps}
use Rattle.columns.proofs.Pivots.{pivot_steps-sound}
use Rattle.columns.specs.UnitDiagonals.{UnitDiagonals}
use Rattle.columns.proofs.UnitDiagonals.{unit_steps_sound}
use Rattle.columns.proofs.Stored.{stored_steps-sound, stored_steps_finite}
use Rattle.closed_set.specs.Requests.{Requests}
use Rattle.closed_set.proofs.Requests.{requested_ranged}
use Rattle.selection.specs.RequestSteps.{request_bound_steps}
use Rattle.selection.proofs.RequestSteps.{request_steps-sound}
use Rattle.selection.specs.Selection.{Room, room_steps, Accepted}
use Rattle.selection.proofs.Call.{room_steps-sound}
use Rattle.selection.specs.LdlCall.{LdlCall, ldl_unit_steps, ldl_selection, ldl_groups, ldl_steps}

-- ---- the steps pass only for a call that has all this
module _ (x : LdlCall) (lengths : Room) (p : Passed (ldl_steps x lengths)) where
  passed : AllPassed (ldl_groups x lengths)
  unfolding ldl_steps
  passed = groups_passed (ldl_groups x lengths) p

  abbrev units : List Step
  units = ldl_unit_steps x.factor

  abbrev lows : List Step
  lows = pivot_steps x.factor.n x.pivots

  abbrev rooms : List Step
  rooms = room_steps x.factor.n x.limit lengths

  later : Passed (lows ++ rooms)
  later = passed_back units (lows ++ rooms) passed.1.1.1.1.0

  pub ldl_requests : Requests x.factor.n x.request_rows x.request_columns
  ldl_requests = request_steps-sound x.factor.n x.dimension x.request_rows x.request_columns passed.1.1.1.0

  -- each kept diagonal is 1
  pub ldl_units : UnitDiagonals x.factor.n x.factor.starts x.factor.rows (nonzero x.factor.values) (float_one x.factor.values)
  ldl_units =
      unit_steps_sound x.factor.n x.factor.starts x.factor.rows (nonzero x.factor.values) (float_one x.factor.values) 23
      (passed_front units (lows ++ rooms) passed.1.1.1.1.0)

  pub ldl_accepted : Accepted (ldl_selection x) lengths
  ldl_accepted =
      let bounds = bound_steps x.factor.n (length x.factor.rows) in
      let B = bound_steps-sound x.factor.n (length x.factor.rows) (passed_front bounds (request_bound_steps (length x.request_rows)) passed.0) in
      let room = room_steps-sound x.factor.n x.limit lengths (passed_back lows rooms later) in
      record {
        small = B.small;
        few = B.few;
        factor = stored_steps-sound x.factor passed.1.0;
        finite = stored_steps_finite x.factor passed.1.0;
        requests = requested_ranged x.request_rows x.request_columns x.factor.n ldl_requests;
        diagonals = pivot_steps-sound x.factor.n x.pivots passed.1.1.0 (passed_front lows rooms later);
        starts_room = room.starts_room;
        rows_room = room.rows_room;
        values_room = room.values_room;
        scratch_room = room.scratch_room;
      }
