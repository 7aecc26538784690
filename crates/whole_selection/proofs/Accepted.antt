-- Laws of specs/Accepted.antt.
use Rattle.std.specs.Prelude.{length}
use borrow.Author.Tests.{ltb-false}
use Rattle.refusal.specs.Steps.{Passed}
use Rattle.refusal.proofs.Steps.{passed_clear, passed_front, passed_back}
use Rattle.refusal.specs.Groups.{AllPassed}
use Rattle.refusal.proofs.Groups.{groups_passed}
use Rattle.columns.specs.Columns.{bound_steps}
use Rattle.columns.proofs.Factor.{bound_steps-sound, column_steps-sound}
use Rattle.columns.specs.WholeFactor.{whole_nonzero, whole_one}
use Rattle.columns.specs.UnitDiagonals.{unit_steps, missing_steps}
use Rattle.columns.proofs.UnitDiagonals.{units_sound}
use Rattle.closed_set.proofs.Requests.{requested_ranged}
use Rattle.selection.specs.RequestSteps.{request_bound_steps}
use Rattle.selection.proofs.RequestSteps.{request_steps-sound}
use Rattle.selection.proofs.Call.{room_steps-sound}
use Rattle.whole_selection.specs.Call.{WholeCall, WholeRoom, work_steps, check_groups, check_steps}
use Rattle.whole_selection.specs.Accepted.{WholeAccepted}

module _ (x : WholeCall) (lengths : WholeRoom) (p : Passed (check_steps x lengths)) where
  pub checks_passed : AllPassed (check_groups x lengths)
  unfolding check_steps
  checks_passed = groups_passed (check_groups x lengths) p

  pub whole_accepted : WholeAccepted x lengths
  unfolding work_steps
  whole_accepted =
      let f = x.factor in
      let bounds = bound_steps f.n (length f.rows) in
      let B = bound_steps-sound f.n (length f.rows) (passed_front bounds (request_bound_steps (length x.request_rows)) checks_passed.0) in
      let F = column_steps-sound f.n f.starts f.rows (length f.values) checks_passed.1.0 in
      let Q = request_steps-sound f.n x.dimension x.request_rows x.request_columns checks_passed.1.1.0 in
      let nz = whole_nonzero f.values in
      let one = whole_one f.values in
      let units = unit_steps 19 f.n f.starts f.rows nz one in
      let missing = missing_steps f.n f.starts f.rows nz in
      record {
        small = B.small;
        factor = F;
        asked = Q;
        requests = requested_ranged x.request_rows x.request_columns f.n Q;
        units =
            units_sound f.n f.starts f.rows nz one 19 F.rows_ascend (passed_front units missing checks_passed.1.1.1.0)
            (passed_back units missing checks_passed.1.1.1.0);
        room = room_steps-sound f.n x.limit lengths.lists checks_passed.1.1.1.1.0;
        work_room = ltb-false _ _ (passed_clear _ checks_passed.1.1.1.1.1.0).0;
      }
