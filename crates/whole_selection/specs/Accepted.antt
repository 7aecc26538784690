-- What a call in whole numbers has that passed its checks, 20 left out.
-- Assumes nothing.
use Rattle.std.specs.Prelude.{◌≤◌, length}
use Rattle.refusal.specs.Bounds.{max_dimension}
use Rattle.columns.specs.Factor.{Factor}
use Rattle.columns.specs.WholeFactor.{whole_nonzero, whole_one}
use Rattle.columns.specs.UnitDiagonals.{Units}
use Rattle.closed_set.specs.ClosedSet.{Ranged}
use Rattle.closed_set.specs.Requests.{Requests}
use Rattle.selection.specs.Call.{EnoughRoom}
use Rattle.whole_selection.specs.Call.{WholeCall, WholeRoom, work_places, whole_requests}

pub record WholeAccepted (x : WholeCall) (lengths : WholeRoom) : Type 0 where
  pub small : x.factor.n ≤ max_dimension
  pub factor : Factor x.factor.n x.factor.starts x.factor.rows (length x.factor.values)
  pub asked : Requests x.factor.n x.request_rows x.request_columns
  pub requests : Ranged x.factor.n (whole_requests x)
  pub units : Units x.factor.n x.factor.starts x.factor.rows (whole_nonzero x.factor.values) (whole_one x.factor.values)
  pub room : EnoughRoom x.factor.n x.limit lengths.lists
  pub work_room : work_places x.factor.n x.limit ≤ lengths.work
