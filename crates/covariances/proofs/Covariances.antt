-- Laws of specs/Covariances.antt.
use Rattle.std.specs.Prelude.{ℕ}
use Rattle.refusal.specs.Steps.{Passed}
use Rattle.selection.specs.Selection.{Room}
use Rattle.covariances_with_limit.specs.Covariances as general
use Rattle.covariances.specs.Covariances.{CovarianceCall, with_default, covariance_steps, AcceptedCovariances}

pub covariance_accepted : (x : CovarianceCall) (lengths : Room) (output : ℕ) → Passed (covariance_steps x lengths output) → AcceptedCovariances x lengths output
covariance_accepted x = general.covariance_accepted (with_default x)
