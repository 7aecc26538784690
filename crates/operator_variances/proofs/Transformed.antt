-- Laws of specs/Transformed.antt.
use Rattle.std.specs.Prelude.{ℕ}
use Rattle.refusal.specs.Steps.{Passed}
use Rattle.selection.specs.Selection.{Room}
use Rattle.operator_variances_with_limit.specs.Transformed as general
use Rattle.operator_variances.specs.Transformed.{TransformedCall, with_default, transformed_steps, AcceptedTransformed}

pub transformed_accepted : (x : TransformedCall) (lengths : Room) (output : ℕ) → Passed (transformed_steps x lengths output) → AcceptedTransformed x lengths output
transformed_accepted x = general.transformed_accepted (with_default x)
