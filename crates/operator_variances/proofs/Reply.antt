-- A call with more stored entries than the bound, which no limit is computed for.
-- Assumes nothing.
use Prim.Native.Nat.{◌<◌}
use mathlib.Core.Path.{◌≡◌, refl}
use mathlib.Core.Bool.{Bool, true, false}
use mathlib.Core.List.{List, ◌++◌}
use lib.ListN.{length}
use lib.Dec.{ltb}
use lib.Ieee.{Float}
use borrow.Author.Tests.{lt-ltb}
use Rattle.refusal.specs.Bounds.{max_dimension, max_entries}
use Rattle.refusal.specs.Steps.{Step, refused, verdict}
use Rattle.refusal.proofs.Steps.{append-refused, first_hit, first_skip}
use Rattle.refusal.specs.declared.Refusal.TheVariants.{TooLarge}
use Rattle.columns.specs.Columns.{bound_steps}
use Rattle.columns.specs.Operator.{operator_bound_steps}
use Rattle.selection.specs.Selection.{Lent, room_of}
use Rattle.operator_values.proofs.Output.{output-refused}
use Rattle.operator_variances_with_limit.specs.Transformed as general
use Rattle.operator_variances.specs.Transformed.{TransformedCall, transformed_selection, transformed_steps, transformed_values, TransformedDiagonal}
use Rattle.std.specs.Prelude.{Err}

module _ (x : TransformedCall) (lent : Lent) (output : List Float) where
  abbrev bounds : List Step
  bounds = bound_steps x.factor.n (length x.factor.rows)

  pub too_many : max_entries < length x.factor.rows → TransformedDiagonal x lent output (Err TooLarge) lent output
  unfolding general.transformed_steps bound_steps
  too_many h =
      output-refused (transformed_steps x (room_of lent) (length output)) (transformed_selection x) (transformed_values x) lent output
      (append-refused (bounds ++ operator_bound_steps x.row_starts x.columns) _ 1 tt
      (append-refused bounds (operator_bound_steps x.row_starts x.columns) 1 tt (go (ltb max_dimension x.factor.n) refl)))
    where
      go : (b : Bool) → ltb max_dimension x.factor.n ≡ b → verdict bounds ≡ refused 1
      go true e = first_hit 1 _ _ e
      go false e = first_skip 1 _ _ e (first_hit 1 _ _ (lt-ltb max_entries (length x.factor.rows) h))
