-- A call with more stored entries than the bound, which no limit is computed for.
-- Assumes nothing.
use Prim.Native.Nat.{◌<◌}
use mathlib.Core.Path.{◌≡◌, refl}
use mathlib.Core.Bool.{Bool, true, false}
use mathlib.Core.List.{List}
use lib.ListN.{length}
use lib.Dec.{ltb}
use lib.Ieee.{Float}
use borrow.Author.Tests.{lt-ltb}
use Rattle.refusal.specs.Bounds.{max_dimension, max_entries}
use Rattle.refusal.specs.Steps.{refused, verdict}
use Rattle.refusal.proofs.Steps.{append-refused, first_hit, first_skip}
use Rattle.refusal.specs.declared.Refusal.TheVariants.{TooLarge}
use Rattle.columns.specs.Columns.{bound_steps}
use Rattle.columns.specs.Stored.{stored_steps, factor_steps}
use Rattle.selection.specs.Selection.{Lent}
use Rattle.original_diagonal_with_limit.specs.Original.{original_steps}
use Rattle.original_diagonal_with_limit.proofs.Reply.{original_refused}
use Rattle.original_diagonal.specs.Original.{OriginalCall, OriginalDiagonal, with_default}
use Rattle.std.specs.Prelude.{Err}

pub too_many : (x : OriginalCall) (lent : Lent) (output : List Float) → max_entries < length x.factor.rows → OriginalDiagonal x lent output (Err TooLarge) lent output
unfolding original_steps factor_steps bound_steps
too_many x lent output h =
    original_refused (with_default x) lent output
    (append-refused (factor_steps x.factor) _ 1 tt
    (append-refused (bound_steps x.factor.n (length x.factor.rows)) (stored_steps x.factor) 1 tt (go (ltb max_dimension x.factor.n) refl)))
  where
    go : (b : Bool) → ltb max_dimension x.factor.n ≡ b → verdict (bound_steps x.factor.n (length x.factor.rows)) ≡ refused 1
    go true e = first_hit 1 _ _ e
    go false e = first_skip 1 _ _ e (first_hit 1 _ _ (lt-ltb max_entries (length x.factor.rows) h))
