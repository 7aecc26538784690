-- Laws of specs/RequestSteps.antt.
use Rattle.std.specs.Prelude.{ℕ, List, length}
use borrow.Author.Tests.{leb-false, eqb-true, not-false}
use Rattle.lists.specs.Test.{any_below}
use Rattle.refusal.specs.Steps.{Passed}
use Rattle.refusal.proofs.Steps.{passed_clear}
use Rattle.columns.specs.Columns.{outside_at}
use Rattle.closed_set.specs.Requests.{Requests}
use Rattle.selection.specs.RequestSteps.{request_steps}

module _ (n dimension : ℕ) (rows columns : List ℕ) (p : Passed (request_steps n dimension rows columns)) where
  -- past 4 and 5 the lists are as long as each other, and their indices below n
  pub request_steps-sound : Requests n rows columns
  unfolding request_steps
  request_steps-sound =
      let c = passed_clear (request_steps n dimension rows columns) p in
      record {
        equal = eqb-true _ _ (not-false _ c.1.0);
        rows_inside = λ k l. leb-false _ _ (any_below (outside_at n rows) (length rows) k c.1.1.0 l);
        columns_inside = λ k l. leb-false _ _ (any_below (outside_at n columns) (length columns) k c.1.1.1.0 l);
      }
