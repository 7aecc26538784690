-- Laws of specs/Writer.antt.
use Rattle.std.specs.Prelude.{ℕ, ◌≤◌, ◌<◌, List, length, get_or}
use borrow.Author.Tests.{ltb-false, leb-false, eqb-true, not-false}
use Rattle.lists.specs.Test.{any_below}
use Rattle.refusal.specs.Bounds.{max_dimension}
use Rattle.refusal.specs.Steps.{Passed}
use Rattle.refusal.proofs.Steps.{passed_clear}
use Rattle.columns.specs.Columns.{outside_at}
use Rattle.closed_set.specs.Requests.{Requests}
use Rattle.requests_writer.specs.Writer.{upper_at, some_upper, write_checks}

module _ (n : ℕ) (rows columns : List ℕ) (p : Passed (write_checks n rows columns)) where
  -- past them the lists are as long as each other, and their indices below n
  pub write_checks_requests : Requests n rows columns
  unfolding write_checks
  write_checks_requests =
      let c = passed_clear (write_checks n rows columns) p in
      record {
        equal = eqb-true _ _ (not-false _ c.1.1.0);
        rows_inside = λ k l. leb-false _ _ (any_below (outside_at n rows) (length rows) k c.1.1.1.0 l);
        columns_inside = λ k l. leb-false _ _ (any_below (outside_at n columns) (length columns) k c.1.1.1.1.0 l);
      }

  -- on or below the diagonal
  pub write_checks_below : (k : ℕ) → k < length rows → get_or columns k 0 ≤ get_or rows k 0
  unfolding write_checks some_upper
  write_checks_below k l = ltb-false _ _ (any_below (upper_at rows columns) (length rows) k (passed_clear (write_checks n rows columns) p).1.1.1.1.1.0 l)

  pub write_checks_small : n ≤ max_dimension
  unfolding write_checks
  write_checks_small = ltb-false _ _ (passed_clear (write_checks n rows columns) p).0
