-- What the choice between the two routes asks, and that either route gives the same entries.
-- Assumes nothing.
use Rattle.std.specs.Prelude.{ℕ, ◌+◌, ◌≡◌, List, take, Float}
use Rattle.pairs.specs.ColumnOrder.{column_marking, set_size}
use Rattle.columns.specs.Form.{Form, kept_pairs, Divisors}
use Rattle.entries.specs.Entries.{entry_starts, entry_rows}
use Rattle.closure_route.specs.Route.{route_lists, ClosureRouteInput}

-- the closure route's input with the counts of kept and of marked pairs, and the result laid out over the marked set
pub record RoutesInput (form : Form) (n : ℕ) (starts rows : List ℕ) (values : List Float) (kept closed : ℕ) (firsts listed scratch : List ℕ) (size : ℕ) : Type 0 where
  pub route : ClosureRouteInput (route_lists n starts rows values firsts listed scratch) size
  pub divisors : Divisors n starts rows values form
  pub kept_is : kept ≡ kept_pairs n starts rows values form
  pub closed_is : closed ≡ set_size n (column_marking n scratch)
  pub starts_laid : take (n + 1) firsts ≡ entry_starts n (column_marking n scratch)
  pub rows_laid : take (set_size n (column_marking n scratch)) listed ≡ entry_rows n (column_marking n scratch)
