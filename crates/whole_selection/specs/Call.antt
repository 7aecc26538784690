-- Selected entries in whole numbers: what a call is handed, what it refuses in document 02's order, what it answers, and what the lists hold afterwards.
-- Assumes nothing.
use Rattle.std.specs.Prelude.{ℕ, min, ◌≡◌, Bool, ◌&&◌, List, [], ◌∷◌, ◌++◌, ltb, leb, length, ℤ, pos, Result}
use Rattle.lists.specs.Overwrite.{filled}
use Rattle.refusal.specs.Steps.{Step, first, after}
use Rattle.refusal.specs.Groups.{grouped}
use Rattle.pairs.specs.Pair.{pair_total}
use Rattle.columns.specs.Columns.{FactorLists, factor_lists, bound_steps, column_steps}
use Rattle.columns.specs.Kept.{factor_pairs}
use Rattle.columns.specs.WholeFactor.{whole_nonzero, whole_one, whole_pattern}
use Rattle.columns.specs.UnitDiagonals.{unit_steps, missing_steps}
use Rattle.closed_set.specs.ClosedSet.{member}
use Rattle.closed_set.specs.Size.{closure_size}
use Rattle.closed_set.specs.Requests.{requested}
use Rattle.diagnostics.specs.declared.SelectedInverseDiagnostics.{SelectedInverseDiagnostics}
use Rattle.entries.specs.WholeTable.{whole_table, exceeds}
use Rattle.selection.specs.RequestSteps.{request_bound_steps, request_steps}
use Rattle.selection.specs.Diagnosis.{diagnosis_of}
use Rattle.selection.specs.Selection.{LentOf, lists, Room, room, room_of, room_steps, Filling, ListsAfter}
use Rattle.refusal.specs.declared.Refusal.{Refusal}
use Rattle.refusal.specs.Refusal.{reply_of}

-- what a call is handed to read: a factor of whole numbers, two lists of requests with their dimension, and a limit
pub record WholeCall : Type 0 where
  pub factor : FactorLists ℤ
  pub dimension : ℕ
  pub request_rows : List ℕ
  pub request_columns : List ℕ
  pub limit : ℕ

-- the lists lent for writing, before a call or after it: result lists, scratch and work list
pub record WholeLent : Type 0 where
  pub lists : LentOf ℤ
  pub work : List ℤ

-- their lengths
pub record WholeRoom : Type 0 where
  pub lists : Room
  pub work : ℕ

-- calls, lists and lengths, from a function's parameters in their order
abbrev pub whole_call : ℕ → List ℕ → List ℕ → List ℤ → ℕ → List ℕ → List ℕ → ℕ → WholeCall
whole_call n starts rows values dimension request_rows request_columns limit = record {
  factor = factor_lists n starts rows values;
  dimension = dimension;
  request_rows = request_rows;
  request_columns = request_columns;
  limit = limit;
}

abbrev pub whole_lent : List ℕ → List ℕ → List ℤ → List ℕ → List ℤ → WholeLent
whole_lent result_starts result_rows result_values scratch work = record { lists = lists result_starts result_rows result_values scratch; work = work }

abbrev pub whole_room : ℕ → ℕ → ℕ → ℕ → ℕ → WholeRoom
whole_room result_starts result_rows result_values scratch work = record { lists = room result_starts result_rows result_values scratch; work = work }

-- the lengths of lists
abbrev pub whole_room_of : WholeLent → WholeRoom
whole_room_of lent = record { lists = room_of lent.lists; work = length lent.work }

-- how many places of the work list a call uses
abbrev pub work_places : ℕ → ℕ → ℕ
work_places n limit = min limit (pair_total n)

-- 7: a work list that is too short
unfoldable pub work_steps : ℕ → ℕ → ℕ → List Step
work_steps n limit work = (7, ltb work (work_places n limit)) ∷ []

-- 19 and 6: a kept diagonal other than 1, in any column; then a column without one
abbrev pub diagonal_checks : FactorLists ℤ → List Step
diagonal_checks f =
    unit_steps 19 f.n f.starts f.rows (whole_nonzero f.values) (whole_one f.values)
    ++ missing_steps f.n f.starts f.rows (whole_nonzero f.values)

module _ (x : WholeCall) where
  abbrev pub whole_requests : ℕ → ℕ → Bool
  whole_requests = requested x.request_rows x.request_columns

  -- the descendants of each column
  abbrev pub whole_descendants : ℕ → List ℕ
  whole_descendants = whole_pattern x.factor.starts x.factor.rows x.factor.values

  -- the closed set of the requested pairs
  abbrev pub whole_set : ℕ → ℕ → Bool
  whole_set = member x.factor.n whole_descendants whole_requests

  -- how many pairs it has
  abbrev pub whole_size : ℕ
  whole_size = closure_size x.factor.n whole_descendants whole_requests

  -- it is within the limit
  abbrev pub whole_complete : Bool
  whole_complete = leb whole_size x.limit

  -- the diagnosis
  abbrev pub whole_answer : SelectedInverseDiagnostics
  whole_answer =
      diagnosis_of x.factor.n whole_descendants (factor_pairs x.factor.starts x.factor.rows (whole_nonzero x.factor.values) x.factor.n) whole_requests x.limit

  -- what fills the result lists: the set, and the exact recurrence
  abbrev pub whole_filling : Filling ℤ
  whole_filling = record {
    n = x.factor.n;
    set = whole_set;
    complete = whole_complete;
    table = whole_table x.factor.n x.factor.starts x.factor.rows x.factor.values;
  }

  -- refusals 1 to 5, 19, 6 and 7
  abbrev pub check_groups : WholeRoom → List (List Step)
  check_groups lengths =
      (bound_steps x.factor.n (length x.factor.rows) ++ request_bound_steps (length x.request_rows))
      ∷ column_steps x.factor.n x.factor.starts x.factor.rows (length x.factor.values)
      ∷ request_steps x.factor.n x.dimension x.request_rows x.request_columns
      ∷ diagonal_checks x.factor
      ∷ room_steps x.factor.n x.limit lengths.lists
      ∷ work_steps x.factor.n x.limit lengths.work
      ∷ []

  unfoldable pub check_steps : WholeRoom → List Step
  check_steps lengths = grouped (check_groups lengths)

  -- 20: the set is within the limit, and a kept entry, or a product, running sum or entry of the exact recurrence over it, exceeds 2 ^ 53
  unfoldable pub exceed_steps : List Step
  exceed_steps = (20, whole_complete && exceeds x.factor.n x.factor.starts x.factor.rows x.factor.values whole_set) ∷ []

  -- all refusals, 20 last
  abbrev pub whole_steps : WholeRoom → List Step
  whole_steps lengths = check_steps lengths ++ exceed_steps

-- the work list, whose first places end 0
abbrev pub cleared_work : WholeCall → WholeLent → List ℤ
cleared_work x lent = filled (λ _. pos 0) (work_places x.factor.n x.limit) lent.work

-- the reply and the lists of a call. Every refusal leaves the result lists as they were; 1 to 7 and 19 leave scratch and work list too, which end 0 in their
-- lengths after either status and after 20
pub record WholeEntries (x : WholeCall) (lent : WholeLent) (reply : Result SelectedInverseDiagnostics Refusal) (left : WholeLent) : Type 0 where
  pub replies : reply_of reply ≡ first (whole_steps x (whole_room_of lent)) (whole_answer x)
  pub lists_are : ListsAfter (whole_steps x (whole_room_of lent)) (check_steps x (whole_room_of lent)) (whole_filling x) lent.lists left.lists
  pub work_is : left.work ≡ after (check_steps x (whole_room_of lent)) (cleared_work x lent) lent.work
