-- Selected entries of the inverse for a factor, a set of requested pairs and a limit: what is answered, and what the lists hold afterwards.
-- Every call that fills result lists is said in these words.
-- Assumes nothing.
use Rattle.std.specs.Prelude.{ℕ, ◌+◌, ◌*◌, ◌≤◌, min, ◌≡◌, Bool, cond, List, [], ◌∷◌, ◌++◌, ltb, leb, length, Float}
use Rattle.lists.specs.Overwrite.{overwrite, cleared}
use Rattle.refusal.specs.Bounds.{max_dimension, max_entries}
use Rattle.refusal.specs.Steps.{Step, after}
use Rattle.pairs.specs.Pair.{pair_total}
pub use Rattle.pairs.specs.Scratch.{scratch_words}
use Rattle.columns.specs.Columns.{FactorLists}
use Rattle.columns.specs.Kept.{nonzero, pattern}
use Rattle.columns.specs.Factor.{Factor}
use Rattle.columns.specs.Stored.{FiniteEntries}
use Rattle.columns.specs.Diagonal.{diagonal_steps}
use Rattle.columns.specs.Form.{Form, cholesky, kept_pairs, Divisors}
use Rattle.closed_set.specs.ClosedSet.{member, Ranged}
use Rattle.closed_set.specs.Size.{closure_size}
use Rattle.diagnostics.specs.declared.SelectedInverseDiagnostics.{SelectedInverseDiagnostics}
use Rattle.selection.specs.Diagnosis.{diagnosis_of}
use Rattle.entries.specs.Entries.{entry_starts, entry_rows, entry_values, form_table}

-- a factor and how it is given, the set of requested pairs, and a limit
pub record Selection : Type 0 where
  pub form : Form
  pub factor : FactorLists Float
  pub requests : ℕ → ℕ → Bool
  pub limit : ℕ

-- the lists lent for writing, with result values of any kind, before a call or after it
pub record LentOf (W : Type 0) : Type 0 where
  pub result_starts : List ℕ
  pub result_rows : List ℕ
  pub result_values : List W
  pub scratch : List ℕ

-- with floats
abbrev pub Lent : Type 0
Lent = LentOf Float

-- their lengths
pub record Room : Type 0 where
  pub result_starts : ℕ
  pub result_rows : ℕ
  pub result_values : ℕ
  pub scratch : ℕ

-- lengths and lists, from a function's parameters in their order
abbrev pub room : ℕ → ℕ → ℕ → ℕ → Room
room result_starts result_rows result_values scratch = record { result_starts = result_starts; result_rows = result_rows; result_values = result_values; scratch = scratch }

abbrev pub lists : {W : Type 0} → List ℕ → List ℕ → List W → List ℕ → LentOf W
lists result_starts result_rows result_values scratch = record { result_starts = result_starts; result_rows = result_rows; result_values = result_values; scratch = scratch }

abbrev pub selecting : Form → FactorLists Float → (ℕ → ℕ → Bool) → ℕ → Selection
selecting form factor requests limit = record { form = form; factor = factor; requests = requests; limit = limit }

-- of a factor L with L * Lᵀ
abbrev pub selection : FactorLists Float → (ℕ → ℕ → Bool) → ℕ → Selection
selection = selecting cholesky

-- the same factor, requests and limit, with L * Lᵀ
abbrev pub cholesky_of : Selection → Selection
cholesky_of y = selection y.factor y.requests y.limit

-- the lengths of lists
abbrev pub room_of : {W : Type 0} → LentOf W → Room
room_of lent = record {
  result_starts = length lent.result_starts;
  result_rows = length lent.result_rows;
  result_values = length lent.result_values;
  scratch = length lent.scratch;
}

-- how many times the stored entries the default limit is
abbrev pub limit_factor : ℕ
limit_factor = 10

-- the default limit: the stored entries, dropped ones counted, times that
abbrev pub default_limit : List ℕ → ℕ
default_limit rows = limit_factor * length rows

-- 7: result starts below n + 1, result rows or values below min(limit, T), or scratch too short
unfoldable pub room_steps : ℕ → ℕ → Room → List Step
room_steps n limit lengths =
    (7, ltb lengths.result_starts (n + 1))
    ∷ (7, ltb lengths.result_rows (min limit (pair_total n)))
    ∷ (7, ltb lengths.result_values (min limit (pair_total n)))
    ∷ (7, ltb lengths.scratch (scratch_words n))
    ∷ []

-- what filling result lists asks: 6, then 7
abbrev pub fill_steps : FactorLists Float → ℕ → Room → List Step
fill_steps f limit lengths = diagonal_steps f ++ room_steps f.n limit lengths

module _ (x : Selection) where
  -- the descendants of each column
  abbrev pub selected_pattern : ℕ → List ℕ
  selected_pattern = pattern x.factor.starts x.factor.rows (nonzero x.factor.values)

  -- the closed set of the requested pairs
  abbrev pub selected_set : ℕ → ℕ → Bool
  selected_set = member x.factor.n selected_pattern x.requests

  -- how many pairs it has
  abbrev pub selected_size : ℕ
  selected_size = closure_size x.factor.n selected_pattern x.requests

  -- it is within the limit
  abbrev pub selected_complete : Bool
  selected_complete = leb selected_size x.limit

  -- the diagnosis
  abbrev pub selected_answer : SelectedInverseDiagnostics
  selected_answer =
      diagnosis_of x.factor.n selected_pattern (kept_pairs x.factor.n x.factor.starts x.factor.rows x.factor.values x.form) x.requests x.limit

  -- the values: Takahashi's recurrence in f64
  abbrev pub selected_table : ℕ → ℕ → Float
  selected_table = form_table x.form x.factor.n x.factor.starts x.factor.rows x.factor.values

-- ---- the lists after a call

-- what fills result lists: a set of pairs in n columns, whether it is within the limit, and a table of entries of any kind
pub record Filling (W : Type 0) : Type 0 where
  pub n : ℕ
  pub set : ℕ → ℕ → Bool
  pub complete : Bool
  pub table : ℕ → ℕ → W

module _ {W : Type 0} (f : Filling W) (lent : LentOf W) where
  -- the result lists, written where the set is within the limit
  abbrev pub filled_starts : List ℕ
  filled_starts = cond f.complete (overwrite (entry_starts f.n f.set) lent.result_starts) lent.result_starts

  abbrev pub filled_rows : List ℕ
  filled_rows = cond f.complete (overwrite (entry_rows f.n f.set) lent.result_rows) lent.result_rows

  abbrev pub filled_values : List W
  filled_values = cond f.complete (overwrite (entry_values f.n f.set f.table) lent.result_values) lent.result_values

  -- the scratch, whose first words end 0
  abbrev pub cleared_scratch : List ℕ
  cleared_scratch = cleared (scratch_words f.n) lent.scratch

-- the lists that a call leaves: as they were where one of these refusals holds, else the result lists written; and the scratch as it was where one of those
-- that leave it holds, else its first words 0
pub record ListsAfter {W : Type 0} (steps leaving : List Step) (f : Filling W) (lent left : LentOf W) : Type 0 where
  pub starts_are : left.result_starts ≡ after steps (filled_starts f lent) lent.result_starts
  pub rows_are : left.result_rows ≡ after steps (filled_rows f lent) lent.result_rows
  pub values_are : left.result_values ≡ after steps (filled_values f lent) lent.result_values
  pub scratch_is : left.scratch ≡ after leaving (cleared_scratch f lent) lent.scratch

-- every refusal leaves the scratch too
abbrev pub ResultLists : {W : Type 0} → List Step → Filling W → LentOf W → LentOf W → Type 0
ResultLists steps = ListsAfter steps steps

-- of a selection: its closed set, and the recurrence's table
abbrev pub filling_of : Selection → Filling Float
filling_of x = record { n = x.factor.n; set = selected_set x; complete = selected_complete x; table = selected_table x }

-- what a call has that passed its checks
pub record Accepted (x : Selection) (lengths : Room) : Type 0 where
  pub small : x.factor.n ≤ max_dimension
  pub few : length x.factor.rows ≤ max_entries
  pub factor : Factor x.factor.n x.factor.starts x.factor.rows (length x.factor.values)
  pub finite : FiniteEntries x.factor.n x.factor.starts x.factor.rows x.factor.values
  pub requests : Ranged x.factor.n x.requests
  pub diagonals : Divisors x.factor.n x.factor.starts x.factor.rows x.factor.values x.form
  pub starts_room : x.factor.n + 1 ≤ lengths.result_starts
  pub rows_room : min x.limit (pair_total x.factor.n) ≤ lengths.result_rows
  pub values_room : min x.limit (pair_total x.factor.n) ≤ lengths.result_values
  pub scratch_room : scratch_words x.factor.n ≤ lengths.scratch
