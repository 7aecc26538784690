-- The diagonal of the inverse in original order: what a call is handed, what it refuses in its order, what it answers and leaves. All is as of a call that gives
-- the default limit.
-- Assumes nothing.
use Rattle.std.specs.Prelude.{ℕ, ◌<◌, List, Float, Result}
use Rattle.refusal.specs.Steps.{Step, Passed}
use Rattle.columns.specs.Columns.{FactorLists, factor_lists}
use Rattle.factor_order.specs.Permutation.{index}
use Rattle.diagnostics.specs.declared.SelectedInverseDiagnostics.{SelectedInverseDiagnostics}
use Rattle.selection.specs.Selection.{Selection, Lent, Room, default_limit}
use Rattle.refusal.specs.declared.Refusal.{Refusal}
use Rattle.original_diagonal_with_limit.specs.Original as general

-- what a call is handed to read: a factor and a permutation, orig_to_perm
pub record OriginalCall : Type 0 where
  pub factor : FactorLists Float
  pub perm : List ℕ

-- a call, from a function's parameters in their order
abbrev pub original_call : ℕ → List ℕ → List ℕ → List Float → List ℕ → OriginalCall
original_call n starts rows values perm = record { factor = factor_lists n starts rows values; perm = perm }

-- the same call with the default limit
abbrev pub with_default : OriginalCall → general.OriginalCall
with_default x = record { factor = x.factor; perm = x.perm; limit = default_limit x.factor.rows }

module _ (x : OriginalCall) where
  -- the requests are all diagonals, the limit is the default one
  abbrev pub original_selection : Selection
  original_selection = general.original_selection (with_default x)

  abbrev pub original_steps : Room → ℕ → List Step
  original_steps = general.original_steps (with_default x)

  -- then 8: the default limit is passed
  abbrev pub covered_steps : Room → ℕ → List Step
  covered_steps = general.covered_steps (with_default x)

  -- the output afterwards: output i is the diagonal at orig_to_perm i
  abbrev pub original_after : Lent → List Float → List Float
  original_after = general.original_after (with_default x)

-- the reply and the lists of a call
abbrev pub OriginalDiagonal : OriginalCall → Lent → List Float → Result SelectedInverseDiagnostics Refusal → Lent → List Float → Type 0
OriginalDiagonal x = general.OriginalDiagonal (with_default x)

-- ---- a call that passed

-- what it has
abbrev pub AcceptedOriginal : OriginalCall → Room → ℕ → Type 0
AcceptedOriginal x = general.AcceptedOriginal (with_default x)

pub original_accepted : (x : OriginalCall) (lengths : Room) (output : ℕ) → Passed (original_steps x lengths output) → AcceptedOriginal x lengths output
original_accepted x = general.original_accepted (with_default x)

-- its permutation's indices are below n
pub original_inside : {x : OriginalCall} {lengths : Room} {output : ℕ} → AcceptedOriginal x lengths output → (i : ℕ) → i < x.factor.n → index x.perm i < x.factor.n
original_inside = general.original_inside
