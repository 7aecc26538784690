-- The sets of pairs that the loops over a factor's entries and an operator's terms mark, and that they are the pairs of the factor and of the operator.
-- Assumes nothing.
use Rattle.std.specs.Prelude.{ℕ, ◌+◌, ◌≤◌, ◌<◌, Bool, ◌&&◌, List, length, get_or}
use Rattle.lists.specs.Test.{any, any_in}
use Rattle.refusal.specs.Bounds.{max_dimension}
use Rattle.pairs.specs.Pair.{ordered}
use Rattle.pairs.specs.Marks.{HasMark, single}
use Rattle.columns.specs.Columns.{start, row}
use Rattle.columns.specs.Kept.{kept}

-- ---- a factor

module _ (rows : List ℕ) (nz : ℕ → Bool) where
  -- the pair of the entry at p of column c, if it is kept
  abbrev pub entry_set : ℕ → ℕ → ℕ → ℕ → Bool
  entry_set c p r c' = kept rows nz c p && single (row rows p) c r c'

  -- the pairs of the entries of column c from s to below e
  abbrev pub column_set : ℕ → ℕ → ℕ → ℕ → ℕ → Bool
  column_set c s e r c' = any_in (λ p. entry_set c p r c') s e

-- the pairs of the first m columns
abbrev pub columns_set : List ℕ → List ℕ → (ℕ → Bool) → ℕ → ℕ → ℕ → Bool
columns_set starts rows nz m r c' = any (λ c. column_set rows nz c (start starts c) (start starts (c + 1)) r c') m

-- the entry at p, if it is kept, has a mark
abbrev pub MarkEntryInput : ℕ → List ℕ → List ℕ → ℕ → Type 0
MarkEntryInput c rows marks p = (row rows p ≤ max_dimension) × (c ≤ row rows p → HasMark marks (row rows p) c)

-- what marking the entries of column c from s to below e asks
pub record MarkColumnInput (c : ℕ) (rows : List ℕ) (values s e : ℕ) (marks : List ℕ) : Type 0 where
  pub ordered : s ≤ e
  pub stored : e ≤ length rows
  pub valued : e ≤ values
  pub fits : (p : ℕ) → s ≤ p → p < e → MarkEntryInput c rows marks p

-- ---- an operator

module _ (columns : List ℕ) where
  -- the pair of the columns at a and b, put in order
  abbrev pub term_set : ℕ → ℕ → ℕ → ℕ → Bool
  term_set a b = ordered (get_or columns a 0) (get_or columns b 0)

  -- the pairs of the column at a with those from s to itself
  abbrev pub terms_set : ℕ → ℕ → ℕ → ℕ → Bool
  terms_set s a r c = any_in (λ b. term_set a b r c) s (a + 1)

  -- the pairs of the columns from s to below e
  abbrev pub row_set : ℕ → ℕ → ℕ → ℕ → Bool
  row_set s e r c = any_in (λ a. terms_set s a r c) s e

-- the pairs of the first m rows
abbrev pub rows_set : List ℕ → List ℕ → ℕ → ℕ → ℕ → Bool
rows_set row_starts columns m r c = any (λ i. row_set columns (start row_starts i) (start row_starts (i + 1)) r c) m

-- what marking the columns from s to below e asks
pub record MarkTermsInput (columns : List ℕ) (s e : ℕ) (marks : List ℕ) : Type 0 where
  pub ordered : s ≤ e
  pub stored : e ≤ length columns
  pub small : (a : ℕ) → s ≤ a → a < e → get_or columns a 0 ≤ max_dimension
  pub fits : (a b : ℕ) → s ≤ a → a < e → s ≤ b → b < e → get_or columns b 0 ≤ get_or columns a 0 → HasMark marks (get_or columns a 0) (get_or columns b 0)

-- the pair of x and y, put in order, has a mark
pub record MarkOrderedInput (x y : ℕ) (marks : List ℕ) : Type 0 where
  pub first_small : x ≤ max_dimension
  pub second_small : y ≤ max_dimension
  pub below : y ≤ x → HasMark marks x y
  pub above : x ≤ y → HasMark marks y x
