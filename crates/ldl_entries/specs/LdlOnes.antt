-- Where every pivot is 1: the entries are, bit for bit, those of L * Lᵀ of a factor with the same entries below the diagonal and ones kept on it.
-- Assumes nothing.
use Rattle.std.specs.Prelude.{ℕ, ◌<◌, ◌≡◌, List, length, pos, Float}
use Rattle.std.proofs.Common.{lt_of_le_of_lt, sym, ap, ◌∙◌}
use Rattle.columns.specs.Columns.{value}
use Rattle.columns.specs.Kept.{diag, desc}
use Rattle.columns.specs.Factor.{Factor}
use Rattle.takahashi.specs.Recurrence.{Entry, Lower, Solves, dot, at}
use Rattle.takahashi.proofs.Recurrence.{lower_closed, solves_unique}
use Rattle.exact.specs.Multiple.{Whole}
use Rattle.exact.specs.Exact.{floats}
use Rattle.exact.specs.PivotCase.{pivot_off, pivot_on}
use Rattle.entries.specs.Entries.{float_table, pivot_table}
use Rattle.entries.proofs.Descendants.{desc_rows, float_solves, pivot_solves}
use Rattle.ldl_entries.specs.DivOne.{dot_fits, off_same, on_same}

-- every pivot is 1; the other factor has the same descendants, with their values, and ones on its diagonal
pub record OnesBeside (n : ℕ) (starts rows : List ℕ) (values pivots : List Float) (starts' rows' : List ℕ) (values' : List Float) : Type 0 where
  pub pivots_one : (j : ℕ) → j < n → Whole (value pivots j) (pos 1)
  pub diagonals_one : (j : ℕ) → j < n → Whole (diag starts' rows' values' j) (pos 1)
  pub entries_same : (j : ℕ) → j < n → desc starts rows values j ≡ desc starts' rows' values' j

module _ {n : ℕ} {starts rows : List ℕ} {values pivots : List Float} {starts' rows' : List ℕ} {values' : List Float}
    (F : Factor n starts rows (length values)) (F' : Factor n starts' rows' (length values')) (O : OnesBeside n starts rows values pivots starts' rows' values') where
  abbrev Z : ℕ → ℕ → Float
  Z = float_table n starts' rows' values'

  column : {i j : ℕ} → Lower n i j → j < n
  column p = lt_of_le_of_lt p.0 p.1

  -- the other factor's table solves the recurrence with pivots
  other_solves : Solves floats pivot_off pivot_on (value pivots) (desc starts rows values) (Lower n) Z
  other_solves =
      let S = float_solves values' F' in
      record {
        below_is = λ i j p ji.
            S.below_is i j p ji
            ∙ off_same (dot floats (λ k. at Z i k) (desc starts' rows' values' j)) (diag starts' rows' values' j) (value pivots j)
            (dot_fits (λ k. at Z i k) (desc starts' rows' values' j)) (O.diagonals_one j (column p))
            ∙ ap (λ (es : List (Entry Float)). pivot_off (value pivots j) (dot floats (λ k. at Z i k) es)) (sym (O.entries_same j (column p)));
        diagonal_is = λ j p.
            S.diagonal_is j p
            ∙ on_same (dot floats (λ k. Z k j) (desc starts' rows' values' j)) (diag starts' rows' values' j) (value pivots j)
            (dot_fits (λ k. Z k j) (desc starts' rows' values' j)) (O.diagonals_one j (column p)) (O.pivots_one j (column p))
            ∙ ap (λ (es : List (Entry Float)). pivot_on (value pivots j) (dot floats (λ k. Z k j) es)) (sym (O.entries_same j (column p)));
      }

  -- so the tables agree, bit for bit, at every pair of the triangle
  pub ones_same : (i j : ℕ) → Lower n i j → pivot_table n starts rows values pivots i j ≡ Z i j
  ones_same =
      solves_unique floats pivot_off pivot_on (value pivots) (desc starts rows values) n (Lower n) (pivot_table n starts rows values pivots) Z
      (lower_closed n (desc starts rows values) (λ j jn. desc_rows values F j jn)) (pivot_solves values pivots F) other_solves
