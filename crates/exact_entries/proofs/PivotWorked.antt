-- Laws of specs/PivotWorked.antt.
use Rattle.std.specs.Prelude.{ℕ, ◌<◌, ◌≡◌, refl, true, false, List, [], ◌∷◌, ℤ, pos, negsuc, neg_ℤ, ◌-ℤ◌, ◌*ℤ◌, Float}
use Rattle.std.proofs.Common.{lt_irrefl, lit≤, lit<}
use Rattle.std.specs.Float.{fin}
use Rattle.std.specs.Float.Ieee.{of_bits, of_int, ne, le, add, sub, mul, div, neg}
use Rattle.std.specs.Float.Ieee.Scale.{finite}
use Rattle.lists.specs.Test.{any}
use Rattle.lists.specs.Select.{select, picked}
use Rattle.lists.specs.Sum.{sum_to}
use Rattle.lists.specs.Cells.{cell_count}
use Rattle.refusal.specs.Steps.{Step, answered, Passed}
use Rattle.columns.specs.Columns.{value, factor_lists}
use Rattle.columns.specs.Kept.{f0, nonzero, desc}
use Rattle.columns.specs.Form.{pivoted, Pivots}
use Rattle.columns.specs.Examples.{f2_starts, f2_rows, f2_values}
use Rattle.integers.specs.Matrix.{Matrix, identity, transpose, product}
use Rattle.integers.specs.PivotInverse.{columns_by, PivotInverse}
use Rattle.takahashi.specs.Recurrence.{dot, at, Lower}
use Rattle.exact.specs.Multiple.{Multiple, Small}
use Rattle.exact.specs.Exact.{integers, Alike, Products, RunningSums, Kept}
use Rattle.exact.specs.Factor.{factor}
use Rattle.exact.specs.PivotMultiples.{PivotRecurs, PivotBounded}
use Rattle.exact.proofs.Examples.{columns₂, pairs₂}
use Rattle.closed_set.specs.ClosedSet.{reach, member, request, dependency}
use Rattle.closed_set.proofs.ClosedSet.{needed_range}
use Rattle.closed_set.specs.Requests.{requested}
use Rattle.closed_set.proofs.FactorPattern.{factor_pattern}
use Rattle.entries.specs.Entries.{pivot_table}
use Rattle.diagnostics.specs.declared.SelectedInverseStatus.TheVariants.{Complete}
use Rattle.selection.specs.Selection.{Selection, selecting, selected_answer, selected_table, Lent, room_of, Accepted, ResultLists, filling_of}
use Rattle.exact_entries.specs.Recurrence.{InClosedSet, found}
use Rattle.exact_entries.specs.DyadicEntries.{ReadsMultiples}
use Rattle.exact_entries.specs.PivotEntries.{DyadicPivots}
use Rattle.exact_entries.proofs.PivotEntries.{pivots_inverse, pivots_entries}
use Rattle.exact_entries.specs.Worked.{f2_lent}
use Rattle.exact_entries.proofs.Worked.{f2_accepted}
use Rattle.exact_entries.specs.PivotWorked.{two-four, quarters_pivots, quarters_entries, quarters-z, quarters_matrix, unit_factor_lem}

abbrev quarters : Selection
quarters = selecting (pivoted two-four) (factor_lists 2 f2_starts f2_rows f2_values) (requested (0 ∷ []) (0 ∷ [])) 3

two-four_pivots : Pivots 2 two-four
unfolding of_int of_bits le
two-four_pivots = record {
  long = refl;
  finite_pivot = columns₂ (λ c. finite (value two-four c) ≡ true) refl refl;
  positive = columns₂ (λ c. le (value two-four c) f0 ≡ false) refl refl;
}

quarters_accepted : Accepted quarters (room_of f2_lent)
quarters_accepted =
    let A = f2_accepted in
    record {
      small = A.small;
      few = A.few;
      factor = A.factor;
      finite = A.finite;
      requests = A.requests;
      diagonals = two-four_pivots;
      starts_room = A.starts_room;
      rows_room = A.rows_room;
      values_room = A.values_room;
      scratch_room = A.scratch_room;
    }

recurs : PivotRecurs (pos 4) quarters_pivots quarters_entries (Lower 2) quarters-z
recurs = record {
  below_is =
      pairs₂ (λ i j. j < i → quarters-z i j *ℤ pos 4 ≡ neg_ℤ (dot integers (λ k. at quarters-z i k) (quarters_entries j)))
      (λ h. absurd (lt_irrefl 0 h)) (λ h. refl) (λ h. absurd (lt_irrefl 1 h));
  diagonal_is = λ j p.
      columns₂
      (λ j. quarters-z j j *ℤ pos 4 *ℤ quarters_pivots j ≡ pos 64 -ℤ dot integers (λ k. quarters-z k j) (quarters_entries j) *ℤ quarters_pivots j)
      refl refl j p.1;
}

-- the products and sums 2 / 4 and -4 / 4; 1 / d is 2 / 4 and 1 / 4
bounded : PivotBounded 2 quarters_pivots quarters_entries (Lower 2) quarters-z
bounded = record {
  entry = pairs₂ (λ i j. Small (quarters-z i j)) (lit≤ tt) (lit≤ tt) (lit≤ tt);
  sums = record {
    product_below =
        pairs₂ (λ i j. j < i → Products (Kept 2) (λ k. at quarters-z i k) (quarters_entries j))
        (λ h. absurd (lt_irrefl 0 h)) (λ h. ((pos 2, refl, lit≤ tt), tt)) (λ h. tt);
    sum_below =
        pairs₂ (λ i j. j < i → RunningSums (Kept 2) (λ k. at quarters-z i k) (pos 0) (quarters_entries j))
        (λ h. absurd (lt_irrefl 0 h)) (λ h. ((pos 2, refl, lit≤ tt), tt)) (λ h. tt);
    product_diagonal = λ j p. columns₂ (λ j. Products (Kept 2) (λ k. quarters-z k j) (quarters_entries j)) ((negsuc 3, refl, lit≤ tt), tt) tt j p.1;
    sum_diagonal = λ j p. columns₂ (λ j. RunningSums (Kept 2) (λ k. quarters-z k j) (pos 0) (quarters_entries j)) ((negsuc 3, refl, lit≤ tt), tt) tt j p.1;
  };
  reciprocal = λ j p. columns₂ (λ j. (r : ℤ) × (r *ℤ quarters_pivots j ≡ pos 16) × Small r) (pos 2, refl, lit≤ tt) (pos 1, refl, lit≤ tt) j p.1;
}

pivots_are_two-four : (j : ℕ) → j < 2 → Multiple 2 (value two-four j) (quarters_pivots j)
unfolding of_int
pivots_are_two-four = columns₂ (λ j. Multiple 2 (value two-four j) (quarters_pivots j)) refl refl

entries_are_two : (j : ℕ) → j < 2 → Alike 2 (desc f2_starts f2_rows f2_values j) (quarters_entries j)
unfolding select picked of_bits of_int ne
entries_are_two = columns₂ (λ j. Alike 2 (desc f2_starts f2_rows f2_values j) (quarters_entries j)) (refl, refl, tt) tt

lower_pair : (i j : ℕ) → InClosedSet quarters i j → Lower 2 i j
lower_pair i j p = needed_range _ _ 2 (factor_pattern (nonzero f2_values) quarters_accepted.factor) quarters_accepted.requests p

-- the hypotheses, with s = 2
pub quarters_dyadic : DyadicPivots quarters two-four 2 quarters_pivots quarters_entries quarters-z
quarters_dyadic = record {
  form_is = refl;
  scale = lit≤ tt;
  pivots_are = pivots_are_two-four;
  entries = entries_are_two;
  recurs = record {
    below_is = λ i j p ji. recurs.below_is i j (lower_pair i j p) ji;
    diagonal_is = λ j p. recurs.diagonal_is j (lower_pair j j p);
  };
  bounded = record {
    entry = λ i j p. bounded.entry i j (lower_pair i j p);
    sums = record {
      product_below = λ i j p ji. bounded.sums.product_below i j (lower_pair i j p) ji;
      sum_below = λ i j p ji. bounded.sums.sum_below i j (lower_pair i j p) ji;
      product_diagonal = λ j p. bounded.sums.product_diagonal j (lower_pair j j p);
      sum_diagonal = λ j p. bounded.sums.sum_diagonal j (lower_pair j j p);
    };
    reciprocal = λ j p. bounded.reciprocal j (lower_pair j j p);
  };
}

abbrev Inverts : ℕ → ℕ → Type 0
Inverts i j = product 2 (product 2 (columns_by quarters_pivots unit_factor_lem) (transpose unit_factor_lem)) quarters_matrix i j ≡ pos 256 *ℤ identity i j

pub quarters-inverse : PivotInverse 2 (pos 4) quarters_pivots unit_factor_lem quarters_matrix 4
quarters-inverse = record {
  positive = lit< tt;
  product_is = λ i j h l. columns₂ (λ i. (j : ℕ) → j < 2 → Inverts i j) (columns₂ (Inverts 0) refl refl) (columns₂ (Inverts 1) refl refl) i h j l;
}

-- `pivots_inverse`: there is one
quarters_has_inverse : (P : Matrix) × (Q : ℕ) × PivotInverse 2 (pos 4) quarters_pivots unit_factor_lem P Q
quarters_has_inverse = pivots_inverse quarters f2_lent quarters_accepted two-four 2 quarters_pivots quarters_entries quarters-z quarters_dyadic

-- ---- f64's table: 3 / 2, -1 / 2 and 1 / 4
quarters_table : selected_table quarters 0 0 ∷ selected_table quarters 1 0 ∷ selected_table quarters 1 1 ∷ []
    ≡ fin false 3 (negsuc 0) ∷ fin true 1 (negsuc 0) ∷ fin false 1 (negsuc 1) ∷ []
unfolding picked select of_int of_bits ne add sub mul div neg pivot_table
quarters_table = refl

-- `pivots_entries`: after every call of it whose steps pass the inverse over 4 is what reads back, so at (1, 0) a number equal to -2 / 4
quarters_first : InClosedSet quarters 0 0
unfolding any requested
quarters_first = request refl

quarters_below : InClosedSet quarters 1 0
unfolding any select picked of_bits of_int ne
quarters_below = dependency 1 quarters_first refl

module _ (steps : List Step) (passed : Passed steps) {left : Lent} (L : ResultLists steps (filling_of quarters) f2_lent left) where
  quarters_reads : ReadsMultiples quarters left 2 quarters-z quarters_matrix 4
  quarters_reads =
      pivots_entries quarters f2_lent quarters_accepted two-four 2 quarters_pivots quarters_entries quarters-z quarters_dyadic quarters_matrix 4 quarters-inverse steps passed L

  quarters_complete : (selected_answer quarters).status ≡ Complete
  unfolding any sum_to picked select cell_count of_int of_bits ne reach member requested
  quarters_complete = quarters_reads.complete.1 (lit≤ tt)

  quarters_reads_below : (v : Float) × (found quarters left 1 0 ≡ answered v) × Multiple 2 v (negsuc 1) × (negsuc 1 *ℤ pos 4 ≡ pos 4 *ℤ negsuc 1)
  quarters_reads_below = quarters_reads.members quarters_complete 1 0 quarters_below
