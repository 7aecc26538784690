-- Laws of specs/Listing.antt.
use Rattle.std.specs.Prelude.{ℕ, ◌+◌, ◌<◌, ◌≡◌, refl, List, map, length}
use Rattle.std.proofs.Common.{arith, sym, ap, ◌∙◌}
use Rattle.lists.specs.Select.{select, tally}
use Rattle.lists.specs.Overwrite.{overwrite, overwrite_none, splice, splice-overwrite}
use Rattle.lists.specs.Cells.{cells, cells_none, cells_next, cells-length, cell_count, cell_count_next, cell_count_mono}
use Rattle.bits.specs.Bits.{bit_words}
use Rattle.pairs.specs.Pair.{row_start, row_end}
use Rattle.pairs.proofs.Pair.{pair_total_mono}
use Rattle.pairs.specs.Marks.{marking}
use Rattle.pattern_lists.specs.Listing.{ListRowInput, ListPairsInput, RowListed, PairsListed}

-- ---- row by row

pub listed_none : (marks rows columns : List ℕ) → PairsListed marks 0 rows columns rows columns 0
unfolding cell_count Rattle.lists.specs.Sum.sum_to
listed_none marks rows columns = record {
  count_is = refl;
  rows_is = sym (ap (λ (l : List ℕ). overwrite l rows) (cells_none (marking marks) row_start row_end (λ r c. r)) ∙ overwrite_none rows);
  columns_is = sym (ap (λ (l : List ℕ). overwrite l columns) (cells_none (marking marks) row_start row_end (λ r c. c)) ∙ overwrite_none columns);
}

-- room for a row
pub listed_room : {marks : List ℕ} {n r : ℕ} {rows columns rows' columns' : List ℕ} {count : ℕ} → ListPairsInput marks n rows columns → r < n → PairsListed marks r rows columns rows' columns' count
    → length rows' ≡ length rows → length columns' ≡ length columns → ListRowInput marks r count rows' columns'
unfolding bit_words
listed_room {marks} {n} {r} {rows} {columns} {rows'} {columns'} {count} P l L er ec =
    let next = cell_count_next (marking marks) row_start row_end r in
    let most = cell_count_mono (marking marks) row_start row_end (r + 1) n (omega arith) in
    record {
      small = omega (arith, P.small);
      stored = omega (arith, pair_total_mono (r + 1) n (omega arith), P.all);
      rows_fit = omega (arith, L.count_is, P.rows_fit);
      columns_fit = omega (arith, L.count_is, P.columns_fit);
    }

-- one row more
pub listed_more : {marks : List ℕ} {r : ℕ} {rows columns rows' columns' : List ℕ} {count : ℕ} {rows'' columns'' : List ℕ} {k : ℕ}
    → PairsListed marks r rows columns rows' columns' count → RowListed marks r count rows' columns' rows'' columns'' k → PairsListed marks (r + 1) rows columns rows'' columns'' k
listed_more {marks} {r} {rows} {columns} {rows'} {columns'} {count} {rows''} {columns''} {k} L R = record {
  count_is = R.count_is ∙ ap (λ (j : ℕ). j + tally (marking marks r) 0 (r + 1)) L.count_is ∙ sym (cell_count_next (marking marks) row_start row_end r);
  rows_is = go (λ r c. r) rows rows' rows'' L.rows_is R.rows_is;
  columns_is = go (λ r c. c) columns columns' columns'' L.columns_is R.columns_is;
}
  where
    go : (f : ℕ → ℕ → ℕ) (l l' l'' : List ℕ) → l' ≡ overwrite (cells (marking marks) row_start row_end f r) l → l'' ≡ splice count (map (f r) (select (marking marks r) 0 (r + 1))) l' → l'' ≡ overwrite (cells (marking marks) row_start row_end f (r + 1)) l
    go f l l' l'' p q =
        q ∙ ap (splice count (map (f r) (select (marking marks r) 0 (r + 1)))) p
        ∙ splice-overwrite (cells (marking marks) row_start row_end f r) _ l count (cells-length (marking marks) row_start row_end f r ∙ sym L.count_is)
        ∙ ap (λ (x : List ℕ). overwrite x l) (sym (cells_next (marking marks) row_start row_end f r))
