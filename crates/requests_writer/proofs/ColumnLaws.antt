-- A column's rows listed from its marks, and the bytes of its lines.
-- Assumes nothing.
use Prim.Native.Nat.{ℕ, ◌+◌, ◌-◌, ◌≤◌, ◌<◌}
use native.Mathlib.Omega.{arith}
use mathlib.Core.Path.{◌≡◌, refl, sym, ap, ap₂, ◌∙◌}
use mathlib.Core.Bool.{Bool}
use mathlib.Core.List.{List, ◌++◌}
use lib.ListN.{length, get_or, take}
use lib.Seq.{get_or-take}
use Rattle.lists.specs.Sum.{bit, sum_to, sum_to_eq}
use Rattle.lists.specs.Select.{select, tally, tally_sum, tally_most, select_at, select_cong}
use Rattle.lists.specs.Overwrite.{splice, splice_first, overwrite_front, splice-length}
use Rattle.lists.specs.Cells.{cell_count, cell_count_next, cell_count_mono}
use Rattle.bits.specs.Bits.{bit_at, bit_words}
use Rattle.refusal.specs.Bounds.{max_dimension}
use Rattle.pairs.specs.Pair.{pair_total, max_pairs}
use Rattle.pairs.proofs.Pair.{pair_total_small}
use Rattle.pairs.specs.Scratch.{mark_words}
use Rattle.pairs.specs.ColumnOrder.{by_column, column_first, column_end, column_marking, col_start, set_size}
use Rattle.pairs.proofs.ColumnOrder.{col_start_next, col_start_mono, col_start_total, set_size_sum, set_size_most}
use Rattle.set_bits.specs.Listed.{NumbersListed}
use Rattle.set_bits.specs.BitsListed.{bits_test, ListBitsInput}
use Rattle.requests_writer.specs.Lines.{rows_bytes, columns_bytes, RowsInside}
use Rattle.requests_writer.proofs.ByteLaws.{columns_next}

-- how many pairs a set has in the first c columns
abbrev pub pairs_to : ℕ → (ℕ → ℕ → Bool) → ℕ → ℕ
pairs_to n S c = cell_count (by_column S) column_first (column_end n) c

module _ (n : ℕ) (marks : List ℕ) (c place : ℕ) (small : n ≤ max_dimension) (all : length marks ≡ mark_words n) (at : place ≡ col_start n c) (l : c < n) where
  abbrev S : ℕ → ℕ → Bool
  S = column_marking n marks

  -- the column's bits are within the marks
  pub column_end_lem : place + (n - c) ≤ pair_total n
  column_end_lem = omega (arith, col_start_next n c, col_start_mono n (c + 1) n (omega arith), col_start_total n)

  pub column_small : place + (n - c) ≤ max_pairs
  column_small = omega (arith, column_end_lem, pair_total_small n small)

  pub column_input : (list : List ℕ) → n ≤ length list → ListBitsInput n place c 0 list marks
  unfolding bit_words
  column_input list room = record {
    room = record { small = small; within = omega arith; fits = omega (arith, tally_most (bits_test marks place c) c n) };
    inside = l;
    stored = omega (arith, column_end_lem);
  }

  rows_same : select (bits_test marks place c) c n ≡ select (by_column S c) c n
  rows_same = select_cong _ _ c n (λ k _ _. ap (λ (p : ℕ). bit_at marks (p + (k - c))) at)

  module _ (list list' : List ℕ) (count : ℕ) (room : n ≤ length list) (L : NumbersListed (bits_test marks place c) c n 0 list list' count) where
    count_is : count ≡ length (select (by_column S c) c n)
    count_is = omega (arith, L.count_is, ap length rows_same)

    -- the column's rows stand first
    pub rows_are : take count list' ≡ select (by_column S c) c n
    rows_are =
        ap₂ take count_is (L.list_is ∙ ap (λ (r : List ℕ). splice 0 r list) rows_same ∙ splice_first (select (by_column S c) c n) list)
        ∙ overwrite_front (select (by_column S c) c n) list

    pub count_most : count ≤ n - c
    count_most = omega (arith, count_is, tally_most (by_column S c) c n)

    pub list_long : length list' ≡ length list
    list_long = ap length L.list_is ∙ splice-length 0 (select (bits_test marks place c) c n) list (omega (arith, tally_most (bits_test marks place c) c n))

    pub rows_inside : RowsInside c list' count
    rows_inside = record {
      column = omega arith;
      listed = omega (arith, count_most, list_long);
      few = omega (arith, count_most);
      inside = λ k h.
          let m : k < length (select (by_column S c) c n) = omega (arith, count_is) in
          let u = select_at (by_column S c) c n k (omega arith) m in
          let e : get_or list' k 0 ≡ get_or (select (by_column S c) c n) k 0 = sym (get_or-take count list' k 0 h) ∙ ap (λ (r : List ℕ). get_or r k 0) rows_are in
          omega (arith, e, u.below);
    }

    -- the lines of the columns to this one
    pub columns_more : columns_bytes n S c ++ rows_bytes c (take count list') ≡ columns_bytes n S (c + 1)
    columns_more = ap (λ (r : List ℕ). columns_bytes n S c ++ rows_bytes c r) rows_are ∙ sym (columns_next n S c)

    -- how many pairs they are of
    pub pairs_more : cell_count (by_column S) column_first (column_end n) (c + 1) ≡ cell_count (by_column S) column_first (column_end n) c + count
    pairs_more = cell_count_next (by_column S) column_first (column_end n) c ∙ ap (λ (k : ℕ). cell_count (by_column S) column_first (column_end n) c + k) (sym count_is)

-- never more than there may be
pub pairs_most : (n : ℕ) (S : ℕ → ℕ → Bool) (c : ℕ) → n ≤ max_dimension → c ≤ n → cell_count (by_column S) column_first (column_end n) c ≤ max_pairs
pairs_most n S c h l = omega (arith, cell_count_mono (by_column S) column_first (column_end n) c n l, set_size_most n S, pair_total_small n h)

-- the bits that are set are as many as the pairs of the set
pub column_count_lem : (n : ℕ) (marks : List ℕ) → tally (bit_at marks) 0 (pair_total n) ≡ set_size n (column_marking n marks)
column_count_lem n marks =
    let z : pair_total n - 0 ≡ pair_total n = omega arith in
    tally_sum (bit_at marks) 0 (pair_total n) ∙ ap (sum_to (λ i. bit (bit_at marks (0 + i)))) z
    ∙ sum_to_eq _ _ (pair_total n) (λ i _. let q : 0 + i ≡ i = omega arith in ap (λ (k : ℕ). bit (bit_at marks k)) q)
    ∙ sym (set_size_sum n (column_marking n marks) (λ p. bit (bit_at marks p)) (λ r c h l. refl))

pub size_small : (n : ℕ) (S : ℕ → ℕ → Bool) → n ≤ max_dimension → set_size n S ≤ max_pairs
size_small n S h = omega (arith, set_size_most n S, pair_total_small n h)
