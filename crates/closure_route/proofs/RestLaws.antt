-- The end of a sum, by the positions of the rows and by a run of them.
-- Assumes nothing.
use Prim.Native.Nat.{ℕ, ◌+◌, ◌-◌, ◌≤◌, ◌<◌}
use native.Mathlib.Omega.{arith}
use mathlib.Core.Path.{◌≡◌, sym, ap, ◌∙◌}
use mathlib.Core.Bool.{Bool, true, false}
use mathlib.Core.List.{List}
use lib.ListN.{length, get_or}
use lib.Ieee.{Float, binary64, nan, add, mul}
use lib.Dec.{ltb}
use borrow.Author.Tests.{lt-ltb}
use Rattle.lists.specs.Test.{and_both, any_in, any_in_below}
use Rattle.pairs.specs.Scratch.{queue_start}
use Rattle.pairs.specs.ColumnOrder.{col_start}
use Rattle.pairs.specs.Positions.{position_word}
use Rattle.columns.specs.Columns.{row, value}
use Rattle.columns.specs.Kept.{nonzero}
use Rattle.columns.proofs.Kept.{nonzero-not}
use Rattle.pair_places.specs.Position.{PairEntryInput, word_left, word_position, word_reads}
use Rattle.closure_route.specs.Run.{row_positions, IsRunInput, Follows}
use Rattle.closure_route.specs.Column.{SumTerms, kept_term, term_position}
use Rattle.closure_route.specs.Sums.{inverse_at, SumContinued, row_sum}
use Rattle.closure_route.proofs.SumsLaws.{sum_between_next}
use Rattle.closure_route.proofs.SumLaws.{term_input, product_read, with_product_kept}
use Rattle.closure_route.specs.Rest.{zero_at, SumRunInput, SumRowsInput, run_positions, ProductsSummed, SumRestInput}

-- none from s to below e is
pub none_zero : (values : List Float) (s e : ℕ) → any_in (zero_at values) s e ≡ false → (p : ℕ) → s ≤ p → p < e → nonzero values p ≡ true
none_zero values s e h p lo hi = nonzero-not values p (any_in_below (zero_at values) s e p h lo hi)

-- none is 0.0, and the words of the rows are read from the base of column i
module _ {t : SumTerms} {i : ℕ} {zeros : Bool} {size : ℕ} (R : SumRestInput t i zeros size) (none : zeros ≡ false) (base : ℕ)
    (based : base + i ≡ queue_start t.n + col_start t.n i) where
  rest_kept : (p : ℕ) → t.s ≤ p → p < t.e → kept_term t p ≡ true
  rest_kept p lo hi =
      let k = row t.rows p in
      and_both (ltb t.j k) (nonzero t.values p) (lt-ltb t.j k (omega (arith, R.below, R.above p lo hi))) (R.nonzeros none p lo hi)

  -- an entry of the inverse can be read
  rest_read : (p : ℕ) → t.s ≤ p → p < t.e → PairEntryInput t.n i (row t.rows p) t.scratch size
  rest_read p lo hi = product_read (term_input R.sum p lo hi) (rest_kept p lo hi)

  word_is : (p : ℕ) → t.s ≤ p → p < t.e
      → base + row t.rows p ≡ position_word t.n i (row t.rows p)
  word_is p lo hi = word_left t.n base i (row t.rows p) based (omega (arith, R.above p lo hi))

  rest_word : (p : ℕ) → t.s ≤ p → p < t.e → (base + row t.rows p < length t.scratch) × (row_positions base t.rows t.scratch p < size)
  rest_word p lo hi = word_reads (rest_read p lo hi) (word_is p lo hi)

  rest_position : (p : ℕ) → t.s ≤ p → p < t.e → row_positions base t.rows t.scratch p ≡ term_position t i p
  rest_position p lo hi = word_position (rest_read p lo hi) (word_is p lo hi)

  -- read from the words
  pub rows_input : SumRowsInput base t.s t.e t.rows (length t.values) t.scratch size
  rows_input = record {
    ordered = omega (arith, R.some);
    stored = R.sum.column.stored;
    weighed = R.sum.column.weighed;
    words = rest_word;
  }

  pub rows_summed : (z : List Float) (sum x : Float) → ProductsSummed t.values z t.s t.e (row_positions base t.rows t.scratch) sum x
      → SumContinued t z i sum x
  rows_summed z sum x S s h q =
      let r = inverse_at nan t.n t.scratch z i in
      S (λ p. row_sum t z i s p) q
      (λ p lo hi.
      ap (λ (k : ℕ). add binary64 (row_sum t z i s p) (mul binary64 (value t.values p) (get_or z k nan))) (rest_position p lo hi)
      ∙ with_product_kept t.rows t.values t.j p r (row_sum t z i s p) (rest_kept p lo hi)
      ∙ sym (sum_between_next t.rows t.values t.j r s p (omega arith)))

  -- the positions rise
  pub rest_rises : IsRunInput base t.s t.e t.rows t.scratch
  rest_rises = record {
    some = R.some;
    listed = R.sum.column.stored;
    inside = λ p lo hi. (rest_word p lo hi).0;
    rises = λ p q lo l hi.
        let h : p < t.e = omega arith in
        let k : t.s ≤ q = omega arith in
        omega (arith, rest_position p lo h, rest_position q k hi, R.rises p q (lo, h, rest_kept p lo h) l (k, hi, rest_kept q k hi));
  }

  -- read from a run, whose first position is known
  module _ (F : Follows (row_positions base t.rows t.scratch) t.s t.e) (position : ℕ)
      (at : position ≡ row_positions base t.rows t.scratch t.s) where
    pub run_input : SumRunInput t.s t.e position (length t.values) size
    run_input =
        let l = R.some in
        record {
          ordered = omega arith;
          weighed = R.sum.column.weighed;
          fits = omega (arith, F (t.e - 1) (omega arith) (omega arith), (rest_word (t.e - 1) (omega arith) (omega arith)).1);
        }

    pub run-summed : (z : List Float) (sum x : Float) → ProductsSummed t.values z t.s t.e (run_positions t.s position) sum x
        → SumContinued t z i sum x
    run-summed z sum x S =
        rows_summed z sum x
        (λ f b s.
        S f b
        (λ p lo hi.
        let same : position + (p - t.s) ≡ row_positions base t.rows t.scratch p = omega (arith, F p lo hi) in
        ap (λ (k : ℕ). add binary64 (f p) (mul binary64 (value t.values p) (get_or z k nan))) same ∙ s p lo hi))
