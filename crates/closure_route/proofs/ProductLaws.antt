-- The products of one descendant, by the positions of the rows and by a run of them.
-- Assumes nothing.
use Prim.Native.Nat.{ℕ, ◌+◌, ◌-◌, ◌≤◌, ◌<◌}
use native.Mathlib.Omega.{arith}
use mathlib.Core.Path.{◌≡◌, ap, ap₂, ◌∙◌}
use mathlib.Core.List.{List}
use lib.ListN.{length, get_or, set}
use lib.Ieee.{Float, binary64, nan, add, mul}
use Rattle.pairs.specs.Scratch.{queue_start}
use Rattle.pairs.specs.ColumnOrder.{col_start}
use Rattle.pairs.specs.Positions.{position_word, position_at}
use Rattle.columns.specs.Columns.{row}
use Rattle.pair_places.specs.Position.{word_inside, word_right}
use Rattle.closure_route.specs.Part.{PartSet}
use Rattle.closure_route.proofs.PartLaws.{part_more, part_same}
use Rattle.closure_route.specs.Run.{row_positions, IsRunInput, Follows}
use Rattle.closure_route.specs.Products.{with_term, run_terms, row_terms, column_terms, AddRunInput, AddAtInput, AddRowsInput, AddColumnInput}

-- one product more, of an entry at r: neither the sum nor that entry was changed
pub product_more : {from q : ℕ} (position : ℕ → ℕ) (l : Float) {z₀ z : List Float} {r : ℕ}
    → PartSet from q (λ p. with_term z₀ p l (position p)) z₀ z → from ≤ q → q < length z₀ → r ≡ position q → q ≤ r
    → PartSet from (q + 1) (λ p. with_term z₀ p l (position p)) z₀ (set z q (with_term z q l r))
product_more {from} {q} position l {z₀} {z} {r} D lo fits e behind =
    part_more D lo fits
    (ap₂ (λ (x y : Float). add binary64 x (mul binary64 l y)) (D.after q (omega arith))
    (D.after r behind ∙ ap (λ (x : ℕ). get_or z₀ x nan) e))

-- the words of the rows, from the base of column k
module _ {n k from last : ℕ} {result_rows scratch : List ℕ} {size : ℕ} (R : AddColumnInput n k from last result_rows scratch size)
    (base : ℕ) (based : base + k ≡ queue_start n + col_start n k) where
  module _ (q : ℕ) (lo : from ≤ q) (hi : q < last) where
    word_is : base + row result_rows q ≡ position_word n (row result_rows q) k
    word_is = word_right n base (row result_rows q) k based (R.below q lo hi)

    word_holds : row_positions base result_rows scratch q ≡ position_at n scratch (row result_rows q) k
    word_holds = ap (λ (x : ℕ). get_or scratch x 0) word_is

    word_room : AddAtInput q (base + row result_rows q) scratch size
    word_room = record {
      fits = omega (arith, R.fits);
      inside = omega (arith, word_is, word_inside (R.reads q lo hi).pair);
      known = omega (arith, word_holds, (R.reads q lo hi).known);
    }

  -- the products by words
  pub column_rows_lem : AddRowsInput base from last result_rows scratch size
  column_rows_lem = record {
    ordered = omega (arith, R.some);
    listed = R.listed;
    words = word_room;
    behind = λ q lo hi. omega (arith, word_holds q lo hi, R.behind q lo hi);
  }

  pub rows_column : (l : Float) {z₀ z : List Float} → PartSet from last (row_terms base l result_rows scratch z₀) z₀ z
      → PartSet from last (column_terms n k l result_rows scratch z₀) z₀ z
  rows_column l {z₀} D = part_same D (λ p lo hi. ap (with_term z₀ p l) (word_holds p lo hi))

  -- the positions rise
  pub column_rises : IsRunInput base from last result_rows scratch
  column_rises = record {
    some = R.some;
    listed = R.listed;
    inside = λ q lo hi. (word_room q lo hi).inside;
    rises = λ q q' lo l hi. omega (arith, word_holds q lo (omega arith), word_holds q' (omega arith) hi, R.rises q q' lo l hi);
  }

  -- the products of a run, whose first position is a
  module _ (F : Follows (row_positions base result_rows scratch) from last) (a : ℕ) (first : a ≡ row_positions base result_rows scratch from) where
    pub column_run : AddRunInput from last a size
    column_run =
        let s = R.some in
        record {
          ordered = omega arith;
          behind = omega (arith, word_holds from (omega arith) s, R.behind from (omega arith) s);
          fits = omega (arith, F (last - 1) (omega arith) (omega arith), (word_room (last - 1) (omega arith) (omega arith)).known);
        }

    pub run_column : (l : Float) {z₀ z : List Float} → PartSet from last (run_terms from a l z₀) z₀ z
        → PartSet from last (column_terms n k l result_rows scratch z₀) z₀ z
    run_column l {z₀} D = rows_column l (part_same D (λ p lo hi. ap (with_term z₀ p l) (omega (arith, F p lo hi))))
