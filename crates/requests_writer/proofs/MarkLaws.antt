-- Requests marked one by one.
-- Assumes nothing.
use Prim.Native.Nat.{ℕ, ◌+◌, ◌/◌, ◌≤◌, ◌<◌}
use native.Mathlib.Omega.{arith}
use mathlib.Core.Path.{◌≡◌, refl, sym, ap, ap₂, ◌∙◌}
use mathlib.Core.Bool.{◌||◌}
use mathlib.Core.List.{List}
use lib.ListN.{length, get_or, length-set}
use Rattle.lists.specs.Test.{any_none, any_next}
use Rattle.lists.specs.Overwrite.{cleared, filled_at, filled-length}
use Rattle.bits.specs.Bits.{with_bit}
use Rattle.bits.proofs.Bits.{bit-clear, bit_set, word_below}
use Rattle.pairs.specs.Pair.{pair_total, ordered}
use Rattle.pairs.specs.ColumnOrder.{column_place, column_marking}
use Rattle.pairs.proofs.ColumnOrder.{column_place_below}
use Rattle.closed_set.specs.Requests.{requested}
use Rattle.requests_writer.specs.Marked.{MarkInput, MarkedRequests, requested_to}
use Rattle.requests_writer.proofs.Marked.{place_ordered}

pub record MarkedTo (n : ℕ) (rows columns marks₀ marks : List ℕ) (k : ℕ) : Type 0 where
  pub sets : (r c : ℕ) → c ≤ r → r < n → column_marking n marks r c ≡ requested_to rows columns k r c
  pub long : length marks ≡ length marks₀

-- the marks cleared
module _ (n : ℕ) (rows columns marks : List ℕ) (I : MarkInput n rows columns marks) (clean : List ℕ) (e : clean ≡ cleared (length marks) marks) where
  pub clean_long : length clean ≡ length marks
  clean_long = ap length e ∙ filled-length (λ _. 0) (length marks) marks (omega arith)

  pub clean_input : MarkInput n rows columns clean
  clean_input = record { small = I.small; requests = I.requests; below = I.below; all = clean_long ∙ I.all }

  pub marked_none : MarkedTo n rows columns clean clean 0
  marked_none = record {
    sets = λ r c h l.
        let w = word_below (column_place n r c) (pair_total n) (column_place_below n r c h l) in
        bit-clear clean (column_place n r c) (ap (λ (s : List ℕ). get_or s (column_place n r c / 32) 0) e ∙ filled_at (λ _. 0) (length marks) marks _ 0 (omega (arith, w, I.all)))
        ∙ sym (any_none _);
    long = refl;
  }

module _ (n : ℕ) (rows columns marks : List ℕ) (I : MarkInput n rows columns marks) where
  module _ (k : ℕ) (now : List ℕ) (M : MarkedTo n rows columns marks now k) (l : k < length rows) where
    abbrev a : ℕ
    a = get_or rows k 0

    abbrev b : ℕ
    b = get_or columns k 0

    low : b ≤ a
    low = I.below k l

    high : a < n
    high = I.requests.rows_inside k l

    -- the word of its mark is there
    pub mark_inside : column_place n a b / 32 < length now
    mark_inside = omega (arith, word_below (column_place n a b) (pair_total n) (column_place_below n a b low high), M.long, I.all)

    pub marked_more : MarkedTo n rows columns marks (with_bit now (column_place n a b)) (k + 1)
    marked_more = record {
      sets = λ r c h m.
          bit_set now (column_place n a b) mark_inside (column_place n r c)
          ∙ ap₂ ◌||◌ (M.sets r c h m) (place_ordered n a b r c low high h m)
          ∙ sym (any_next (λ j. ordered (get_or rows j 0) (get_or columns j 0) r c) k);
      long = length-set now _ _ ∙ M.long;
    }

  pub marked_end : (k : ℕ) (now : List ℕ) → MarkedTo n rows columns marks now k → k ≡ length rows → MarkedRequests n rows columns marks now
  unfolding requested
  marked_end k now M e =
      record {
        marks_are = λ r c g l. M.sets r c g l ∙ ap (λ (j : ℕ). requested_to rows columns j r c) e;
        long = M.long;
      }
