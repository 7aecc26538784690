-- The marked pairs of a row: none before a word up to which the words are 0, and those that the bits from there on say.
-- Assumes nothing.
use Prim.Native.Nat.{ℕ, ◌+◌, ◌-◌, ◌*◌, ◌/◌, ◌≤◌, ◌<◌, min}
use native.Mathlib.Omega.{arith}
use mathlib.Core.Path.{◌≡◌, sym, ap, ◌∙◌}
use mathlib.Core.Bool.{Bool}
use mathlib.Core.List.{List, [], ◌++◌, map, map-id}
use lib.ListN.{length, length-map}
use lib.Seq.{ext_get_or}
use Rattle.lists.specs.Tabulate.{tabulate, tabulate-length, tabulate_at}
use Rattle.lists.specs.Select.{select, tally, select_none, select_gap, select_join, select_cong, get_d_mapped}
use Rattle.lists.specs.Overwrite.{splice, splice_none}
use Rattle.bits.specs.Bits.{bit_at, bit_words}
use Rattle.bits.proofs.Bits.{bit-clear, bit_words_most}
use Rattle.pairs.specs.Pair.{pair_total}
use Rattle.pairs.proofs.Pair.{pair_total_next, pair_total_mono, pair_total_small}
use Rattle.pairs.specs.Marks.{marking}
use Rattle.set_bits.specs.Zeros.{Zeros}
use Rattle.set_bits.specs.Listed.{NumbersListed}
use Rattle.set_bits.specs.BitsListed.{bits_test, ListBitsInput}
use Rattle.pattern_lists.specs.Listing.{ListRowInput, RowReached, RowListed, ListPairsInput}

-- ---- words that are 0, from a later word on

pub zeros_none : (s : List ℕ) → Zeros s 0 (length s) 0
zeros_none s = record { from = omega arith; upto = omega arith; zeros = λ i lo hi. absurd (omega arith) }

pub zeros_later : {s : List ℕ} {first end w : ℕ} → Zeros s first end w → (later : ℕ) → first ≤ later → Zeros s (min later w) end w
zeros_later Z later h = record {
  from = omega arith;
  upto = Z.upto;
  zeros = λ i lo hi. Z.zeros i (omega arith) hi;
}

pub zeros_here : {s : List ℕ} {place end w : ℕ} → Zeros s (min place w) end w → place ≤ w → Zeros s place end w
zeros_here Z h = record { from = h; upto = Z.upto; zeros = λ i lo hi. Z.zeros i (omega arith) hi }

-- ---- a row's place, and the word before which it has no mark

module _ {marks : List ℕ} {n : ℕ} {rows columns : List ℕ} (P : ListPairsInput marks n rows columns) {r place : ℕ} (l : r ≤ n) (e : place ≡ pair_total r) where
  pub place_inside : place / 32 ≤ length marks
  unfolding bit_words
  place_inside = omega (arith, pair_total_mono r n l, P.all)

  pub row_reached : {w : ℕ} → Zeros marks (place / 32) (length marks) w → RowReached marks r place w
  row_reached Z = record {
    starts = e;
    zeros = Z;
    small = omega (arith, Z.upto, P.all, bit_words_most (pair_total n), pair_total_small n P.small);
  }

-- ---- a row

-- a number, as often as a list is long
map_repeat : (x : ℕ) (l : List ℕ) → map (λ c. x) l ≡ tabulate (λ _. x) (length l)
map_repeat x l =
    let n : length (map (λ c. x) l) ≡ length l = length-map l (λ c. x) in
    ext_get_or 0 _ _ (n ∙ sym (tabulate-length (λ _. x) (length l)))
    (λ i h. get_d_mapped (λ c. x) l i 0 0 (omega arith) ∙ sym (tabulate_at (λ _. x) (length l) i 0 (omega arith)))

module _ {marks : List ℕ} {r place w low : ℕ} (R : RowReached marks r place w) (is : low ≡ w * 32 - place) where
  -- the columns before the word have no mark
  before_none : (e : ℕ) → e ≤ low → select (marking marks r) 0 e ≡ []
  before_none e h =
      select_gap (marking marks r) 0 0 e (omega arith) (omega arith)
      (λ c _ l. bit-clear marks (pair_total r + c) (R.zeros.zeros _ (omega (arith, R.starts)) (omega (arith, R.starts))))
      ∙ select_none (marking marks r) 0

  -- and so the row has none where it ends before the word
  pub row_none : (first : ℕ) (rows columns : List ℕ) → r < low → RowListed marks r first rows columns rows columns first
  row_none first rows columns l =
      let none = before_none (r + 1) (omega arith) in
      record {
        count_is = omega (arith, ap length none);
        rows_is = sym (ap (λ (x : List ℕ). splice first (map (λ c. r) x) rows) none ∙ splice_none first rows);
        columns_is = sym (ap (λ (x : List ℕ). splice first (map (λ c. c) x) columns) none ∙ splice_none first columns);
      }

  module _ (h : low ≤ r) where
    -- the columns that the bits from the word on say, the first being that of `low`
    abbrev said : ℕ → Bool
    said = bits_test marks (place + low) low

    -- the bits say the row's columns
    row_select : select said low (r + 1) ≡ select (marking marks r) 0 (r + 1)
    row_select =
        select_cong said (marking marks r) low (r + 1)
        (λ c l _.
        let q : place + low + (c - low) ≡ pair_total r + c = omega (arith, R.starts) in
        ap (bit_at marks) q)
        ∙ sym (
        select_join (marking marks r) 0 low (r + 1) (omega arith) (omega arith)
        ∙ ap (λ (x : List ℕ). x ++ select (marking marks r) low (r + 1)) (before_none low (omega arith))
        )

    -- room for the columns that the bits say
    pub row_room : {first : ℕ} {rows columns : List ℕ} → ListRowInput marks r first rows columns → ListBitsInput (r + 1) (place + low) low first columns marks
    row_room P =
        let t : place + low + (r + 1 - low) ≡ pair_total (r + 1) = omega (arith, pair_total_next r, R.starts) in
        record {
          room = record {
            small = omega (arith, P.small);
            within = omega arith;
            fits = omega (arith, P.columns_fit, ap length row_select);
          };
          inside = omega arith;
          stored = omega (arith, P.stored, ap bit_words t);
        }

    module _ {first : ℕ} {columns columns' : List ℕ} {m : ℕ} (L : NumbersListed said low (r + 1) first columns columns' m) where
      -- the count behind the row
      pub row_count : m ≡ first + tally (marking marks r) 0 (r + 1)
      row_count = L.count_is ∙ ap (λ (l : List ℕ). first + length l) row_select

      -- the columns that the bits say, and the row's number as often
      pub row_listed : {rows rows' : List ℕ} → rows' ≡ splice first (tabulate (λ _. r) (m - first)) rows → RowListed marks r first rows columns rows' columns' m
      row_listed {rows} e =
          let k : m - first ≡ tally (marking marks r) 0 (r + 1) = omega (arith, row_count) in
          record {
            count_is = row_count;
            rows_is =
                e ∙ ap (λ (j : ℕ). splice first (tabulate (λ _. r) j) rows) k
                ∙ ap (λ (l : List ℕ). splice first l rows) (sym (map_repeat r (select (marking marks r) 0 (r + 1))));
            columns_is = L.list_is ∙ ap (λ (l : List ℕ). splice first l columns) (row_select ∙ sym (map-id (select (marking marks r) 0 (r + 1))));
          }
