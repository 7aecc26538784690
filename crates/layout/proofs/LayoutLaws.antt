-- The positions of rows, those of a column, and the columns one after the other.
-- Assumes nothing.
use Prim.Native.Nat.{ℕ, ◌+◌, ◌-◌, ◌≤◌, ◌<◌}
use native.Mathlib.Omega.{arith}
use native.Mathlib.Nat.{not-suc-le-zero, eq-or-lt_of_le, le_of_suc-le-suc}
use native.Mathlib.Numerals.{add-one}
use mathlib.Core.Path.{◌≡◌, refl, sym, ap, ap₂, subst, ◌∙◌}
use mathlib.Core.Bool.{Bool, true}
use mathlib.Core.Logic.{⊎_elim}
use mathlib.Core.List.{List, [], ◌++◌, map-id}
use lib.ListN.{length, get_or, set, drop, length-set}
use lib.Seq.{get_or-set_same, get_or-set_other}
use Rattle.lists.specs.Test.{not_so}
use Rattle.lists.specs.Sum.{bit, sum_to, sum_to_eq}
use Rattle.lists.specs.Select.{select, tally, tally_most, tally_sum, select_none, select_gap, select_cong, Picked, select_at}
use Rattle.lists.specs.Overwrite.{drop_same, overwrite, overwrite_none, splice, splice_none, splice_at, splice-length, splice-overwrite}
use Rattle.lists.specs.Overwrite.{filled, filled_none, filled_more, filled_at}
use Rattle.lists.specs.Cells.{cells, cells_none, cells_next, cells-length}
use Rattle.bits.specs.Bits.{bit_at, bit_words}
use Rattle.refusal.specs.Bounds.{max_dimension}
use Rattle.pairs.specs.Pair.{pair_total, max_pairs}
use Rattle.pairs.proofs.Pair.{pair_total_small}
use Rattle.pairs.specs.Scratch.{queue_start}
use Rattle.pairs.proofs.Scratch.{queue_start_words}
use Rattle.pairs.specs.ColumnOrder.{col_start, column_place}
use Rattle.pairs.proofs.ColumnOrder.{col_start_next, col_start_mono, col_start_total, col_start_least, column_place_column, column_place_below}
use Rattle.pairs.specs.ColumnOrder.{column_marking, by_column, column_first, column_end, set_size}
use Rattle.pairs.proofs.ColumnOrder.{set_size_most}
use Rattle.marked_pairs.specs.MarkedPairs.{ColumnsReached}
use Rattle.set_bits.specs.Listed.{NumbersListed}
use Rattle.set_bits.specs.BitsListed.{bits_test, ListBitsInput}
use Rattle.set_bits.specs.Counted.{max_bits}
use Rattle.layout.specs.ColumnRows.{column_test, ListColumnInput, ColumnListed}
use Rattle.entries.specs.Entries.{column_count, position}
use Rattle.entries.proofs.Position.{column_count_none, column_count_next, column_count_mono, tally-strict, select-tally}
use Rattle.layout.specs.Layout.{LayPositionsInput, PositionsLaid, LayColumnInput, ColumnPlaced, ColumnLaid, ReachedColumn, LayOutInput, LaidOut, LayFirstsInput, FirstsLaid}
use Rattle.layout.proofs.LayoutFacts.{marks_same}

pub positions_none : (base shift first : ℕ) (rows s : List ℕ) → PositionsLaid base shift first first rows s s
positions_none base shift first rows s = record { long = refl; placed = λ q h l. absurd (omega arith); others = λ w d. refl }

-- one position more
pub positions_more : {base shift first e : ℕ} {rows s₀ : List ℕ} {q r : ℕ} {s : List ℕ} → LayPositionsInput base shift first e rows s₀ → first ≤ q → q < e
    → r ≡ get_or rows q 0 → PositionsLaid base shift first q rows s₀ s → PositionsLaid base shift first (q + 1) rows s₀ (set s (base + r) (shift + q))
positions_more {base} {shift} {first} {e} {rows} {s₀} {q} {r} {s} O h l at P = record {
  long = length-set s (base + r) (shift + q) ∙ P.long;
  placed = λ p a b.
      ⊎_elim
      (λ x.
      ap (λ (w : ℕ). get_or (set s (base + r) (shift + q)) w 0) (ap (λ (k : ℕ). base + get_or rows k 0) x ∙ ap (λ (k : ℕ). base + k) (sym at))
      ∙ get_or-set_same s (base + r) (shift + q) 0 (omega (arith, O.inside q h l, P.long)) ∙ ap (λ (k : ℕ). shift + k) (sym x))
      (λ x. kept (base + get_or rows p 0) (λ y. omega (arith, O.rises p q a x l)) ∙ P.placed p a x)
      (eq-or-lt_of_le (le_of_suc-le-suc (rw add-one at b)));
  others = λ w d. kept w (λ y. d q h (omega arith) (omega arith)) ∙ P.others w (λ p a b. d p a (omega arith));
}
  where
    kept : (w : ℕ) → (w ≡ base + r → ⊥) → get_or (set s (base + r) (shift + q)) w 0 ≡ get_or s w 0
    kept w d = get_or-set_other s (base + r) w (shift + q) 0 d

-- ---- the marks of a column, as bits from a place on

module _ {n place c first : ℕ} {rows₀ s : List ℕ} (O : ListColumnInput n place c first rows₀ s) where
  -- the column's places are pairs'
  column_places : place + (n - c) ≤ pair_total n
  column_places = omega (arith, O.start, col_start_next n c, col_start_mono n (c + 1) n (omega (arith, O.inside)), col_start_total n)

  column_words : bit_words (place + (n - c)) ≤ length s
  unfolding bit_words
  column_words = omega (arith, column_places, queue_start_words n, O.room)

  -- they can be counted
  pub column_bits : (place ≤ place + (n - c)) × (place + (n - c) ≤ max_bits) × (bit_words (place + (n - c)) ≤ length s)
  column_bits = (omega arith, omega (arith, column_places, pair_total_small n O.small), column_words)

  -- as many as the column's rows
  column_tally : tally (bit_at s) place (place + (n - c)) ≡ tally (column_test n s c) c n
  column_tally =
      let z : place + (n - c) - place ≡ n - c = omega arith in
      tally_sum (bit_at s) place (place + (n - c)) ∙ ap (sum_to (λ i. bit (bit_at s (place + i)))) z
      ∙ sum_to_eq _ _ (n - c)
      (λ i l.
      let q : place + i ≡ column_place n (c + i) c = omega (arith, O.start) in
      ap (λ (k : ℕ). bit (bit_at s k)) q)
      ∙ sym (tally_sum (column_test n s c) c n)

  pub column_next : {m : ℕ} → m ≡ tally (bit_at s) place (place + (n - c)) → first + m ≡ first + tally (column_test n s c) c n
  column_next e = ap (λ (k : ℕ). first + k) (e ∙ column_tally)

  -- and listed
  pub column_input : ListBitsInput n place c first rows₀ s
  column_input = record {
    room = record {
      small = O.small;
      within = omega (arith, O.inside);
      fits = subst (λ (p : ℕ). first + tally (bits_test s p c) c n ≤ length rows₀) (sym O.start) O.fits;
    };
    inside = O.inside;
    stored = column_words;
  }

  pub column_counted : {rows : List ℕ} {count : ℕ} → NumbersListed (bits_test s place c) c n first rows₀ rows count → count ≡ first + tally (column_test n s c) c n
  column_counted {rows} {count} L = subst (λ (p : ℕ). count ≡ first + tally (bits_test s p c) c n) O.start L.count_is

  pub column_listed : {rows : List ℕ} {count next : ℕ} → NumbersListed (bits_test s place c) c n first rows₀ rows count
      → next ≡ first + tally (column_test n s c) c n → ColumnListed n c n first rows₀ s rows next
  column_listed {rows} L e = record {
    count_is = e;
    rows_is = subst (λ (p : ℕ). rows ≡ splice first (select (bits_test s p c) c n) rows₀) O.start L.list_is;
  }

-- ---- one column, whose rows are listed from `at` on; their positions are their places in the list and `shift`

module _ (shift : ℕ) {n place c at : ℕ} {rows₀ s₀ : List ℕ} (O : ListColumnInput n place c at rows₀ s₀) (few : shift + (at + tally (column_test n s₀ c) c n) ≤ max_pairs)
    {rows : List ℕ} {next : ℕ} (L : ColumnListed n c n at rows₀ s₀ rows next) where
  abbrev test : ℕ → Bool
  test = column_test n s₀ c

  abbrev listed : List ℕ
  listed = select test c n

  -- the row at a place of the list
  row_at : (q : ℕ) → at ≤ q → q < next → get_or rows q 0 ≡ get_or listed (q - at) 0
  row_at q h l =
      let e : q ≡ at + (q - at) = omega arith in
      ap₂ (λ (x : List ℕ) (k : ℕ). get_or x k 0) L.rows_is e
      ∙ splice_at at listed rows₀ O.fits 0 (q - at) (omega (arith, L.count_is))

  picked : (q : ℕ) → at ≤ q → q < next → Picked test c n listed (q - at)
  picked q h l = select_at test c n (q - at) (omega (arith, O.inside)) (omega (arith, L.count_is))

  -- the word of a row's position
  word_is : (r : ℕ) → c ≤ r → queue_start n + (place - c) + r ≡ queue_start n + column_place n r c
  word_is r h = omega (arith, O.start, col_start_least n c (omega (arith, O.inside)))

  -- room for the positions
  pub column_positions : LayPositionsInput (queue_start n + (place - c)) shift at next rows s₀
  column_positions = record {
    order = omega (arith, L.count_is);
    listed = omega (arith, L.count_is, O.fits, ap length L.rows_is ∙ splice-length at listed rows₀ O.fits);
    few = omega (arith, L.count_is, few);
    inside = λ q h l.
        let P = picked q h l in
        let x = row_at q h l in
        omega (arith, word_is (get_or listed (q - at) 0) P.from, column_place_below n (get_or listed (q - at) 0) c P.from P.below, O.room);
    rises = λ p q h m l. omega (arith, row_at p h (omega arith), row_at q (omega arith) l, (picked q (omega arith) l).rises (p - at) (omega arith));
  }

  -- the column's positions
  pub column_placed : {s : List ℕ} {first : ℕ} → first ≡ shift + at → PositionsLaid (queue_start n + (place - c)) shift at next rows s₀ s → ColumnPlaced n c first s₀ s
  column_placed {s} e P = record {
    long = P.long;
    positions = λ r h l t.
        let k = tally test c r in
        let less : at + k < next = omega (arith, L.count_is, tally-strict test c r n h l t) in
        let z : at + k - at ≡ k = omega arith in
        let row : get_or rows (at + k) 0 ≡ r = row_at (at + k) (omega arith) less ∙ ap (λ (i : ℕ). get_or listed i 0) z ∙ select-tally test c r n h l t in
        ap (λ (w : ℕ). get_or s w 0) (sym (ap (λ (i : ℕ). queue_start n + (place - c) + i) row ∙ word_is r h))
        ∙ omega (arith, e, P.placed (at + k) (omega arith) less);
    before = λ w b. P.others w (λ q h l e. omega (arith, row_at q h l, word_is (get_or listed (q - at) 0) (picked q h l).from));
    after = λ w b. P.others w (λ q h l e.
        omega (arith, row_at q h l, word_is (get_or listed (q - at) 0) (picked q h l).from, (picked q h l).below));
  }

-- ---- a column that closing did not reach

module _ (reached s : List ℕ) {n c : ℕ} (l : c < n) (L : ReachedColumn n c reached s) (e : get_or reached c 0 ≡ 0) where
  -- has no row
  rows_none : select (column_test n s c) c n ≡ []
  rows_none =
      select_gap (column_test n s c) c c n (omega arith) (omega arith)
      (λ r lo hi. not_so (column_marking n s r c) (λ t. omega (arith, L r lo hi t)))
      ∙ select_none (column_test n s c) c

  pub unreached_none : tally (column_test n s c) c n ≡ 0
  unreached_none = ap length rows_none

  -- and no position
  pub unreached_placed : {first : ℕ} → ColumnPlaced n c first s s
  unreached_placed = record { long = refl; positions = λ r h b t. absurd (omega (arith, L r h b t)); before = λ q h. refl; after = λ q h. refl }

  pub column_unreached : {first : ℕ} {rows : List ℕ} → ColumnLaid n c first rows s rows s first
  column_unreached {first} {rows} = record {
    listed = record {
      count_is = omega (arith, unreached_none);
      rows_is = sym (ap (λ (x : List ℕ). splice first x rows) rows_none ∙ splice_none first rows);
    };
    placed = unreached_placed;
  }

-- ---- the columns before c, which have `count` members: their positions

pub record ColumnsPlaced (n c : ℕ) (s₀ s : List ℕ) (count : ℕ) : Type 0 where
  pub count_is : count ≡ column_count n (column_marking n s₀) c
  pub long : length s ≡ length s₀
  pub positions : (r a : ℕ) → a < c → a ≤ r → r < n → column_marking n s₀ r a ≡ true
      → get_or s (queue_start n + column_place n r a) 0 ≡ position n (column_marking n s₀) r a
  pub before : (q : ℕ) → q < queue_start n → get_or s q 0 ≡ get_or s₀ q 0
  pub after : (q : ℕ) → queue_start n + col_start n c ≤ q → get_or s q 0 ≡ get_or s₀ q 0

pub placed_none : (n : ℕ) (s : List ℕ) → ColumnsPlaced n 0 s s 0
placed_none n s = record {
  count_is = sym (column_count_none n (column_marking n s));
  long = refl;
  positions = λ r a l. absurd (not-suc-le-zero l);
  before = λ q l. refl;
  after = λ q l. refl;
}

module _ {n : ℕ} (small : n ≤ max_dimension) {c : ℕ} {s₀ s : List ℕ} {count : ℕ} (K : ColumnsPlaced n c s₀ s count) where
  abbrev S : ℕ → ℕ → Bool
  S = column_marking n s₀

  -- the marks are as they were, and so is the set
  same_set : (r a : ℕ) → a ≤ r → r < n → column_marking n s r a ≡ S r a
  same_set = marks_same n s s₀ K.before

  pub same_rows : (e : ℕ) → e ≤ n → select (column_test n s c) c e ≡ select (column_test n s₀ c) c e
  same_rows e h = select_cong (column_test n s c) (column_test n s₀ c) c e (λ r lo hi. same_set r c lo (omega arith))

  pub placed_few : c ≤ n → count ≤ max_pairs
  placed_few h = omega (arith, K.count_is, column_count_mono n S c n h, set_size_most n S, pair_total_small n small)

  pub column_fits : c < n → count + tally (column_test n s c) c n ≤ set_size n S
  column_fits l = omega (arith, K.count_is, column_count_next n S c, column_count_mono n S (c + 1) n (omega arith), ap length (same_rows n (omega arith)))

  pub column_few : c < n → count + tally (column_test n s c) c n ≤ max_pairs
  column_few l = omega (arith, column_fits l, set_size_most n S, pair_total_small n small)

  -- a list that has the columns of the set's pairs has that of the column's
  pub columns_reached : (reached : List ℕ) → ColumnsReached n s₀ reached → ReachedColumn n c reached s
  columns_reached reached H r h l t = H r c h l (sym (same_set r c h l) ∙ t)

  -- one column more
  pub placed_more : {s' : List ℕ} {m : ℕ} → c < n → m ≡ count + tally (column_test n s c) c n → ColumnPlaced n c count s s' → ColumnsPlaced n (c + 1) s₀ s' m
  placed_more {s'} l e C = record {
    count_is = omega (arith, e, K.count_is, column_count_next n S c, ap length (same_rows n (omega arith)));
    long = C.long ∙ K.long;
    positions = λ r a h p q t.
        ⊎_elim (λ w. here_is r a w p q t) (λ w. C.before _ (omega (arith, place_before r a w p q)) ∙ K.positions r a w p q t)
        (eq-or-lt_of_le (le_of_suc-le-suc (rw add-one at h)));
    before = λ q h. C.before q (omega arith) ∙ K.before q h;
    after = λ q h. C.after q (omega (arith, col_start_next n c)) ∙ K.after q (omega (arith, col_start_next n c));
  }
    where
      place_before : (r a : ℕ) → a < c → a ≤ r → r < n → column_place n r a < col_start n c
      place_before r a w p q = omega (arith, column_place_column n r a p q, col_start_mono n (a + 1) c (omega arith))

      here_is : (r a : ℕ) → a ≡ c → a ≤ r → r < n → S r a ≡ true → get_or s' (queue_start n + column_place n r a) 0 ≡ position n S r a
      here_is r a w p q t =
          let t' : column_marking n s r c ≡ true = same_set r c (omega arith) q ∙ subst (λ (x : ℕ). S r x ≡ true) w t in
          subst (λ (x : ℕ). get_or s' (queue_start n + column_place n r x) 0 ≡ position n S r x) (sym w)
          (C.positions r (omega arith) q t' ∙ ap₂ ◌+◌ K.count_is (ap length (same_rows r (omega arith))))

  -- behind the last column the words are as they were
  pub placed_later : c ≡ n → drop (queue_start n + pair_total n) s ≡ drop (queue_start n + pair_total n) s₀
  placed_later e = drop_same 0 (queue_start n + pair_total n) s s₀ K.long (λ i l. K.after i (omega (arith, col_start_total n, ap (col_start n) e)))

-- ---- with their starts and rows

pub record ColumnsLaid (n c : ℕ) (starts₀ rows₀ s₀ starts rows s : List ℕ) (count : ℕ) : Type 0 where
  pub placed : ColumnsPlaced n c s₀ s count
  pub starts_are : starts ≡ filled (column_count n (column_marking n s₀)) c starts₀
  pub rows_are : rows ≡ overwrite (cells (by_column (column_marking n s₀)) column_first (column_end n) (λ c r. r) c) rows₀

pub columns_none : (n : ℕ) (starts rows s : List ℕ) → ColumnsLaid n 0 starts rows s starts rows s 0
columns_none n starts rows s = record {
  placed = placed_none n s;
  starts_are = filled_none (column_count n (column_marking n s)) starts;
  rows_are =
      sym (ap (λ (l : List ℕ). overwrite l rows) (cells_none (by_column (column_marking n s)) column_first (column_end n) (λ c r. r)) ∙ overwrite_none rows);
}

module _ {n : ℕ} {starts₀ rows₀ s₀ : List ℕ} (M : LayOutInput n starts₀ rows₀ s₀)
    {c : ℕ} {starts rows s : List ℕ} {count : ℕ} (K : ColumnsLaid n c starts₀ rows₀ s₀ starts rows s count) where
  abbrev T : ℕ → ℕ → Bool
  T = column_marking n s₀

  -- room for a column
  pub columns_room : (place : ℕ) → place ≡ col_start n c → c < n → length rows ≡ length rows₀
      → LayColumnInput n place c count rows s
  columns_room place start l long = record {
    room = record {
      small = M.small;
      inside = l;
      start = start;
      room = omega (arith, M.room, K.placed.long);
      fits = omega (arith, column_fits M.small K.placed l, M.rows_fit);
    };
    few = column_few M.small K.placed l;
  }

  -- the column's start is written
  start_written : c ≤ n → set starts c count ≡ filled (column_count n T) (c + 1) starts₀
  start_written h =
      ap₂ (λ (l : List ℕ) (x : ℕ). set l c x) K.starts_are K.placed.count_is ∙ filled_more (column_count n T) starts₀ c (omega (arith, M.starts_fit))

  -- one column more
  pub columns_more : {rows' s' : List ℕ} {m : ℕ} → c < n → ColumnLaid n c count rows s rows' s' m
      → ColumnsLaid n (c + 1) starts₀ rows₀ s₀ (set starts c count) rows' s' m
  columns_more {rows'} {s'} l C = record {
    placed = placed_more M.small K.placed l C.listed.count_is C.placed;
    starts_are = start_written (omega arith);
    rows_are =
        C.listed.rows_is ∙ ap₂ (splice count) (same_rows M.small K.placed n (omega arith)) K.rows_are
        ∙ splice-overwrite earlier _ rows₀ count (cells-length (by_column T) column_first (column_end n) (λ c r. r) c ∙ sym K.placed.count_is)
        ∙ ap (λ (x : List ℕ). overwrite (earlier ++ x) rows₀) (sym (map-id (select (column_test n s₀ c) c n)))
        ∙ ap (λ (x : List ℕ). overwrite x rows₀) (sym (cells_next (by_column T) column_first (column_end n) (λ c r. r) c));
  }
    where
      earlier : List ℕ
      earlier = cells (by_column T) column_first (column_end n) (λ c r. r) c

  -- all columns, and the last start
  pub columns_end : c ≡ n → LaidOut n starts₀ rows₀ s₀ (set starts n count) rows s count
  unfolding filled
  columns_end e = record {
    count_is = K.placed.count_is ∙ ap (column_count n T) e;
    starts_are =
        ap (λ (k : ℕ). set starts k count) (sym e) ∙ start_written (omega arith)
        ∙ ap (λ (k : ℕ). filled (column_count n T) (k + 1) starts₀) e;
    rows_are = K.rows_are ∙ ap (λ (k : ℕ). overwrite (cells (by_column T) column_first (column_end n) (λ c r. r) k) rows₀) e;
    long = K.placed.long;
    marks = K.placed.before;
    positions = λ r a h l t. K.placed.positions r a (omega arith) h l t;
    later = placed_later M.small K.placed e;
  }

-- ---- with where they start alone

module _ {n : ℕ} {firsts₀ listed₀ s₀ : List ℕ} (M : LayFirstsInput n firsts₀ listed₀ s₀)
    {c : ℕ} {s : List ℕ} {count : ℕ} (K : ColumnsPlaced n c s₀ s count) where
  -- room for a column's rows
  pub firsts_room : (place : ℕ) → place ≡ col_start n c → c < n → {listed : List ℕ} → length listed ≡ length listed₀ → ListColumnInput n place c 0 listed s
  firsts_room place start l long = record {
    small = M.small;
    inside = l;
    start = start;
    room = omega (arith, M.room, K.long);
    fits = omega (arith, tally_most (column_test n s c) c n, M.listed_fit);
  }

  -- all columns
  pub firsts_end : {firsts : List ℕ} → c ≡ n → firsts ≡ filled (column_count n (column_marking n s₀)) c firsts₀ → FirstsLaid n s₀ firsts s count
  firsts_end e f = record {
    count_is = K.count_is ∙ ap (column_count n (column_marking n s₀)) e;
    firsts_are = λ a l.
        ap (λ (x : List ℕ). get_or x a 0) f ∙ filled_at (column_count n (column_marking n s₀)) c firsts₀ a 0 (omega arith);
    long = K.long;
    marks = K.before;
    positions = λ r a h l t. K.positions r a (omega arith) h l t;
    later = placed_later M.small K e;
  }
