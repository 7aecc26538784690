-- The sums of a column that are not tested: sums of limited terms, the stored entries up to the sums' rows, and the greater ones.
-- Assumes nothing.
use Prim.Native.Nat.{ℕ, zero, suc, ◌+◌, ◌-◌, ◌*◌, ◌^◌, ◌≤◌, ◌<◌}
use native.Mathlib.Omega.{arith}
use native.Mathlib.Nat.{le_refl, le_trans, mul-le-mul}
use native.Mathlib.Decide.{ℕ_discrete, dec_le}
use mathlib.Core.Path.{◌≡◌, refl, sym, ap, ap₂, subst, ◌∙◌}
use mathlib.Core.Bool.{Bool, true, false, not, cond, ◌&&◌, true≢false}
use mathlib.Core.List.{List, map}
use lib.Dec.{ltb, eqb}
use lib.ListN.{length, get_or, set, length-set}
use lib.Seq.{get_or-set_same, get_or-set_other}
use lib.IntN.{ℤ, pos, nat_abs, ◌+ℤ◌, ◌*ℤ◌, +ℤ_idl, +ℤ_idr, zero-*ℤ}
use borrow.Author.Tests.{lt-ltb, le-ltb, ltb-true, eqb-true}
use Rattle.lists.specs.Test.{and_left, and_both}
use Rattle.lists.specs.Select.{one}
use Rattle.integers.proofs.Integer.{nat_abs_zero}
use Rattle.integers.specs.Sum.{Σℤ}
use Rattle.integers.proofs.Sum.{sum_cong, sum_zero, sum_add}
use Rattle.integers.proofs.Size.{size_sums}
use Rattle.refusal.specs.Steps.{refused, answered}
use Rattle.pairs.specs.Scratch.{queue_start}
use Rattle.pairs.specs.ColumnOrder.{col_start}
use Rattle.pairs.specs.Positions.{position_word}
use Rattle.pair_places.specs.Position.{word_inside, word_right, word_left}
use Rattle.columns.specs.Columns.{row}
use Rattle.columns.specs.Kept.{kept_below}
use Rattle.columns.specs.Factor.{FirstFrom}
use Rattle.columns.specs.WholeFactor.{not_zero, whole_value, whole_nonzero, whole_stored}
use Rattle.exact.specs.Multiple.{Small}
use Rattle.exact.specs.Checked.{beyond, checked_run}
use Rattle.exact.proofs.Checked.{small_within}
use Rattle.closure_route.proofs.StoredLaws.{later_row, first_less}
use Rattle.whole_route.specs.Sums.{with_entry, whole_sum}
use Rattle.whole_route.proofs.SumLaws.{sum_none, sum_next}
use Rattle.whole_route.specs.ColumnSums.{sum_from, term_at, ColumnSums, column_sums, entry_counts, factor_place, whole_term, low_term, high_term, BelowAt, CountsAt}
use Rattle.whole_route.specs.ColumnSums.{WholeSumsInput, SumsDone, AddWholeAtInput, with_whole_product, AddWholeRowsInput, RowsAdded, AddWholeStoredInput, StoredAdded, LowInput, LowAdded}
use Rattle.whole_route.specs.ColumnSums.{word_term, HighTermInput, HighSumInput, AddHighInput, HighAdded, HighsInput, HighsAdded, PartCleared}

-- ---- sums from a place on
module _ (f : ℕ → ℤ) (s : ℕ) where
  pub sum_from_none : sum_from f s s ≡ pos 0
  sum_from_none = let e : s - s ≡ 0 = omega arith in ap (λ (k : ℕ). Σℤ k (λ m. f (s + m))) e

  pub sum_from_next : (p : ℕ) → s ≤ p → sum_from f s (p + 1) ≡ sum_from f s p +ℤ f p
  sum_from_next p h =
      let a : (p + 1) - s ≡ suc (p - s) = omega arith in
      let b : s + (p - s) ≡ p = omega arith in
      ap (λ (k : ℕ). Σℤ k (λ m. f (s + m))) a ∙ ap (λ (k : ℕ). Σℤ (p - s) (λ m. f (s + m)) +ℤ f k) b

  pub sum_from_zero : (e : ℕ) → ((p : ℕ) → s ≤ p → p < e → f p ≡ pos 0) → sum_from f s e ≡ pos 0
  sum_from_zero e h = sum_zero (e - s) (λ m. f (s + m)) (λ k l. h (s + k) (omega arith) (omega arith))

  -- terms of at most b each
  pub sum_from_size : (b e : ℕ) → ((p : ℕ) → s ≤ p → p < e → nat_abs (f p) ≤ b) → nat_abs (sum_from f s e) ≤ (e - s) * b
  sum_from_size b e h = (size_sums b (e - s) (λ m. f (s + m)) (λ k l. record { size = h (s + k) (omega arith) (omega arith) })).size

pub sum_from_cong : (f g : ℕ → ℤ) (s e : ℕ) → ((p : ℕ) → s ≤ p → p < e → f p ≡ g p) → sum_from f s e ≡ sum_from g s e
sum_from_cong f g s e h = sum_cong (e - s) (λ m. f (s + m)) (λ m. g (s + m)) (λ k l. h (s + k) (omega arith) (omega arith))

pub sum_from_add : (f g h : ℕ → ℤ) (s e : ℕ) → ((p : ℕ) → s ≤ p → p < e → f p +ℤ g p ≡ h p) → sum_from f s e +ℤ sum_from g s e ≡ sum_from h s e
sum_from_add f g h s e same =
    sym (sum_add (e - s) (λ m. f (s + m)) (λ m. g (s + m)))
    ∙ sum_cong (e - s) (λ m. f (s + m) +ℤ g (s + m)) (λ m. h (s + m)) (λ k l. same (s + k) (omega arith) (omega arith))

-- the first terms are 0
pub sum_from_skip : (f : ℕ → ℤ) (s m e : ℕ) → s ≤ m → m ≤ e → ((p : ℕ) → s ≤ p → p < m → f p ≡ pos 0) → sum_from f m e ≡ sum_from f s e
sum_from_skip f s m e lo hi none =
    let w : m + (e - m) ≡ e = omega arith in
    subst (λ (x : ℕ). sum_from f m x ≡ sum_from f s x) w (go (e - m))
  where
    go : (d : ℕ) → sum_from f m (m + d) ≡ sum_from f s (m + d)
    go zero =
        let w : m ≡ m + 0 = omega arith in
        subst (λ (x : ℕ). sum_from f m x ≡ sum_from f s x) w (sum_from_none f m ∙ sym (sum_from_zero f s m none))
    go (suc d) =
        let w : m + d + 1 ≡ m + suc d = omega arith in
        subst (λ (x : ℕ). sum_from f m x ≡ sum_from f s x) w
        (sum_from_next f m (m + d) (omega arith) ∙ ap (λ (x : ℤ). x +ℤ f (m + d)) (go d) ∙ sym (sum_from_next f s (m + d) (omega arith)))

-- few enough of them
pub few_small : (b s p e : ℕ) → (e - s) * b ≤ 2 ^ 53 → p ≤ e → (p - s) * b ≤ 2 ^ 53
few_small b s p e h l =
    let d : p - s ≤ e - s = omega arith in
    le_trans (mul-le-mul d (le_refl b)) h

-- ---- where no term and no sum of terms can exceed 2 ^ 53, the sum is the exact one
module _ (rows : List ℕ) (values : List ℤ) (j : ℕ) (r : ℕ → ℤ) where
  entry_plain : (p : ℕ) (S : ℤ) → Small (term_at rows values j r p) → Small (S +ℤ term_at rows values j r p)
      → with_entry rows values j r p (answered S) ≡ answered (S +ℤ term_at rows values j r p)
  entry_plain p S = go (kept_below rows (whole_nonzero values) j p)
    where
      x : ℤ
      x = whole_value values p *ℤ r (row rows p)

      go : (t : Bool) → Small (cond t (whole_value values p *ℤ r (row rows p)) (pos 0)) → Small (S +ℤ cond t (whole_value values p *ℤ r (row rows p)) (pos 0))
          → checked_run r (answered S) (map (whole_stored rows values) (one t p)) ≡ answered (S +ℤ cond t (whole_value values p *ℤ r (row rows p)) (pos 0))
      go true a c =
          ap (λ (t : Bool). cond t (refused 20) (cond (beyond (S +ℤ whole_value values p *ℤ r (row rows p))) (refused 20) (answered (S +ℤ whole_value values p *ℤ r (row rows p)))))
          (small_within (whole_value values p *ℤ r (row rows p)) a)
          ∙ ap (λ (t : Bool). cond t (refused 20) (answered (S +ℤ whole_value values p *ℤ r (row rows p)))) (small_within (S +ℤ whole_value values p *ℤ r (row rows p)) c)
      go false a c = ap (λ (z : ℤ). answered z) (sym (+ℤ_idr S))

  module _ (s e b : ℕ) (few : (e - s) * b ≤ 2 ^ 53) (within : (p : ℕ) → s ≤ p → p < e → nat_abs (term_at rows values j r p) ≤ b) where
    one_small : (p : ℕ) → s ≤ p → p < e → Small (term_at rows values j r p)
    one_small p lo hi =
        let d : 1 ≤ e - s = omega arith in
        let w : b ≡ 1 * b = omega arith in
        le_trans (within p lo hi) (le_trans (subst (λ (k : ℕ). k ≤ (e - s) * b) (sym w) (mul-le-mul d (le_refl b))) few)

    pub whole_sum_plain : s ≤ e → whole_sum rows values j r s e ≡ answered (sum_from (term_at rows values j r) s e)
    whole_sum_plain h =
        let w : s + (e - s) ≡ e = omega arith in
        subst (λ (x : ℕ). whole_sum rows values j r s x ≡ answered (sum_from (term_at rows values j r) s x)) w (go (e - s) (omega arith))
      where
        t : ℕ → ℤ
        t = term_at rows values j r

        go : (d : ℕ) → s + d ≤ e → whole_sum rows values j r s (s + d) ≡ answered (sum_from (term_at rows values j r) s (s + d))
        go zero l =
            let w : s ≡ s + 0 = omega arith in
            subst (λ (x : ℕ). whole_sum rows values j r s x ≡ answered (sum_from (term_at rows values j r) s x)) w
            (sym (sum_none rows values j r s) ∙ ap (λ (z : ℤ). answered z) (sym (sum_from_none (term_at rows values j r) s)))
        go (suc d) l =
            let w : s + d + 1 ≡ s + suc d = omega arith in
            let n = sum_from_next (term_at rows values j r) s (s + d) (omega arith) in
            let size = sum_from_size (term_at rows values j r) s b (s + d + 1) (λ p lo hi. within p lo (omega arith)) in
            let small : Small (sum_from (term_at rows values j r) s (s + d + 1)) = le_trans size (few_small b s (s + d + 1) e few (omega arith)) in
            subst (λ (x : ℕ). whole_sum rows values j r s x ≡ answered (sum_from (term_at rows values j r) s x)) w
            (sum_next rows values j r s (s + d) (omega arith)
            ∙ ap (with_entry rows values j r (s + d)) (go d (omega arith))
            ∙ entry_plain (s + d) (sum_from (term_at rows values j r) s (s + d)) (one_small (s + d) (omega arith) (omega arith)) (subst Small n small)
            ∙ ap (λ (z : ℤ). answered z) (sym n))

-- ---- terms of a column's sums
module _ (x : ColumnSums) where
  -- an entry that is not kept adds nothing
  pub term_none : (z : List ℤ) (q p : ℕ) → entry_counts x p ≡ false → whole_term x z q p ≡ pos 0
  term_none z q p k = ap (λ (t : Bool). cond t (whole_value x.values p *ℤ get_or z (factor_place x q p) (pos 0)) (pos 0)) k

  pub term_kept : (z : List ℤ) (q p : ℕ) → entry_counts x p ≡ true → whole_term x z q p ≡ whole_value x.values p *ℤ get_or z (factor_place x q p) (pos 0)
  term_kept z q p k = ap (λ (t : Bool). cond t (whole_value x.values p *ℤ get_or z (factor_place x q p) (pos 0)) (pos 0)) k

  pub low_greater : (z : List ℤ) (q p : ℕ) → row x.listed q < row x.rows p → low_term x z q p ≡ pos 0
  low_greater z q p h = ap (λ (t : Bool). cond t (pos 0) (whole_term x z q p)) (lt-ltb _ _ h)

  pub low_is : (z : List ℤ) (q p : ℕ) → row x.rows p ≤ row x.listed q → low_term x z q p ≡ whole_term x z q p
  low_is z q p h = ap (λ (t : Bool). cond t (pos 0) (whole_term x z q p)) (le-ltb _ _ h)

  pub high_is : (z : List ℤ) (q p : ℕ) → row x.listed q < row x.rows p → high_term x z q p ≡ whole_term x z q p
  high_is z q p h = ap (λ (t : Bool). cond t (whole_term x z q p) (pos 0)) (lt-ltb _ _ h)

  pub high_none : (z : List ℤ) (q p : ℕ) → row x.rows p ≤ row x.listed q → high_term x z q p ≡ pos 0
  high_none z q p h = ap (λ (t : Bool). cond t (whole_term x z q p) (pos 0)) (le-ltb _ _ h)

  -- a kept entry is below the diagonal
  pub kept_below_lem : (p : ℕ) → entry_counts x p ≡ true → x.j < row x.rows p
  kept_below_lem p k = ltb-true x.j (row x.rows p) (and_left (ltb x.j (row x.rows p)) (whole_nonzero x.values p) k)

  pub low_high : (z : List ℤ) (q p : ℕ) → low_term x z q p +ℤ high_term x z q p ≡ whole_term x z q p
  low_high z q p = go (ltb (row x.listed q) (row x.rows p))
    where
      go : (t : Bool) → cond t (pos 0) (whole_term x z q p) +ℤ cond t (whole_term x z q p) (pos 0) ≡ whole_term x z q p
      go true = +ℤ_idl (whole_term x z q p)
      go false = +ℤ_idr (whole_term x z q p)

-- two lists that are the same behind the sums
abbrev pub SameBehind : ColumnSums → List ℤ → List ℤ → Type 0
SameBehind x z₀ z = (k : ℕ) → x.first + x.count ≤ k → get_or z k (pos 0) ≡ get_or z₀ k (pos 0)

module _ {x : ColumnSums} {b : ℕ} {z₀ : List ℤ} (I : WholeSumsInput x b z₀) where
  -- terms read behind the sums
  pub term_same : (z : List ℤ) → SameBehind x z₀ z → (q p : ℕ) → BelowAt x q → x.s ≤ p → p < x.e → whole_term x z q p ≡ whole_term x z₀ q p
  term_same z A q p B lo hi = go (entry_counts x p) refl
    where
      go : (t : Bool) → entry_counts x p ≡ t
          → cond t (whole_value x.values p *ℤ get_or z (factor_place x q p) (pos 0)) (pos 0) ≡ cond t (whole_value x.values p *ℤ get_or z₀ (factor_place x q p) (pos 0)) (pos 0)
      go true k = ap (λ (y : ℤ). whole_value x.values p *ℤ y) (A (factor_place x q p) (I.behind q p B (lo, hi, k)))
      go false k = refl

  pub low_same : (z : List ℤ) → SameBehind x z₀ z → (q p : ℕ) → q < x.count → x.s ≤ p → p < x.e → low_term x z q p ≡ low_term x z₀ q p
  low_same z A q p h lo hi = elim (dec_le (row x.rows p) (row x.listed q)) [
    | yes le ↦ low_is x z q p le ∙ go (entry_counts x p) refl le ∙ sym (low_is x z₀ q p le)
    | no gt ↦ low_greater x z q p (omega arith) ∙ sym (low_greater x z₀ q p (omega arith))
  ]
    where
      go : (t : Bool) → entry_counts x p ≡ t → row x.rows p ≤ row x.listed q → whole_term x z q p ≡ whole_term x z₀ q p
      go true k le = term_same z A q p (h, omega (arith, kept_below_lem x p k)) lo hi
      go false k le = term_none x z q p k ∙ sym (term_none x z₀ q p k)

  pub high_same : (z : List ℤ) → SameBehind x z₀ z → (q p : ℕ) → BelowAt x q → x.s ≤ p → p < x.e → high_term x z q p ≡ high_term x z₀ q p
  high_same z A q p B lo hi = ap (λ (y : ℤ). cond (ltb (row x.listed q) (row x.rows p)) y (pos 0)) (term_same z A q p B lo hi)

  -- their sizes
  pub term_size : (q p : ℕ) → BelowAt x q → x.s ≤ p → p < x.e → nat_abs (whole_term x z₀ q p) ≤ b
  term_size q p B lo hi = go (entry_counts x p) refl
    where
      go : (t : Bool) → entry_counts x p ≡ t → nat_abs (whole_term x z₀ q p) ≤ b
      go true k = I.within q p B (lo, hi, k)
      go false k = subst (λ (y : ℤ). nat_abs y ≤ b) (sym (term_none x z₀ q p k)) (omega arith)

  low_size : (q p : ℕ) → BelowAt x q → x.s ≤ p → p < x.e → nat_abs (low_term x z₀ q p) ≤ b
  low_size q p B lo hi = go (ltb (row x.listed q) (row x.rows p))
    where
      go : (t : Bool) → nat_abs (cond t (pos 0) (whole_term x z₀ q p)) ≤ b
      go true = omega arith
      go false = term_size q p B lo hi

  high_size : (q p : ℕ) → BelowAt x q → x.s ≤ p → p < x.e → nat_abs (high_term x z₀ q p) ≤ b
  high_size q p B lo hi = go (ltb (row x.listed q) (row x.rows p))
    where
      go : (t : Bool) → nat_abs (cond t (whole_term x z₀ q p) (pos 0)) ≤ b
      go true = term_size q p B lo hi
      go false = omega arith

  -- so all are small
  pub term_small : (q p : ℕ) → BelowAt x q → x.s ≤ p → p < x.e → Small (whole_term x z₀ q p)
  term_small q p B lo hi =
      let d : 1 ≤ x.e - x.s = omega arith in
      let w : b ≡ 1 * b = omega arith in
      le_trans (term_size q p B lo hi) (le_trans (subst (λ (k : ℕ). k ≤ (x.e - x.s) * b) (sym w) (mul-le-mul d (le_refl b))) I.few)

  pub low_small : (q p : ℕ) → BelowAt x q → p ≤ x.e → Small (sum_from (low_term x z₀ q) x.s p)
  low_small q p B h =
      le_trans (sum_from_size (low_term x z₀ q) x.s b p (λ k lo hi. low_size q k B lo (omega arith))) (few_small b x.s p x.e I.few h)

  pub high_small : (q p : ℕ) → BelowAt x q → p ≤ x.e → Small (sum_from (high_term x z₀ q) x.s p)
  high_small q p B h =
      le_trans (sum_from_size (high_term x z₀ q) x.s b p (λ k lo hi. high_size q k B lo (omega arith))) (few_small b x.s p x.e I.few h)

  pub total_small : (q : ℕ) → BelowAt x q → Small (sum_from (whole_term x z₀ q) x.s x.e)
  total_small q B =
      le_trans (sum_from_size (whole_term x z₀ q) x.s b x.e (λ k lo hi. term_size q k B lo hi)) I.few

  pub low_high_sum : (q : ℕ) → sum_from (low_term x z₀ q) x.s x.e +ℤ sum_from (high_term x z₀ q) x.s x.e ≡ sum_from (whole_term x z₀ q) x.s x.e
  low_high_sum q = sum_from_add (low_term x z₀ q) (high_term x z₀ q) (whole_term x z₀ q) x.s x.e (λ p lo hi. low_high x z₀ q p)

-- ---- numbers that are cleared
pub part_none : (first : ℕ) (z : List ℤ) → PartCleared first first z z
part_none first z = record { long = refl; cleared = λ p lo hi. absurd (omega arith); later = λ p h. refl }

pub part_more : {first q : ℕ} {z₀ z : List ℤ} → PartCleared first q z₀ z → first ≤ q → q < length z₀ → PartCleared first (q + 1) z₀ (set z q (pos 0))
part_more {first} {q} {z₀} {z} D lo fits = record {
  long = length-set z q (pos 0) ∙ D.long;
  cleared = λ p a b. elim (ℕ_discrete p q) [
    | yes m ↦ subst (λ (k : ℕ). get_or (set z q (pos 0)) k (pos 0) ≡ pos 0) (sym m) (get_or-set_same z q (pos 0) (pos 0) (omega (arith, D.long)))
    | no m ↦ get_or-set_other z q p (pos 0) (pos 0) m ∙ D.cleared p a (omega arith)
  ];
  later = λ p h. get_or-set_other z q p (pos 0) (pos 0) (omega arith) ∙ D.later p (omega arith);
}

-- ---- the products of one descendant
pub rows_none : (base first from : ℕ) (l : ℤ) (listed scratch : List ℕ) (z : List ℤ) → RowsAdded base first from from l listed scratch z z
rows_none base first from l listed scratch z = record {
  long = refl;
  added = λ i lo hi. absurd (omega arith);
  before = λ p h. refl;
  after = λ p h. refl;
}

module _ {base first from count : ℕ} {l : ℤ} {listed scratch : List ℕ} {z₀ : List ℤ} (I : AddWholeRowsInput base first from count l listed scratch z₀)
    {m : ℕ} {z : List ℤ} (D : RowsAdded base first from m l listed scratch z₀ z) (lo : from ≤ m) (hi : m < count) where
  -- neither the sum nor the entry was changed
  product_same : with_whole_product (first + m) (base + row listed m) l scratch z ≡ with_whole_product (first + m) (base + row listed m) l scratch z₀
  product_same =
      ap₂ (λ (x y : ℤ). x +ℤ l *ℤ y) (D.after (first + m) (omega arith)) (D.after (get_or scratch (base + row listed m) 0) (omega (arith, I.behind m lo hi)))

  pub row_input : AddWholeAtInput (first + m) (base + row listed m) l scratch z
  row_input =
      let w = I.words m lo hi in
      record {
        fits = omega (arith, w.fits, D.long);
        inside = w.inside;
        known = omega (arith, w.known, D.long);
        product_small = subst (λ (y : ℤ). Small (l *ℤ y)) (sym (D.after (get_or scratch (base + row listed m) 0) (omega (arith, I.behind m lo hi)))) w.product_small;
        sum_small = subst Small (sym product_same) w.sum_small;
      }

  pub rows_more : {k : ℕ} {z' : List ℤ} → k ≡ row listed m → z' ≡ set z (first + m) (with_whole_product (first + m) (base + k) l scratch z)
      → RowsAdded base first from (m + 1) l listed scratch z₀ z'
  rows_more {k} {z'} e w =
      subst (RowsAdded base first from (m + 1) l listed scratch z₀)
      (sym (w ∙ ap (λ (h : ℕ). set z (first + m) (with_whole_product (first + m) (base + h) l scratch z)) e)) (record {
        long = length-set z (first + m) x ∙ D.long;
        added = λ i a b. elim (ℕ_discrete i m) [
          | yes s ↦
              subst (λ (h : ℕ). get_or (set z (first + m) x) (first + h) (pos 0) ≡ with_whole_product (first + h) (base + row listed h) l scratch z₀) (sym s)
              (get_or-set_same z (first + m) x (pos 0) (omega (arith, D.long, I.fits)) ∙ product_same)
          | no s ↦ get_or-set_other z (first + m) (first + i) x (pos 0) (omega arith) ∙ D.added i a (omega arith)
        ];
        before = λ p h. get_or-set_other z (first + m) p x (pos 0) (omega arith) ∙ D.before p h;
        after = λ p h. get_or-set_other z (first + m) p x (pos 0) (omega arith) ∙ D.after p (omega arith);
      })
    where
      x : ℤ
      x = with_whole_product (first + m) (base + row listed m) l scratch z

-- ---- one stored entry
module _ {x : ColumnSums} {p q : ℕ} {z : List ℤ} (I : AddWholeStoredInput x p q z) where
  abbrev k : ℕ
  k = row x.rows p

  -- it adds nothing
  pub stored_none : entry_counts x p ≡ false → StoredAdded x p q q z z
  stored_none t = record {
    from = omega arith;
    upto = I.ordered;
    less = λ i lo hi. absurd (omega arith);
    long = refl;
    added = λ i h. sym (ap (λ (y : ℤ). get_or z (x.first + i) (pos 0) +ℤ y) (none i) ∙ +ℤ_idr (get_or z (x.first + i) (pos 0)));
    later = λ m h. refl;
  }
    where
      none : (i : ℕ) → low_term x z i p ≡ pos 0
      none i = go (ltb (row x.listed i) (row x.rows p))
        where
          go : (b : Bool) → cond b (pos 0) (whole_term x z i p) ≡ pos 0
          go true = refl
          go false = term_none x z i p t

  -- as it is not below the diagonal, or 0
  pub above_none : k ≤ x.j → entry_counts x p ≡ false
  above_none h = ap (λ (b : Bool). b && whole_nonzero x.values p) (le-ltb x.j k h)

  pub zero_none : whole_nonzero x.values p ≡ false → entry_counts x p ≡ false
  zero_none h = ap (λ (b : Bool). ltb x.j k && b) h ∙ go (ltb x.j k)
    where
      go : (b : Bool) → (b && false) ≡ false
      go true = refl
      go false = refl

  module _ (kept : entry_counts x p ≡ true) {m : ℕ} (F : FirstFrom k x.listed q x.count m) (base : ℕ) (based : base + k ≡ queue_start x.n + col_start x.n k) where
    reached : (i : ℕ) → m ≤ i → i < x.count → k ≤ row x.listed i
    reached i lo hi = omega (arith, F.stops (omega arith), later_row x.listed 0 x.count I.ascends m i (omega arith) lo hi)

    below : (i : ℕ) → m ≤ i → i < x.count → BelowAt x i
    below i lo hi = (hi, omega (arith, kept_below_lem x p kept, reached i lo hi))

    word_is : (i : ℕ) → m ≤ i → i < x.count → base + row x.listed i ≡ position_word x.n (row x.listed i) k
    word_is i lo hi = word_right x.n base (row x.listed i) k based (reached i lo hi)

    place_is : (i : ℕ) → m ≤ i → i < x.count → get_or x.scratch (base + row x.listed i) 0 ≡ factor_place x i p
    place_is i lo hi = ap (λ (w : ℕ). get_or x.scratch w 0) (word_is i lo hi)

    product_is : (i : ℕ) → m ≤ i → i < x.count → whole_value x.values p *ℤ get_or z (get_or x.scratch (base + row x.listed i) 0) (pos 0) ≡ whole_term x z i p
    product_is i lo hi = ap (λ (w : ℕ). whole_value x.values p *ℤ get_or z w (pos 0)) (place_is i lo hi) ∙ sym (term_kept x z i p kept)

    pub stored_rows : AddWholeRowsInput base x.first m x.count (whole_value x.values p) x.listed x.scratch z
    stored_rows = record {
      ordered = F.upto;
      long = I.long;
      fits = I.fits;
      words = λ i lo hi. record {
        fits = omega (arith, I.fits);
        inside = omega (
          arith,
          word_is i lo hi,
          word_inside {n = x.n} {i = row x.listed i} {k = k} {words = length x.scratch}
              (record { small = I.small; left = (I.rows_inside i hi).1; right = I.inside; room = I.room }),
        );
        known = omega (arith, place_is i lo hi, I.known i (below i lo hi) kept);
        product_small = subst Small (sym (product_is i lo hi)) (I.product_small i (below i lo hi) kept);
        sum_small = subst (λ (y : ℤ). Small (get_or z (x.first + i) (pos 0) +ℤ y)) (sym (product_is i lo hi)) (I.sum_small i (below i lo hi) kept (reached i lo hi));
      };
      behind = λ i lo hi. omega (arith, place_is i lo hi, I.behind i (below i lo hi) kept);
    }

    pub stored_added : {l : ℤ} {z' : List ℤ} → l ≡ whole_value x.values p → RowsAdded base x.first m x.count l x.listed x.scratch z z'
        → StoredAdded x p q m z z'
    stored_added {l} {z'} e A = record {
      from = F.from;
      upto = F.upto;
      less = first_less F;
      long = A.long;
      added = λ i h. elim (dec_le m i) [
        | yes lo ↦
            A.added i lo h
            ∙ ap (λ (y : ℤ). get_or z (x.first + i) (pos 0) +ℤ y)
            (ap (λ (y : ℤ). y *ℤ get_or z (get_or x.scratch (base + row x.listed i) 0) (pos 0)) e ∙ product_is i lo h ∙ sym (low_is x z i p (reached i lo h)))
        | no lo ↦
            A.before (x.first + i) (omega arith)
            ∙ sym (ap (λ (y : ℤ). get_or z (x.first + i) (pos 0) +ℤ y) (low_greater x z i p (passed i (omega arith))) ∙ +ℤ_idr (get_or z (x.first + i) (pos 0)))
      ];
      later = A.after;
    }
      where
        passed : (i : ℕ) → i < m → row x.listed i < k
        passed i h = elim (dec_le q i) [
          | yes lo ↦ first_less F i lo h
          | no lo ↦ I.passed i (omega arith)
        ]

-- ---- the stored entries up to the sums' rows

-- the rows before q are less than those of the stored entries from p on
abbrev pub RowsBefore : ColumnSums → ℕ → ℕ → Type 0
RowsBefore x q p = (i t : ℕ) → i < q → p ≤ t → t < x.e → row x.listed i < row x.rows t

-- the stored entry at p
abbrev pub entry_at : ColumnSums → ℕ → ColumnSums
entry_at x p = column_sums x.n x.j x.first x.count p (p + 1) x.listed x.rows x.values x.scratch

pub lows_none : {x : ColumnSums} {b : ℕ} {z : List ℤ} → LowInput x b z → LowAdded x x.s z z
lows_none {x} {b} {z} L = record {
  long = refl;
  sums = λ q h. L.cleared q h ∙ sym (sum_from_none (low_term x z q) x.s);
  later = λ m h. refl;
}

module _ {x : ColumnSums} {b : ℕ} {z₀ : List ℤ} (I : WholeSumsInput x b z₀) {p q : ℕ} {z : List ℤ} (L : LowAdded x p z₀ z) (lo : x.s ≤ p) (hi : p < x.e)
    (before : RowsBefore x q p) where
  pub stored_input : q ≤ x.count → AddWholeStoredInput (entry_at x p) p q z
  stored_input upto = record {
    small = I.small;
    stored = omega (arith, I.column.stored);
    weighed = omega (arith, I.column.weighed);
    inside = I.inside p lo hi;
    room = I.room;
    ordered = upto;
    long = I.long;
    fits = omega (arith, I.fits, L.long);
    rows_inside = I.rows_inside;
    ascends = I.ascends;
    passed = λ i h. before i p h (omega arith) hi;
    behind = λ i B k. I.behind i p B (lo, hi, k);
    known = λ i B k. omega (arith, I.known i p B (lo, hi, k), L.long);
    product_small = λ i B k. subst Small (sym (term_same I z L.later i p B lo hi)) (term_small I i p B lo hi);
    sum_small = λ i B k le.
        subst Small
        (sym
        (ap₂ ◌+ℤ◌ (L.sums i B.0) (term_same I z L.later i p B lo hi ∙ sym (low_is x z₀ i p le))
        ∙ sym (sum_from_next (low_term x z₀ i) x.s p lo)))
        (low_small I i (p + 1) B (omega arith));
  }

  module _ {m : ℕ} {z' : List ℤ} (A : StoredAdded (entry_at x p) p q m z z') where
    pub lows_more : LowAdded x (p + 1) z₀ z'
    lows_more = record {
      long = A.long ∙ L.long;
      sums = λ i h. A.added i h ∙ ap₂ ◌+ℤ◌ (L.sums i h) (low_same I z L.later i p h lo hi) ∙ sym (sum_from_next (low_term x z₀ i) x.s p lo);
      later = λ t h. A.later t h ∙ L.later t h;
    }

    pub before_more : RowsBefore x m (p + 1)
    before_more i t h a c = elim (dec_le q i) [
      | yes l ↦ omega (arith, A.less i l h, I.column.ascends p t lo (omega arith) c)
      | no l ↦ before i t (omega arith) (omega arith) c
    ]

-- ---- the greater ones
module _ (base : ℕ) (rows : List ℕ) (values : List ℤ) (scratch : List ℕ) (z : List ℤ) where
  -- a value of 0 adds nothing
  word_zero : (p : ℕ) → whole_nonzero values p ≡ false → word_term base rows values scratch z p ≡ pos 0
  word_zero p h =
      ap (λ (y : ℤ). y *ℤ get_or z (get_or scratch (base + row rows p) 0) (pos 0)) (zero_is (whole_value values p) h)
      ∙ zero-*ℤ (get_or z (get_or scratch (base + row rows p) 0) (pos 0))
    where
      zero_is : (y : ℤ) → not_zero y ≡ false → y ≡ pos 0
      zero_is y e = nat_abs_zero y (eqb-true (nat_abs y) 0 (go (eqb (nat_abs y) 0) e))
        where
          go : (b : Bool) → not b ≡ false → b ≡ true
          go true e = refl
          go false e = absurd (true≢false e)

  pub zero_term : (p : ℕ) (total : ℤ) → whole_nonzero values p ≡ false → total ≡ total +ℤ word_term base rows values scratch z p
  zero_term p total h = sym (ap (λ (y : ℤ). total +ℤ y) (word_zero p h) ∙ +ℤ_idr total)

module _ {base f e : ℕ} {rows : List ℕ} {values : List ℤ} {scratch : List ℕ} {z : List ℤ} (H : HighSumInput base f e rows values scratch z)
    {p : ℕ} {total : ℤ} (lo : f ≤ p) where
  pub high_next : total ≡ sum_from (word_term base rows values scratch z) f p
      → total +ℤ word_term base rows values scratch z p ≡ sum_from (word_term base rows values scratch z) f (p + 1)
  high_next t = ap (λ (y : ℤ). y +ℤ word_term base rows values scratch z p) t ∙ sym (sum_from_next (word_term base rows values scratch z) f p lo)

  pub high_term_input : p < e → total ≡ sum_from (word_term base rows values scratch z) f p → HighTermInput base p total rows values scratch z
  high_term_input hi t = record {
    stored = omega (arith, H.stored);
    weighed = omega (arith, H.weighed);
    words = H.words p lo hi;
    product_small = H.product_small p lo hi;
    sum_small = subst Small (sym (high_next t)) (H.sum_small (p + 1) (omega arith) (omega arith));
  }

-- ---- the sum of one row
module _ {x : ColumnSums} {q f : ℕ} {z : List ℤ} (I : AddHighInput x q f z) where
  abbrev i : ℕ
  i = row x.listed q

  -- the sum's place is there
  pub place_fits : x.first + q < length z
  place_fits = omega (arith, I.one, I.fits)

  -- on the diagonal nothing is added
  pub high_skip : i ≤ x.j → HighAdded x q f f z z
  high_skip h = record {
    from = omega arith;
    upto = I.upto;
    less = λ p lo hi. absurd (omega arith);
    long = refl;
    added = λ B. absurd (omega (arith, B.1));
    others = λ m d. refl;
  }

  module _ (B : BelowAt x q) {m : ℕ} (F : FirstFrom (i + 1) x.rows f x.e m) where
    greater : (p : ℕ) → m ≤ p → p < x.e → i < row x.rows p
    greater p lo hi =
        omega (arith, F.stops (omega arith), later_row x.rows x.s x.e I.column.ascends m p (omega (arith, I.from, F.from)) lo hi)

    not-greater : (p : ℕ) → x.s ≤ p → p < m → row x.rows p ≤ i
    not-greater p lo hi = elim (dec_le f p) [
      | yes l ↦ omega (arith, first_less F p l hi)
      | no l ↦ I.passed p lo (omega arith)
    ]

    module _ (base : ℕ) (based : base + i ≡ queue_start x.n + col_start x.n i) where
      high_word : (p : ℕ) → m ≤ p → p < x.e → base + row x.rows p ≡ position_word x.n i (row x.rows p)
      high_word p lo hi = word_left x.n base i (row x.rows p) based (omega (arith, greater p lo hi))

      high_place : (p : ℕ) → m ≤ p → p < x.e → get_or x.scratch (base + row x.rows p) 0 ≡ factor_place x q p
      high_place p lo hi = ap (λ (w : ℕ). get_or x.scratch w 0) (high_word p lo hi)

      counts : (p : ℕ) → m ≤ p → p < x.e → whole_nonzero x.values p ≡ true → CountsAt x p
      counts p lo hi t = (
        omega (arith, I.from, F.from),
        hi,
        and_both (ltb x.j (row x.rows p)) (whole_nonzero x.values p) (lt-ltb x.j (row x.rows p) (omega (arith, B.1, greater p lo hi))) t,
      )

      word_term_lem : (p : ℕ) → m ≤ p → p < x.e → word_term base x.rows x.values x.scratch z p ≡ whole_term x z q p
      word_term_lem p lo hi = go (whole_nonzero x.values p) refl
        where
          go : (t : Bool) → whole_nonzero x.values p ≡ t → word_term base x.rows x.values x.scratch z p ≡ whole_term x z q p
          go true t =
              ap (λ (w : ℕ). whole_value x.values p *ℤ get_or z w (pos 0)) (high_place p lo hi) ∙ sym (term_kept x z q p (counts p lo hi t).2)
          go false t =
              word_zero base x.rows x.values x.scratch z p t
              ∙ sym (term_none x z q p (ap (λ (b : Bool). ltb x.j (row x.rows p) && b) t ∙ none (ltb x.j (row x.rows p))))
            where
              none : (b : Bool) → (b && false) ≡ false
              none true = refl
              none false = refl

      pub high_sum_is : (e : ℕ) → m ≤ e → e ≤ x.e
          → sum_from (word_term base x.rows x.values x.scratch z) m e ≡ sum_from (high_term x z q) x.s e
      high_sum_is e lo hi =
          sum_from_cong (word_term base x.rows x.values x.scratch z) (high_term x z q) m e
          (λ p a b. word_term_lem p a (omega arith) ∙ sym (high_is x z q p (greater p a (omega arith))))
          ∙ sum_from_skip (high_term x z q) x.s m e (omega (arith, I.from, F.from)) lo (λ p a b. high_none x z q p (not-greater p a b))

      pub high_sum_input : HighSumInput base m x.e x.rows x.values x.scratch z
      high_sum_input = record {
        ordered = F.upto;
        stored = I.column.stored;
        weighed = I.column.weighed;
        words = λ p lo hi t. (
          omega (
            arith,
            high_word p lo hi,
            word_inside {n = x.n} {i = i} {k = row x.rows p} {words = length x.scratch}
                (record { small = I.small; left = I.row_inside; right = I.inside p (omega (arith, I.from, F.from)) hi; room = I.room }),
          ),
          omega (arith, high_place p lo hi, I.known p B (counts p lo hi t)),
        );
        product_small = λ p lo hi t. subst Small (sym (word_term_lem p lo hi)) (I.product_small p B (counts p lo hi t));
        sum_small = λ p lo hi. subst Small (sym (high_sum_is p lo hi)) (I.sum_small p B (omega (arith, I.from, F.from)) hi);
      }

    pub high_added : {y : ℤ} → y ≡ get_or z (x.first + q) (pos 0) +ℤ sum_from (high_term x z q) x.s x.e → HighAdded x q f m z (set z (x.first + q) y)
    high_added {y} e = record {
      from = F.from;
      upto = F.upto;
      less = λ p lo hi. not-greater p (omega (arith, I.from)) hi;
      long = length-set z (x.first + q) y;
      added = λ B'. get_or-set_same z (x.first + q) y (pos 0) place_fits ∙ e;
      others = λ t d. get_or-set_other z (x.first + q) t y (pos 0) d;
    }

-- ---- the sums of all rows

-- the stored entries before f are not greater than the rows from q on
abbrev pub RowsUpTo : ColumnSums → ℕ → ℕ → Type 0
RowsUpTo x f q = (p i : ℕ) → x.s ≤ p → p < f → q ≤ i → i < x.count → row x.rows p ≤ row x.listed i

pub highs_none : (x : ColumnSums) (z : List ℤ) → HighsAdded x 0 z z
highs_none x z = record { long = refl; done = λ i B h. absurd (omega arith); rest = λ i lo hi. refl; later = λ t h. refl }

module _ {x : ColumnSums} {b : ℕ} {z₀ : List ℤ} (H : HighsInput x b z₀) {f q : ℕ} {z : List ℤ} (D : HighsAdded x q z₀ z) (hi : q < x.count) (up : RowsUpTo x f q) where
  high_sums : (p : ℕ) → BelowAt x q → p ≤ x.e → sum_from (high_term x z q) x.s p ≡ sum_from (high_term x z₀ q) x.s p
  high_sums p B h = sum_from_cong (high_term x z q) (high_term x z₀ q) x.s p (λ k lo l. high_same H.sums z D.later q k B lo (omega arith))

  total_is : BelowAt x q
      → get_or z (x.first + q) (pos 0) +ℤ sum_from (high_term x z q) x.s x.e ≡ sum_from (whole_term x z₀ q) x.s x.e
  total_is B = ap₂ ◌+ℤ◌ (D.rest q (omega arith) hi ∙ H.lows q B) (high_sums x.e B (omega arith)) ∙ low_high_sum H.sums q

  pub high_input : x.s ≤ f → f ≤ x.e → AddHighInput x q f z
  high_input from upto = record {
    small = H.sums.small;
    column = H.sums.column;
    inside = H.sums.inside;
    room = H.sums.room;
    one = hi;
    long = H.sums.long;
    fits = omega (arith, H.sums.fits, D.long);
    row_inside = (H.sums.rows_inside q hi).1;
    from = from;
    upto = upto;
    passed = λ p lo l. up p q lo l (omega arith) hi;
    known = λ p B C. omega (arith, H.sums.known q p B C, D.long);
    product_small = λ p B C. subst Small (sym (term_same H.sums z D.later q p B C.0 C.1)) (term_small H.sums q p B C.0 C.1);
    sum_small = λ p B lo l. subst Small (sym (high_sums p B l)) (high_small H.sums q p B l);
    total_small = λ B. subst Small (sym (total_is B)) (total_small H.sums q B);
  }

  module _ {m : ℕ} {z' : List ℤ} (A : HighAdded x q f m z z') where
    pub highs_more : HighsAdded x (q + 1) z₀ z'
    highs_more = record {
      long = A.long ∙ D.long;
      done = λ i B h. elim (ℕ_discrete i q) [
        | yes s ↦
            subst (λ (w : ℕ). get_or z' (x.first + w) (pos 0) ≡ sum_from (whole_term x z₀ w) x.s x.e) (sym s)
            (let B' = subst (BelowAt x) s B in A.added B' ∙ total_is B')
        | no s ↦ A.others (x.first + i) (omega arith) ∙ D.done i B (omega arith)
      ];
      rest = λ i lo l. A.others (x.first + i) (omega arith) ∙ D.rest i (omega arith) l;
      later = λ t h. A.others t (omega arith) ∙ D.later t h;
    }

    pub up_to_more : RowsUpTo x m (q + 1)
    up_to_more p i lo l a c = elim (dec_le f p) [
      | yes g ↦ omega (arith, A.less p g l, H.sums.ascends q i (omega arith) (omega arith) c)
      | no g ↦ up p i lo (omega arith) (omega arith) c
    ]

-- ---- all of it
module _ {x : ColumnSums} {b : ℕ} {z₀ : List ℤ} (I : WholeSumsInput x b z₀) where
  sums_same : (z : List ℤ) → length z ≡ length z₀ → SameBehind x z₀ z → WholeSumsInput x b z
  sums_same z l A = record {
    small = I.small;
    column = I.column;
    inside = I.inside;
    room = I.room;
    long = I.long;
    fits = omega (arith, I.fits, l);
    rows_inside = I.rows_inside;
    ascends = I.ascends;
    behind = I.behind;
    known = λ q p B C. omega (arith, I.known q p B C, l);
    within = λ q p B C. subst (λ (y : ℤ). nat_abs y ≤ b) (sym (term_same I z A q p B C.0 C.1)) (I.within q p B C);
    few = I.few;
  }

  pub cleared_input : {z : List ℤ} → PartCleared x.first (x.first + x.count) z₀ z → LowInput x b z
  cleared_input {z} C = record { sums = sums_same z C.long C.later; cleared = λ q h. C.cleared (x.first + q) (omega arith) (omega arith) }

  module _ {z₁ z₂ : List ℤ} (C : PartCleared x.first (x.first + x.count) z₀ z₁) (L : LowAdded x x.e z₁ z₂) where
    behind : SameBehind x z₀ z₂
    behind t h = L.later t h ∙ C.later t h

    pub highs_input : HighsInput x b z₂
    highs_input = record {
      sums = sums_same z₂ (L.long ∙ C.long) behind;
      lows = λ q B.
          L.sums q B.0
          ∙ sym
          (sum_from_cong (low_term x z₂ q) (low_term x z₁ q) x.s x.e
          (λ p lo hi. low_same (sums_same z₁ C.long C.later) z₂ L.later q p B.0 lo hi));
    }

    pub sums_done : {z : List ℤ} → HighsAdded x x.count z₂ z → SumsDone x z₀ z
    sums_done D = record {
      long = D.long ∙ L.long ∙ C.long;
      sums = λ q B. D.done q B B.0 ∙ sum_from_cong (whole_term x z₂ q) (whole_term x z₀ q) x.s x.e (λ p lo hi. term_same I z₂ behind q p B lo hi);
      later = λ t h. D.later t h ∙ behind t h;
    }
