-- The rows of one column, from the last to the first.
-- Assumes nothing.
use Prim.Native.Nat.{ℕ, ◌+◌, ◌≤◌, ◌<◌}
use native.Mathlib.Omega.{arith}
use native.Mathlib.Decide.{ℕ_discrete}
use mathlib.Core.Path.{◌≡◌, refl, sym, ap, ap₂, subst, subst₂, ◌∙◌}
use mathlib.Core.Bool.{Bool, true, false, ◌&&◌, true≢false}
use mathlib.Core.List.{List}
use lib.ListN.{length, get_or, length-set}
use lib.Seq.{get_or-set_same, get_or-set_other}
use lib.IntN.{ℤ, pos}
use Rattle.lists.specs.Test.{any_in_all, any_in-hit, and_both, or_neither_left}
use Rattle.pairs.specs.ColumnOrder.{column_marking}
use Rattle.pairs.proofs.ColumnOrder.{set_size_most}
use Rattle.pairs.specs.Pair.{max_pairs}
use Rattle.pairs.proofs.Pair.{pair_total_small}
use Rattle.columns.proofs.Factor.{neither_below}
use Rattle.columns.specs.WholeFactor.{whole_desc}
use Rattle.exact.specs.Multiple.{Small}
use Rattle.exact.specs.Checked.{beyond}
use Rattle.exact.proofs.Checked.{within_small}
use Rattle.exact.specs.Exceeds.{entry_exceeds}
use Rattle.entries.specs.Entries.{column_count, position}
use Rattle.entries.proofs.Position.{column_count_mono, position_in, position_below, position_rises}
use Rattle.entries.specs.WholeTable.{whole_table}
use Rattle.refusal.specs.Steps.{answered}
use Rattle.whole_route.specs.Sums.{whole_inverse_at, whole_sum}
use Rattle.whole_route.specs.ColumnSums.{column_sums, Summed, WholeSumsStored}
use Rattle.whole_route.proofs.FitLaws.{sum_same}
use Rattle.whole_route.specs.Route.{WholesFrom, EntryInput, EntryDone, RowsInput, RowsDone}

-- a position is one pair's
module _ (n : ℕ) (S : ℕ → ℕ → Bool) where
  earlier : (r c s d : ℕ) → c ≤ r → r < n → S r c ≡ true → d ≤ s → c < d → position n S r c < position n S s d
  earlier r c s d h l t k m = omega (arith, position_in n S r c h l t, column_count_mono n S (c + 1) d (omega arith))

  pub position_one : (r c s d : ℕ) → c ≤ r → r < n → S r c ≡ true → d ≤ s → s < n → S s d ≡ true → position n S r c ≡ position n S s d → (r ≡ s) × (c ≡ d)
  position_one r c s d h l t k m u e =
      let column : c ≡ d = neither_below c d
      (λ x. let y = earlier r c s d h l t k x in omega arith)
      (λ x. let y = earlier s d r c k m u h x in omega arith) in (
        neither_below r s
            (λ x. let y = position_rises n S r s c h x t in omega (arith, ap (position n S s) column))
            (λ x. let y = position_rises n S s r d k x u in omega (arith, ap (position n S r) column)),
        column,
      )

-- the same entry and test by other names
pub done_same : {n i i' j q : ℕ} {starts rows : List ℕ} {values work₀ work : List ℤ} {b b' : Bool} → i ≡ i' → b ≡ b'
    → EntryDone n i j q starts rows values work₀ work b → EntryDone n i' j q starts rows values work₀ work b'
done_same {n} {i} {i'} {j} {q} {starts} {rows} {values} {work₀} {work} e f D =
    subst₂ (λ (x : ℕ) (y : Bool). EntryDone n x j q starts rows values work₀ work y) e f D

-- the members from position first + q on are solved, and of column j none of them exceeds 2 ^ 53; before them and behind the column the list is as it was
pub record RowsLeft (n j first q : ℕ) (starts rows : List ℕ) (values : List ℤ) (scratch : List ℕ) (work₀ work : List ℤ) : Type 0 where
  pub long : length work ≡ length work₀
  pub before : (p : ℕ) → p < first + q → get_or work p (pos 0) ≡ get_or work₀ p (pos 0)
  pub rest : (p : ℕ) → column_count n (column_marking n scratch) (j + 1) ≤ p → get_or work p (pos 0) ≡ get_or work₀ p (pos 0)
  pub solved : WholesFrom n (column_marking n scratch) (whole_table n starts rows values) (first + q) work
  pub none : (r : ℕ) → j ≤ r → r < n → column_marking n scratch r j ≡ true → first + q ≤ position n (column_marking n scratch) r j
      → entry_exceeds (whole_desc starts rows values) (whole_table n starts rows values) r j ≡ false

module _ {n j first count s e : ℕ} {listed starts rows : List ℕ} {values : List ℤ} {scratch : List ℕ} {work₀ : List ℤ}
    (I : RowsInput n j first count s e listed starts rows values scratch work₀) where
  abbrev S : ℕ → ℕ → Bool
  S = column_marking n scratch

  abbrev Z : ℕ → ℕ → ℤ
  Z = whole_table n starts rows values

  abbrev test : ℕ → Bool
  test i = S i j && entry_exceeds (whole_desc starts rows values) Z i j

  -- positions are small numbers
  pub place_small : {q : ℕ} → q < count → first + q ≤ max_pairs
  place_small {q} h =
      let R = I.rows_are q h in
      omega (arith, position_below n S (get_or listed q 0) j n R.0 R.1 I.inside R.2, R.3, set_size_most n S, pair_total_small n I.whole.small)

  pub rows_none : RowsLeft n j first count starts rows values scratch work₀ work₀
  rows_none = record {
    long = refl;
    before = λ p l. refl;
    rest = λ p l. refl;
    solved = I.later;
    none = λ r h l t k. absurd (omega (arith, position_in n S r j h l t, I.count_is));
  }

  module _ {q : ℕ} {work : List ℤ} (L : RowsLeft n j first (q + 1) starts rows values scratch work₀ work) (h : q < count) where
    abbrev i : ℕ
    i = get_or listed q 0

    -- what the entry at first + q asks
    pub row_input : EntryInput n i j (first + q) s e starts rows values scratch work
    row_input =
        let R = I.rows_are q h in
        record {
          whole = I.whole;
          ordered = R.0;
          inside = R.1;
          member = R.2;
          position_is = R.3;
          start_is = I.start_is;
          end_is = I.end_is;
          fits = omega (arith, I.fits, L.long);
          later = λ r c o l t k. L.solved r c o l t (omega arith);
        }

    -- its sum, where the sums stand in the list
    pub row_sum_lem : {summed : Bool} → WholeSumsStored (column_sums n j first count s e listed rows values scratch) summed work₀
        → summed ≡ true → j < i → answered (get_or work (first + q) (pos 0)) ≡ whole_sum rows values j (whole_inverse_at n scratch work i) s e
    row_sum_lem stored t b =
        ap (λ (y : ℤ). answered y) (L.before (first + q) (omega arith)) ∙ stored t q (h, b)
        ∙ sum_same I work₀ work (λ p o. L.rest p (omega (arith, I.count_is))) q (h, b)

    place_fits : first + q < length work
    place_fits =
        let R = I.rows_are q h in
        omega (arith, position_below n S i j n R.0 R.1 I.inside R.2, R.3, I.fits, L.long)

    -- it exceeds 2 ^ 53: some member does
    pub row_exceeds : {work' : List ℤ} → EntryDone n i j (first + q) starts rows values work work' true → RowsDone n j first starts rows values scratch work₀ work' true
    row_exceeds D =
        let R = I.rows_are q h in
        record {
          tells = sym (any_in-hit test j n i R.0 R.1 (and_both (S i j) _ R.2 (sym D.tells)));
          long = ap length D.leaves ∙ L.long;
          rest = λ p l. ap (λ (w : List ℤ). get_or w p (pos 0)) D.leaves ∙ L.rest p l;
          solved = λ e. absurd (true≢false e);
        }

    -- it does not: it is there
    pub row_stored : {work' : List ℤ} → EntryDone n i j (first + q) starts rows values work work' false → RowsLeft n j first q starts rows values scratch work₀ work'
    row_stored {work'} D = record {
      long = ap length D.leaves ∙ length-set work (first + q) (Z i j) ∙ L.long;
      before = λ p l. ap (λ (w : List ℤ). get_or w p (pos 0)) D.leaves ∙ get_or-set_other work (first + q) p (Z i j) (pos 0) (omega arith) ∙ L.before p (omega arith);
      rest = λ p l.
          let R = I.rows_are q h in
          let d : p ≡ first + q → ⊥ = λ e. omega (arith, position_in n S i j R.0 R.1 R.2, R.3) in
          ap (λ (w : List ℤ). get_or w p (pos 0)) D.leaves ∙ get_or-set_other work (first + q) p (Z i j) (pos 0) d ∙ L.rest p l;
      solved = λ r c o l t k. elim (ℕ_discrete (position n S r c) (first + q)) [
        | yes m ↦
            let one = same_pair r c o l t m in
            subst (λ (x : ℕ). (get_or work' (position n S x c) (pos 0) ≡ Z x c) × Small (Z x c)) (sym one.0)
            (subst (λ (y : ℕ). (get_or work' (position n S i y) (pos 0) ≡ Z i y) × Small (Z i y)) (sym one.1) here)
        | no m ↦
            let old = L.solved r c o l t (omega arith) in
            (ap (λ (w : List ℤ). get_or w (position n S r c) (pos 0)) D.leaves ∙ get_or-set_other work (first + q) (position n S r c) (Z i j) (pos 0) m ∙ old.0, old.1)
      ];
      none = λ r o l t k. elim (ℕ_discrete (position n S r j) (first + q)) [
        | yes m ↦ subst (λ (x : ℕ). entry_exceeds (whole_desc starts rows values) Z x j ≡ false) (sym (same_pair r j o l t m).0) (sym D.tells)
        | no m ↦ L.none r o l t (omega arith)
      ];
    }
      where
        same_pair : (r c : ℕ) → c ≤ r → r < n → S r c ≡ true → position n S r c ≡ first + q → (r ≡ i) × (c ≡ j)
        same_pair r c o l t m =
            let R = I.rows_are q h in
            position_one n S r c i j o l t R.0 R.1 R.2 (m ∙ sym R.3)

        here : (get_or work' (position n S i j) (pos 0) ≡ Z i j) × Small (Z i j)
        here =
            let R = I.rows_are q h in (
              ap₂ (λ (w : List ℤ) (x : ℕ). get_or w x (pos 0)) D.leaves R.3 ∙ get_or-set_same work (first + q) (Z i j) (pos 0) place_fits,
              within_small (Z i j) (or_neither_left (beyond (Z i j)) _ (sym D.tells)),
            )

  -- all rows
  pub rows_done : {work : List ℤ} → RowsLeft n j first 0 starts rows values scratch work₀ work → RowsDone n j first starts rows values scratch work₀ work false
  rows_done L = record {
    tells = sym (any_in_all test j n (λ r h l. by_member r h l (S r j) refl));
    long = L.long;
    rest = L.rest;
    solved = λ e r c o l t k. L.solved r c o l t (omega arith);
  }
    where
      from : (r : ℕ) → j ≤ r → column_count n S j ≤ position n S r j
      from r h = omega arith

      by_member : (r : ℕ) → j ≤ r → r < n → (b : Bool) → S r j ≡ b → (b && entry_exceeds (whole_desc starts rows values) Z r j) ≡ false
      by_member r h l false t = refl
      by_member r h l true t = L.none r h l t (omega (arith, I.first_is, from r h))

-- ---- a list that was changed at the column's own places alone
module _ {n j first count s e : ℕ} {listed starts rows : List ℕ} {values : List ℤ} {scratch : List ℕ} {work z : List ℤ} {summed : Bool}
    (I : RowsInput n j first count s e listed starts rows values scratch work) (D : Summed (column_sums n j first count s e listed rows values scratch) summed work z) where
  pub rows_kept : RowsInput n j first count s e listed starts rows values scratch z
  rows_kept = record {
    whole = I.whole;
    inside = I.inside;
    first_is = I.first_is;
    count_is = I.count_is;
    fits = omega (arith, I.fits, D.long);
    long = I.long;
    start_is = I.start_is;
    end_is = I.end_is;
    rows_are = I.rows_are;
    later = λ r c o l t k. let w = I.later r c o l t k in (D.later (position n (column_marking n scratch) r c) k ∙ w.0, w.1);
  }

  pub sums_kept : WholeSumsStored (column_sums n j first count s e listed rows values scratch) summed z
  sums_kept t q B = D.sums t q B ∙ sum_same I work z D.later q B

  pub rows_since : {w : List ℤ} {b : Bool} → RowsDone n j first starts rows values scratch z w b → RowsDone n j first starts rows values scratch work w b
  rows_since R = record {
    tells = R.tells;
    long = R.long ∙ D.long;
    rest = λ p l. R.rest p l ∙ D.later p (omega (arith, I.count_is));
    solved = R.solved;
  }
