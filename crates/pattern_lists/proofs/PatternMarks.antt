-- Laws of specs/PatternMarks.antt.
use Rattle.std.specs.Prelude.{ℕ, ◌+◌, ◌≤◌, ◌<◌, ◌≡◌, refl, Bool, true, false, ◌&&◌, List, leb, eqb, length, get_or}
use Rattle.std.proofs.Common.{arith, ap, subst, ◌∙◌, le-leb, eqb-true, eq-eqb}
use Rattle.std.proofs.Math.Decide.{dec_le}
use Rattle.std.proofs.Math.Bool.{and-false}
use Rattle.std.proofs.lemmas.Bool.{lt-leb}
use Rattle.lists.specs.Test.{any, any_in, any_none, any_next, any-hit, any_found, any_in_none, any_in_next, any_in-hit, any_in_found, and_left, and_right, and_both, same_truth}
use Rattle.refusal.specs.Bounds.{max_dimension}
use Rattle.pairs.specs.Scratch.{mark_words}
use Rattle.pairs.proofs.Pair.{ordered_is, is_ordered}
use Rattle.pairs.specs.Marks.{Added, single}
use Rattle.pairs.proofs.Marks.{pair_marked, added_none, added_also, added_agree}
use Rattle.columns.specs.Columns.{start, row}
use Rattle.columns.specs.Kept.{kept, kept_row, kept_pair}
use Rattle.columns.specs.Factor.{Factor}
use Rattle.columns.proofs.Factor.{factor_column}
use Rattle.columns.specs.Operator.{operator_rows, OperatorRows}
use Rattle.columns.specs.OperatorPair.{occurs, operator_pair}
use Rattle.pattern_lists.specs.PatternMarks.{entry_set, columns_set, MarkColumnInput, row_set, rows_set, MarkTermsInput, MarkOrderedInput}

module _ (rows : List ℕ) (nz : ℕ → Bool) (c p : ℕ) where
  -- an entry above the diagonal or of value 0 is dropped, and marks nothing
  pub dropped_above : row rows p < c → kept rows nz c p ≡ false
  dropped_above h = rw (lt-leb c (row rows p) h)

  pub dropped_zero : nz p ≡ false → kept rows nz c p ≡ false
  dropped_zero e = ap (λ (b : Bool). leb c (row rows p) && b) e ∙ and-false (leb c (row rows p))

  pub kept_entry : c ≤ row rows p → nz p ≡ true → kept rows nz c p ≡ true
  kept_entry h e = and_both (leb c (row rows p)) (nz p) (le-leb c (row rows p) h) e

  pub entry_dropped : (s : List ℕ) → kept rows nz c p ≡ false → Added (entry_set rows nz c p) s s
  entry_dropped s e = added_none s _ (λ r c' _. ap (λ (b : Bool). b && single (row rows p) c r c') e)

  pub entry_kept : {s s' : List ℕ} → kept rows nz c p ≡ true → Added (single (row rows p) c) s s' → Added (entry_set rows nz c p) s s'
  entry_kept e A = added_agree A (λ r c' _. ap (λ (b : Bool). b && single (row rows p) c r c') e)

-- the entries of a factor's column have marks
pub column_fits : {n : ℕ} {starts rows : List ℕ} {values : ℕ} → Factor n starts rows values → n ≤ max_dimension → (marks : List ℕ) → length marks ≡ mark_words n → (c : ℕ) → c < n
    → MarkColumnInput c rows values (start starts c) (start starts (c + 1)) marks
column_fits {n} {starts} {rows} F small marks e c h =
    let C = factor_column F c h in
    record {
      ordered = C.ordered;
      stored = C.stored;
      valued = C.weighed;
      fits = λ p lo hi.
          let r = F.rows_ascend.inside p (omega (arith, C.stored)) in
          (omega arith, λ q. pair_marked n marks e (row rows p) c q r);
    }

-- the loops' first and next sets
module _ (s : List ℕ) (test : ℕ → ℕ → ℕ → Bool) where
  pub range_none : (a : ℕ) → Added (λ r c. any_in (λ p. test p r c) a a) s s
  range_none a = added_none s _ (λ r c _. any_in_none (λ p. test p r c) a)

  pub below_none : Added (λ r c. any (λ p. test p r c) 0) s s
  below_none = added_none s _ (λ r c _. any_none (λ p. test p r c))

module _ {s s' s'' : List ℕ} (test : ℕ → ℕ → ℕ → Bool) (k : ℕ) where
  pub range_more : (a : ℕ) → a ≤ k → Added (λ r c. any_in (λ p. test p r c) a k) s s' → Added (test k) s' s'' → Added (λ r c. any_in (λ p. test p r c) a (k + 1)) s s''
  range_more a h P Q = added_also P Q (λ r c _. any_in_next (λ p. test p r c) a k h)

  pub below_more : Added (λ r c. any (λ p. test p r c) k) s s' → Added (test k) s' s'' → Added (λ r c. any (λ p. test p r c) (k + 1)) s s''
  below_more P Q = added_also P Q (λ r c _. any_next (λ p. test p r c) k)

-- the pairs of all columns are the factor's
pub columns_set-kept_pair : (starts rows : List ℕ) (nz : ℕ → Bool) (n r c : ℕ) → c < n → columns_set starts rows nz n r c ≡ kept_pair starts rows nz r c
unfolding kept_pair
columns_set-kept_pair starts rows nz n r c h = same_truth _ _ there back
  where
    there : columns_set starts rows nz n r c ≡ true → any_in (kept_row rows nz r c) (start starts c) (start starts (c + 1)) ≡ true
    there e =
        let f = any_found _ n e in
        let g = any_in_found _ _ _ f.2 in
        let p = g.0 in
        let k = and_left (kept rows nz f.0 p) _ g.3 in
        let s = and_right (kept rows nz f.0 p) (single (row rows p) f.0 r c) g.3 in
        let q : f.0 ≡ c = eqb-true _ _ (and_right (eqb (row rows p) r) (eqb f.0 c) s) in
        any_in-hit (kept_row rows nz r c) _ _ p
        (subst (λ (j : ℕ). start starts j ≤ p) q g.1)
        (subst (λ (j : ℕ). p < start starts (j + 1)) q g.2)
        (and_both _ _ (and_left (eqb (row rows p) r) _ s) (subst (λ (j : ℕ). kept rows nz j p ≡ true) q k))

    back : any_in (kept_row rows nz r c) (start starts c) (start starts (c + 1)) ≡ true → columns_set starts rows nz n r c ≡ true
    back e =
        let g = any_in_found _ _ _ e in
        let p = g.0 in
        any-hit _ n c h
        (any_in-hit _ _ _ p g.1 g.2
        (and_both _ _ (and_right (eqb (row rows p) r) (kept rows nz c p) g.3) (and_both _ _ (and_left (eqb (row rows p) r) _ g.3) (eq-eqb c c refl))))

pub terms_spot : {columns : List ℕ} {s e : ℕ} {marks : List ℕ} → MarkTermsInput columns s e marks → (a b : ℕ) → s ≤ a → a < e → s ≤ b → b < e → MarkOrderedInput (get_or columns a 0) (get_or columns b 0) marks
terms_spot F a b i j k m = record {
  first_small = F.small a i j;
  second_small = F.small b k m;
  below = λ q. F.fits a b i j k m q;
  above = λ q. F.fits b a k m i j q;
}

-- a part of the columns, with the marks of a later turn
pub terms_part : {columns : List ℕ} {s e : ℕ} {marks marks' : List ℕ} → MarkTermsInput columns s e marks → length marks' ≡ length marks → (k : ℕ) → s ≤ k → k ≤ e → MarkTermsInput columns s k marks'
terms_part F l k lo hi = record {
  ordered = lo;
  stored = omega (arith, F.stored);
  small = λ a i j. F.small a i (omega arith);
  fits = λ a b i j p m q. omega (arith, F.fits a b i (omega arith) p (omega arith) q);
}

-- the columns of an operator's row have marks
pub row_fits : {n : ℕ} {row_starts columns : List ℕ} {weights : ℕ} → OperatorRows n row_starts columns weights → n ≤ max_dimension → (marks : List ℕ) → length marks ≡ mark_words n → (i : ℕ) → i < operator_rows row_starts
    → MarkTermsInput columns (start row_starts i) (start row_starts (i + 1)) marks
row_fits {n} {row_starts} {columns} O small marks e i h =
    let S = O.starts_rise in
    let end = Rattle.columns.proofs.Factor.starts_end S (i + 1) (omega arith) in
    record {
      ordered = S.rising i h;
      stored = end;
      small = λ a lo hi. omega (arith, O.inside a (omega arith));
      fits = λ a b la ha lb hb q. pair_marked n marks e (get_or columns a 0) (get_or columns b 0) q (O.inside a (omega arith));
    }

-- the column at p
abbrev column_at : List ℕ → ℕ → ℕ
column_at columns p = get_or columns p 0

-- the pairs of a row are those of which both are among its columns
pub row_set_occurs : (columns : List ℕ) (s e r c : ℕ) → c ≤ r → row_set columns s e r c ≡ (occurs columns s e r && occurs columns s e c)
row_set_occurs columns s e r c h = same_truth _ _ there back
  where
    there : row_set columns s e r c ≡ true → (occurs columns s e r && occurs columns s e c) ≡ true
    there t =
        let f = any_in_found _ s e t in
        let g = any_in_found _ s (f.0 + 1) f.3 in
        let a = f.0 in
        let b = g.0 in
        let b< : b < e = omega (arith, f.2, g.2) in
        let o = ordered_is (column_at columns a) (column_at columns b) r c g.3 in
        elim (dec_le (column_at columns b) (column_at columns a)) [
          | yes q ↦
              and_both _ _
              (any_in-hit _ s e a f.1 f.2 (eq-eqb (column_at columns a) r (omega arith)))
              (any_in-hit _ s e b g.1 b< (eq-eqb (column_at columns b) c (omega arith)))
          | no q ↦
              and_both _ _
              (any_in-hit _ s e b g.1 b< (eq-eqb (column_at columns b) r (omega arith)))
              (any_in-hit _ s e a f.1 f.2 (eq-eqb (column_at columns a) c (omega arith)))
        ]

    back : (occurs columns s e r && occurs columns s e c) ≡ true → row_set columns s e r c ≡ true
    back t =
        let f = any_in_found _ s e (and_left (occurs columns s e r) _ t) in
        let g = any_in_found _ s e (and_right (occurs columns s e r) (occurs columns s e c) t) in
        let p : column_at columns f.0 ≡ r = eqb-true _ _ f.3 in
        let q : column_at columns g.0 ≡ c = eqb-true _ _ g.3 in
        elim (dec_le g.0 f.0) [
          | yes l ↦ any_in-hit _ s e f.0 f.1 f.2 (any_in-hit _ s (f.0 + 1) g.0 g.1 (omega arith) (is_ordered (column_at columns f.0) (column_at columns g.0) r c (omega arith) (omega arith)))
          | no l ↦ any_in-hit _ s e g.0 g.1 g.2 (any_in-hit _ s (g.0 + 1) f.0 f.1 (omega arith) (is_ordered (column_at columns g.0) (column_at columns f.0) r c (omega arith) (omega arith)))
        ]

-- the pairs of all rows are the operator's
pub rows_set-operator_pair : (row_starts columns : List ℕ) (r c : ℕ) → c ≤ r → rows_set row_starts columns (operator_rows row_starts) r c ≡ operator_pair row_starts columns r c
unfolding operator_pair
rows_set-operator_pair row_starts columns r c h =
    Rattle.lists.specs.Test.any_cong _ _ (operator_rows row_starts) (λ i _. row_set_occurs columns (start row_starts i) (start row_starts (i + 1)) r c h)
