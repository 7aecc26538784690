-- The steps of the bounds of a row: what holds past them; 8 and 20 by the worst fault. Assumes nothing.
use Rattle.std.specs.Prelude.{ℕ, ◌≤◌, ◌<◌, ◌≡◌, refl, Bool, true, false, cond, ◌&&◌, ltb, leb, ℤ, pos, negsuc, nat_abs, ◌*ℤ◌}
use Rattle.std.proofs.Math.Path.{sym, ap₂}
use Rattle.std.proofs.Common.{ap, ◌∙◌}
use Rattle.std.proofs.Math.Bool.{not, ◌||◌}
use Rattle.std.proofs.lemmas.Bool.{false≢true}
use mathlib.Core.List.{List, [], ◌∷◌}
use Rattle.std.proofs.Math.ListN.{length}
use Rattle.std.specs.Int.Signed.{lt_z, le_z}
use borrow.Author.Tests.{ltb-true, ltb-false, eqb-true, not-false, eq-eqb, ne_eqb, lt-ltb, le-ltb, lt-leb}
use Rattle.lists.specs.Test.{any, any_in, any_below, any_cong, any_in_zero, or_left, or_right, or_neither_left, or_neither_right}
use Rattle.refusal.specs.Steps.{Step, refused, answered, verdict, Passed}
use Rattle.refusal.proofs.Steps.{passed_clear, first_hit, first_skip, first_end}
use Rattle.refusal.proofs.Groups.{groups_passed, grouped-refused, grouped_last}
use Rattle.columns.specs.Columns.{outside}
use Rattle.integers.proofs.Order.{le_test, not_below_lem}
use Rattle.integers.specs.MinMax.{minℤ}
use Rattle.weight_bounds.specs.Bounds.{least_square}
use Rattle.result.specs.Lookup.{dimension, lookup_of, result_steps}
use Rattle.result.proofs.Laws.{result_steps-sound}
use Rattle.whole_pairs.specs.Entry.{absent_pair, beyond_pair}
use Rattle.whole_pairs.proofs.Entry.{present_found}
use Rattle.whole_pairs.proofs.FaultsLaws.{all_absent, all_either, fault-steps}
use Rattle.columns.specs.WholeFactor.{whole_value}
use Rattle.quadratic_form.specs.RowValue.{term_column}
use Rattle.weight_ranges.specs.Ranges.{row_entry, max_terms, max_weight, repeated, bad_range, range_row_steps, weight_steps, pair_steps, range_steps, some_pair, max_range_entry, row_fault}
use Rattle.weight_ranges.specs.Sizes.{RangesReady}

module _ (starts rows : List ℕ) (values : List ℤ) (columns : List ℕ) where
  abbrev absent : ℕ → ℕ → Bool
  absent a b = absent_pair starts rows values (term_column columns a) (term_column columns b)

  abbrev beyond : ℕ → ℕ → Bool
  beyond a b = beyond_pair max_range_entry starts rows values (term_column columns a) (term_column columns b)

  -- all pairs of places
  from_zero : (test : ℕ → ℕ → Bool) (m : ℕ) → any (λ a. any_in (test a) 0 m) m ≡ any (λ a. any (test a) m) m
  from_zero test m = any_cong (λ a. any_in (test a) 0 m) (λ a. any (test a) m) m (λ a l. any_in_zero (test a) m)

  pub pair_steps-fault : let f = row_fault starts rows values columns in verdict ((8, leb 2 f) ∷ (20, leb 1 f) ∷ []) ≡ verdict (pair_steps starts rows values columns)
  unfolding pair_steps
  pair_steps-fault =
      let m = length columns in
      fault-steps (some_pair (absent_pair starts rows values) columns) (some_pair (beyond_pair max_range_entry starts rows values) columns)
      (all_absent absent beyond (λ a. 0) (λ a. m) m ∙ from_zero absent m)
      (all_either absent beyond (λ a. 0) (λ a. m) m ∙ ap₂ ◌||◌ (from_zero absent m) (from_zero beyond m))

-- ---- what has passed
module _ (starts rows : List ℕ) (values : List ℤ) (columns : List ℕ) (lows highs : List ℤ) where
  abbrev of_result : List Step
  of_result = result_steps starts rows (length values)

  abbrev of_row : List Step
  of_row = range_row_steps (dimension starts) columns (length lows) (length highs)

  abbrev of_weights : List Step
  of_weights = weight_steps (length columns) lows highs

  abbrev of_pairs : List Step
  of_pairs = pair_steps starts rows values columns

  pub equal_lengths : Passed of_row → (length columns ≡ length lows) × (length columns ≡ length highs)
  unfolding range_row_steps
  equal_lengths p =
      let d = passed_clear of_row p in
      (eqb-true _ _ (not-false _ d.0), eqb-true _ _ (not-false _ d.1.0))

  few_terms : Passed of_weights → length columns ≤ max_terms
  unfolding weight_steps
  few_terms p = ltb-false max_terms (length columns) (passed_clear of_weights p).0

  good_range : Passed of_weights → (a : ℕ) → a < length columns → bad_range lows highs a ≡ false
  unfolding weight_steps
  good_range p a l = any_below (bad_range lows highs) (length columns) a (passed_clear of_weights p).1.0 l

  pair_test : (test : ℕ → ℕ → Bool) → some_pair test columns ≡ false → (a b : ℕ) → a < length columns → b < length columns
      → test (term_column columns a) (term_column columns b) ≡ false
  pair_test test p a b h l =
      any_below (λ j. test (term_column columns a) (term_column columns j)) (length columns) b
      (any_below (λ i. any (λ j. test (term_column columns i) (term_column columns j)) (length columns)) (length columns) a p h) l

  present_pair : Passed of_pairs → (a b : ℕ) → a < length columns → b < length columns
      → lookup_of (pos 0) starts rows values (term_column columns a) (term_column columns b) ≡ answered (row_entry starts rows values columns a b)
  unfolding pair_steps
  present_pair p a b h l =
      present_found starts rows values (term_column columns a) (term_column columns b)
      (pair_test (absent_pair starts rows values) (passed_clear of_pairs p).0 a b h l)

  small_entry : Passed of_pairs → (a b : ℕ) → a < length columns → b < length columns → ltb max_range_entry (nat_abs (row_entry starts rows values columns a b)) ≡ false
  unfolding pair_steps
  small_entry p = pair_test (beyond_pair max_range_entry starts rows values) (passed_clear of_pairs p).1.0

  -- ---- the groups, one after the other
  module _ (result : Passed of_result) where
    pub range_row : {k : ℕ} → verdict of_row ≡ refused k → refused k ≡ verdict (range_steps starts rows values columns lows highs)
    unfolding range_steps
    range_row e = sym (grouped-refused (of_result ∷ []) of_row (of_weights ∷ of_pairs ∷ []) (result, tt) e)

    module _ (row : Passed of_row) where
      pub range_weights : {k : ℕ} → verdict of_weights ≡ refused k → refused k ≡ verdict (range_steps starts rows values columns lows highs)
      unfolding range_steps
      range_weights e = sym (grouped-refused (of_result ∷ of_row ∷ []) of_weights (of_pairs ∷ []) (result, (row, tt)) e)

      pub range_pairs : Passed of_weights → verdict of_pairs ≡ verdict (range_steps starts rows values columns lows highs)
      unfolding range_steps
      range_pairs weights = sym (grouped_last (of_result ∷ of_row ∷ of_weights ∷ []) of_pairs (result, (row, (weights, tt))))

  pub range_result : {k : ℕ} → verdict of_result ≡ refused k → refused k ≡ verdict (range_steps starts rows values columns lows highs)
  unfolding range_steps
  range_result e = sym (grouped-refused [] of_result (of_row ∷ of_weights ∷ of_pairs ∷ []) tt e)

  -- ---- all of them
  pub ranges_ready : Passed (range_steps starts rows values columns lows highs) → RangesReady starts rows values columns lows highs
  unfolding range_steps
  ranges_ready p =
      let g = groups_passed (of_result ∷ of_row ∷ of_weights ∷ of_pairs ∷ []) p in
      let e = equal_lengths g.1.0 in
      let w = good_range g.1.1.0 in
      record {
        well = result_steps-sound starts rows (length values) g.0;
        lows_long = e.0;
        highs_long = e.1;
        few = few_terms g.1.1.0;
        low = λ a l. record { size = ltb-false max_weight (nat_abs (whole_value lows a)) (or_neither_left (ltb max_weight (nat_abs (whole_value lows a))) _ (w a l)) };
        high = λ a l. record {
          size =
              ltb-false max_weight (nat_abs (whole_value highs a))
              (or_neither_left (ltb max_weight (nat_abs (whole_value highs a))) _
              (or_neither_right (ltb max_weight (nat_abs (whole_value lows a))) _ (w a l)));
        };
        found = present_pair g.1.1.1.0;
        entry = λ a b h l. record { size = ltb-false max_range_entry _ (small_entry g.1.1.1.0 a b h l) };
      }

-- ---- 9, case by case
module _ (n : ℕ) (columns : List ℕ) (lows highs : ℕ) where
  pub row_lows : (length columns ≡ lows → ⊥) → refused 9 ≡ verdict (range_row_steps n columns lows highs)
  unfolding range_row_steps
  row_lows h = sym (first_hit 9 _ _ (ap not (ne_eqb _ _ h)))

  module _ (l : length columns ≡ lows) where
    pub row_highs : (length columns ≡ highs → ⊥) → refused 9 ≡ verdict (range_row_steps n columns lows highs)
    unfolding range_row_steps
    row_highs h = sym (first_skip 9 _ _ (ap not (eq-eqb _ _ l)) (first_hit 9 _ _ (ap not (ne_eqb _ _ h))))

    module _ (g : length columns ≡ highs) where
      pub row_outside : outside n columns ≡ true → refused 9 ≡ verdict (range_row_steps n columns lows highs)
      unfolding range_row_steps
      row_outside h = sym (first_skip 9 _ _ (ap not (eq-eqb _ _ l)) (first_skip 9 _ _ (ap not (eq-eqb _ _ g)) (first_hit 9 _ _ h)))

      module _ (inside : outside n columns ≡ false) where
        pub row_repeated : repeated columns ≡ true → refused 9 ≡ verdict (range_row_steps n columns lows highs)
        unfolding range_row_steps
        row_repeated h = sym (first_skip 9 _ _ (ap not (eq-eqb _ _ l)) (first_skip 9 _ _ (ap not (eq-eqb _ _ g)) (first_skip 9 _ _ inside (first_hit 9 _ _ h))))

        pub row_passed : repeated columns ≡ false → answered tt ≡ verdict (range_row_steps n columns lows highs)
        unfolding range_row_steps
        row_passed h = sym (first_skip 9 _ _ (ap not (eq-eqb _ _ l)) (first_skip 9 _ _ (ap not (eq-eqb _ _ g)) (first_skip 9 _ _ inside (first_skip 9 _ _ h (first_end tt)))))

-- ---- 21
module _ (terms : ℕ) (lows highs : List ℤ) where
  pub weights_many : max_terms < terms → refused 21 ≡ verdict (weight_steps terms lows highs)
  unfolding weight_steps
  weights_many h = sym (first_hit 21 _ _ (lt-ltb _ _ h))

  pub weights_bad : terms ≤ max_terms → any (bad_range lows highs) terms ≡ true → refused 21 ≡ verdict (weight_steps terms lows highs)
  unfolding weight_steps
  weights_bad l h = sym (first_skip 21 _ _ (le-ltb _ _ l) (first_hit 21 _ _ h))

  pub weights_passed : terms ≤ max_terms → any (bad_range lows highs) terms ≡ false → answered tt ≡ verdict (weight_steps terms lows highs)
  unfolding weight_steps
  weights_passed l h = sym (first_skip 21 _ _ (le-ltb _ _ l) (first_skip 21 _ _ h (first_end tt)))

module _ (lows highs : List ℤ) (a : ℕ) where
  pub bad_low : max_weight < nat_abs (whole_value lows a) → true ≡ bad_range lows highs a
  bad_low h = sym (or_left _ _ (lt-ltb _ _ h))

  pub bad_high : max_weight < nat_abs (whole_value highs a) → true ≡ bad_range lows highs a
  bad_high h = sym (or_right (ltb max_weight (nat_abs (whole_value lows a))) _ (or_left _ _ (lt-ltb _ _ h)))

  pub bad_order : nat_abs (whole_value lows a) ≤ max_weight → nat_abs (whole_value highs a) ≤ max_weight → lt_z (whole_value highs a) (whole_value lows a) ≡ bad_range lows highs a
  bad_order l h = sym (ap₂ (λ (x y : Bool). x || (y || lt_z (whole_value highs a) (whole_value lows a))) (le-ltb max_weight (nat_abs (whole_value lows a)) l) (le-ltb max_weight (nat_abs (whole_value highs a)) h))

-- ---- the square's three cases
below_not : (a b : ℤ) → lt_z a b ≡ true → le_z b a ≡ false
below_not (pos a) (pos b) e = lt-leb b a (ltb-true a b e)
below_not (pos a) (negsuc b) e = absurd (false≢true e)
below_not (negsuc a) (pos b) e = refl
below_not (negsuc a) (negsuc b) e = lt-leb a b (ltb-true b a e)

module _ (lo hi : ℤ) where
  pub square_above : lt_z (pos 0) lo ≡ true → least_square lo hi ≡ minℤ (lo *ℤ lo) (hi *ℤ hi)
  square_above e = ap (λ (t : Bool). cond (t && le_z (pos 0) hi) (pos 0) (minℤ (lo *ℤ lo) (hi *ℤ hi))) (below_not (pos 0) lo e)

  pub square_below : lt_z (pos 0) lo ≡ false → lt_z hi (pos 0) ≡ true → least_square lo hi ≡ minℤ (lo *ℤ lo) (hi *ℤ hi)
  square_below e f =
      ap₂ (λ (s t : Bool). cond (s && t) (pos 0) (minℤ (lo *ℤ lo) (hi *ℤ hi))) (le_test (not_below_lem lo (pos 0) e)) (below_not hi (pos 0) f)

  pub square_zero : lt_z (pos 0) lo ≡ false → lt_z hi (pos 0) ≡ false → least_square lo hi ≡ pos 0
  square_zero e f =
      ap₂ (λ (s t : Bool). cond (s && t) (pos 0) (minℤ (lo *ℤ lo) (hi *ℤ hi))) (le_test (not_below_lem lo (pos 0) e)) (le_test (not_below_lem (pos 0) hi f))
