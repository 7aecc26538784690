-- Laws of specs/Promise.antt.
use Rattle.std.specs.Prelude.{ℕ, ◌*◌, ◌<◌, ◌≡◌, List, length, ℤ, pos, ◌≤ℤ◌}
use Rattle.std.proofs.Common.{arith, sym, ap, subst, ◌∙◌, ext_get_or}
use Rattle.refusal.specs.Steps.{answered}
use Rattle.refusal.proofs.Told.{told_passed, told_answer}
use Rattle.columns.specs.WholeFactor.{whole_value}
use Rattle.quadratic_form.specs.RowValue.{term_column}
use Rattle.result.specs.Lookup.{lookup_of}
use Rattle.whole_pairs.specs.Entry.{entry_or_zero}
use Rattle.weight_bounds.specs.Bounds.{InRange, Scaled, variance}
use Rattle.weight_bounds.proofs.Within.{bounds_hold, bounds_scaled}
use Rattle.weight_bounds.specs.Wider.{Wider}
use Rattle.weight_bounds.proofs.Wider.{low_bound_wider, high_bound_wider}
use Rattle.weight_bounds.proofs.Single.{low_bound-single, high_bound-single, variance-quadratic}
use Rattle.weight_ranges.specs.Ranges.{row_entry, low_bound_of, high_bound_of, range_steps, range_bounds}
use Rattle.weight_ranges.specs.Sizes.{RangesReady}
use Rattle.weight_ranges.proofs.Laws.{ranges_ready}
use Rattle.weight_ranges.specs.Promise.{BoundsAnswered, row_variance}

module _ (starts rows : List ℕ) (values : List ℤ) (columns : List ℕ) (lows highs : List ℤ) {low high : ℤ} (reply : BoundsAnswered starts rows values columns lows highs low high) where
  told : (low, high) ≡ range_bounds starts rows values columns lows highs
  told = told_answer (range_steps starts rows values columns lows highs) (range_bounds starts rows values columns lows highs) reply

  pub low_is : low ≡ low_bound_of starts rows values columns lows highs
  low_is = ap (λ (p : ℤ × ℤ). p.0) told

  pub high_is : high ≡ high_bound_of starts rows values columns lows highs
  high_is = ap (λ (p : ℤ × ℤ). p.1) told

-- ---- an answer
module _ (starts rows : List ℕ) (values : List ℤ) (columns : List ℕ) (lows highs : List ℤ) {low high : ℤ} (reply : BoundsAnswered starts rows values columns lows highs low high) where
  is_low : low ≡ low_bound_of starts rows values columns lows highs
  is_low = low_is starts rows values columns lows highs reply

  is_high : high ≡ high_bound_of starts rows values columns lows highs
  is_high = high_is starts rows values columns lows highs reply

  answered_ready : RangesReady starts rows values columns lows highs
  answered_ready = ranges_ready starts rows values columns lows highs (told_passed (range_steps starts rows values columns lows highs) (range_bounds starts rows values columns lows highs) reply)

  -- the lookup finds every pair of the columns, and what it finds is the entry that the bounds are made of
  pub answer_found : (a b : ℕ) → a < length columns → b < length columns
      → lookup_of (pos 0) starts rows values (term_column columns a) (term_column columns b) ≡ answered (row_entry starts rows values columns a b)
  answer_found = answered_ready.found

  is_variance : (v : ℕ → ℤ) → variance v (row_entry starts rows values columns) (length columns) ≡ row_variance columns v (entry_or_zero starts rows values)
  is_variance v = variance-quadratic (term_column columns) v (entry_or_zero starts rows values) (length columns)

  -- whole weights
  pub answer_holds : (v : ℕ → ℤ) → ((a : ℕ) → a < length columns → InRange (whole_value lows a) (v a) (whole_value highs a))
      → InRange low (row_variance columns v (entry_or_zero starts rows values)) high
  answer_holds v B =
      rw (is_low, is_high)
      (subst (λ (z : ℤ). InRange (low_bound_of starts rows values columns lows highs) z (high_bound_of starts rows values columns lows highs)) (is_variance v)
      (bounds_hold (whole_value lows) (whole_value highs) (row_entry starts rows values columns) (length columns) v B))

  -- fractions v / q
  pub answer_scaled : (q : ℕ) (v : ℕ → ℤ) → ((a : ℕ) → a < length columns → Scaled q (whole_value lows a) (v a) (whole_value highs a))
      → Scaled (q * q) low (row_variance columns v (entry_or_zero starts rows values)) high
  answer_scaled q v B =
      rw (is_low, is_high)
      (subst (λ (z : ℤ). Scaled (q * q) (low_bound_of starts rows values columns lows highs) z (high_bound_of starts rows values columns lows highs)) (is_variance v)
      (bounds_scaled (whole_value lows) (whole_value highs) (row_entry starts rows values columns) q (length columns) v B))

  -- equal ends
  pub answer_single : ((a : ℕ) → a < length columns → whole_value lows a ≡ whole_value highs a)
      → let w = row_variance columns (whole_value lows) (entry_or_zero starts rows values) in (low ≡ w) × (high ≡ w)
  answer_single same =
      let R = answered_ready in
      let l : length columns ≡ length lows = R.lows_long in
      let h : length columns ≡ length highs = R.highs_long in
      let e : highs ≡ lows = sym (ext_get_or (pos 0) lows highs (sym l ∙ h) (λ a k. same a (omega arith))) in (
        is_low ∙ ap (λ (x : List ℤ). low_bound_of starts rows values columns lows x) e
            ∙ low_bound-single (whole_value lows) (row_entry starts rows values columns) (length columns) ∙ is_variance (whole_value lows),
        is_high ∙ ap (λ (x : List ℤ). high_bound_of starts rows values columns lows x) e
            ∙ high_bound-single (whole_value lows) (row_entry starts rows values columns) (length columns) ∙ is_variance (whole_value lows),
      )

  -- wider ranges
  pub answer_wider : (lows' highs' : List ℤ) {low' high' : ℤ} → BoundsAnswered starts rows values columns lows' highs' low' high'
      → Wider (whole_value lows) (whole_value highs) (whole_value lows') (whole_value highs') (length columns) → (low' ≤ℤ low) × (high ≤ℤ high')
  answer_wider lows' highs' reply' W = (
    rw (is_low, low_is starts rows values columns lows' highs' reply') (low_bound_wider (whole_value lows) (whole_value highs) (whole_value lows') (whole_value highs') (row_entry starts rows values columns) (length columns) W),
    rw (is_high, high_is starts rows values columns lows' highs' reply') (high_bound_wider (whole_value lows) (whole_value highs) (whole_value lows') (whole_value highs') (row_entry starts rows values columns) (length columns) W),
  )
