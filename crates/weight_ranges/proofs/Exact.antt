-- Laws of specs/Exact.antt.
use Rattle.std.specs.Prelude.{ℕ, ◌+◌, ◌*◌, ◌<◌, ◌≡◌, List, length, take, ℤ, ◌*ℤ◌}
use Rattle.std.proofs.Common.{arith, ap, subst, ◌∙◌}
use Rattle.integers.proofs.Sum.{sum_cong}
use Rattle.integers.specs.Matrix.{Matrix}
use Rattle.columns.specs.WholeFactor.{whole_value}
use Rattle.quadratic_form.specs.RowValue.{term_column}
use Rattle.diagnostics.specs.declared.SelectedInverseStatus.TheVariants.{Complete}
use Rattle.selection.specs.Selection.{LentOf}
use Rattle.whole_selection.specs.Call.{WholeCall, whole_answer}
use Rattle.whole_selection.specs.ReadBack.{ReadsWhole}
use Rattle.whole_selection.proofs.ReadBack.{reads_found}
use Rattle.whole_pairs.specs.Entry.{entry_or_zero}
use Rattle.weight_bounds.specs.Bounds.{InRange, Scaled}
use Rattle.weight_ranges.specs.Ranges.{row_entry}
use Rattle.weight_ranges.specs.Promise.{row_variance}
use Rattle.weight_ranges.proofs.Promise.{answer_found, answer_holds, answer_scaled, answer_single}
use Rattle.weight_ranges.specs.Exact.{BoundsAfter}

module _ (x : WholeCall) (left : LentOf ℤ) (X : Matrix) (R : ReadsWhole x left X) (complete : (whole_answer x).status ≡ Complete)
    (columns : List ℕ) (lows highs : List ℤ) {low high : ℤ} (reply : BoundsAfter x left columns lows highs low high) where
  abbrev starts : List ℕ
  starts = take (x.factor.n + 1) left.result_starts

  -- the entries that the bounds are made of are the inverse's
  pub inverse_entry : (a b : ℕ) → a < length columns → b < length columns
      → row_entry starts left.result_rows left.result_values columns a b ≡ X (term_column columns a) (term_column columns b)
  inverse_entry a b h l =
      reads_found x left X R complete (term_column columns a) (term_column columns b)
      (answer_found starts left.result_rows left.result_values columns lows highs reply a b h l)

  same_variance : (v : ℕ → ℤ) → row_variance columns v (entry_or_zero starts left.result_rows left.result_values) ≡ row_variance columns v X
  same_variance v =
      sum_cong (length columns) _ _
      (λ a h. sum_cong (length columns) _ _ (λ b l. ap (λ (z : ℤ). v (0 + a) *ℤ v (0 + b) *ℤ z) (inverse_entry (0 + a) (0 + b) (omega arith) (omega arith))))

  -- whole weights, fractions v / q, equal ends
  pub inverse_holds : (v : ℕ → ℤ) → ((a : ℕ) → a < length columns → InRange (whole_value lows a) (v a) (whole_value highs a)) → InRange low (row_variance columns v X) high
  inverse_holds v B =
      subst (λ (z : ℤ). InRange low z high) (same_variance v) (answer_holds starts left.result_rows left.result_values columns lows highs reply v B)

  pub inverse_scaled : (q : ℕ) (v : ℕ → ℤ) → ((a : ℕ) → a < length columns → Scaled q (whole_value lows a) (v a) (whole_value highs a))
      → Scaled (q * q) low (row_variance columns v X) high
  inverse_scaled q v B =
      subst (λ (z : ℤ). Scaled (q * q) low z high) (same_variance v) (answer_scaled starts left.result_rows left.result_values columns lows highs reply q v B)

  pub inverse-single : ((a : ℕ) → a < length columns → whole_value lows a ≡ whole_value highs a)
      → let w = row_variance columns (whole_value lows) X in (low ≡ w) × (high ≡ w)
  inverse-single same =
      let s = answer_single starts left.result_rows left.result_values columns lows highs reply same in
      (s.0 ∙ same_variance (whole_value lows), s.1 ∙ same_variance (whole_value lows))
