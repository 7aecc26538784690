-- Laws of specs/Pivots.antt.
use Rattle.std.specs.Prelude.{ℕ, ◌<◌, ◌≡◌, List, length, Float}
use Rattle.std.proofs.Common.{sym, subst}
use Rattle.std.proofs.Math.Path.{ap}
use Rattle.std.proofs.Math.Bool.{not}
use borrow.Author.Tests.{eqb-true, not-false, eq-eqb}
use Rattle.lists.specs.Test.{any_below, any_all}
use Rattle.refusal.specs.Steps.{Passed}
use Rattle.refusal.proofs.Steps.{passed_clear, clear_passed}
use Rattle.columns.specs.Kept.{not_finite}
use Rattle.columns.specs.Form.{Pivots}
use Rattle.columns.specs.Pivots.{pivot_list_steps, low_pivot, pivot_steps}

-- ---- the steps pass exactly if the pivots are as they must be
module _ (n : ℕ) (pivots : List Float) where
  pub pivot_list_steps_long : Passed (pivot_list_steps n pivots) → length pivots ≡ n
  unfolding pivot_list_steps
  pivot_list_steps_long e = eqb-true _ _ (not-false _ (passed_clear (pivot_list_steps n pivots) e).0)

  pub pivot_steps-sound : Passed (pivot_list_steps n pivots) → Passed (pivot_steps n pivots) → Pivots n pivots
  unfolding pivot_list_steps pivot_steps
  pivot_steps-sound e f =
      let long = pivot_list_steps_long e in
      record {
        long = long;
        finite_pivot = λ c h.
            not-false _ (any_below (not_finite pivots) (length pivots) c (passed_clear (pivot_list_steps n pivots) e).1.0 (subst (λ (k : ℕ). c < k) (sym long) h));
        positive = λ c h. any_below (low_pivot pivots) n c (passed_clear (pivot_steps n pivots) f).0 h;
      }

  pub pivot_steps_passed : Pivots n pivots → Passed (pivot_list_steps n pivots) × Passed (pivot_steps n pivots)
  unfolding pivot_list_steps pivot_steps
  pivot_steps_passed P = (
    clear_passed (pivot_list_steps n pivots) (
      ap not (eq-eqb _ _ P.long),
      (any_all (not_finite pivots) (length pivots) (λ c h. ap not (P.finite_pivot c (subst (λ (k : ℕ). c < k) P.long h))), tt),
    ),
    clear_passed (pivot_steps n pivots) (any_all (low_pivot pivots) n P.positive, tt),
  )
