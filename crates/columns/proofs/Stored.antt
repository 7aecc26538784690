-- Laws of specs/Stored.antt.
use Rattle.std.specs.Prelude.{ℕ, ◌+◌, ◌≤◌, ◌<◌, ◌≡◌, Bool, ◌&&◌, List, length, Float}
use Rattle.std.proofs.Math.Path.{refl, ap}
use Rattle.std.proofs.Common.{sym, ◌∙◌}
use Rattle.std.proofs.Math.Bool.{true, false, not}
use borrow.Author.Tests.{not-false}
use Rattle.lists.specs.Test.{any_below, any_all, any_in_below, any_in_all}
use Rattle.refusal.specs.Steps.{Step, Passed}
use Rattle.refusal.proofs.Steps.{passed_clear, clear_passed, passed_append, passed_front, passed_back}
use Rattle.columns.specs.Columns.{FactorLists, start, bound_steps, column_steps}
use Rattle.columns.specs.Kept.{nonzero, not_finite, kept}
use Rattle.columns.specs.Factor.{FactorBounded, Factor}
use Rattle.columns.proofs.Factor.{bound_steps-sound, bound_steps_passed, column_steps-sound, column_steps_passed}
use Rattle.columns.specs.Stored.{kept_not_finite, not_finite_column, finite_steps, stored_steps, factor_steps, FiniteEntries}

-- ---- the steps pass exactly if the records hold
module _ (n : ℕ) (starts rows : List ℕ) (values : List Float) where
  pub finite_steps-sound : Passed (finite_steps n starts rows values) → FiniteEntries n starts rows values
  unfolding finite_steps
  finite_steps-sound e =
      let none = (passed_clear (finite_steps n starts rows values) e).0 in
      record {
        finite_kept = λ c p h lo hi k.
            not-false _ (ap (λ (b : Bool). b && not_finite values p) (sym k)
            ∙ any_in_below (kept_not_finite rows values c) _ _ p (any_below (not_finite_column starts rows values) n c none h) lo hi);
      }

  pub finite_steps_passed : FiniteEntries n starts rows values → Passed (finite_steps n starts rows values)
  unfolding finite_steps
  finite_steps_passed E =
      clear_passed (finite_steps n starts rows values)
      (any_all (not_finite_column starts rows values) n (λ c h. any_in_all (kept_not_finite rows values c) _ _ (passes c h)), tt)
    where
      passes : (c : ℕ) → c < n → (p : ℕ) → start starts c ≤ p → p < start starts (c + 1) → kept_not_finite rows values c p ≡ false
      passes c h p lo hi = by_kept (kept rows (nonzero values) c p) refl
        where
          by_kept : (b : Bool) → kept rows (nonzero values) c p ≡ b → (b && not_finite values p) ≡ false
          by_kept true k = ap not (E.finite_kept c p h lo hi k)
          by_kept false k = refl

module _ (f : FactorLists Float) where
  abbrev columns : List Step
  columns = column_steps f.n f.starts f.rows (length f.values)

  abbrev finites : List Step
  finites = finite_steps f.n f.starts f.rows f.values

  pub stored_steps-sound : Passed (stored_steps f) → Factor f.n f.starts f.rows (length f.values)
  unfolding stored_steps
  stored_steps-sound e = column_steps-sound f.n f.starts f.rows (length f.values) (passed_front columns finites e)

  pub stored_steps_finite : Passed (stored_steps f) → FiniteEntries f.n f.starts f.rows f.values
  unfolding stored_steps
  stored_steps_finite e = finite_steps-sound f.n f.starts f.rows f.values (passed_back columns finites e)

  pub stored_steps_passed : Factor f.n f.starts f.rows (length f.values) → FiniteEntries f.n f.starts f.rows f.values → Passed (stored_steps f)
  unfolding stored_steps
  stored_steps_passed F E = passed_append columns finites (column_steps_passed f.n f.starts f.rows (length f.values) F) (finite_steps_passed f.n f.starts f.rows f.values E)

  abbrev bounds : List Step
  bounds = bound_steps f.n (length f.rows)

  abbrev stored : List Step
  stored = stored_steps f

  pub factor_steps_bounded : Passed (factor_steps f) → FactorBounded f.n (length f.rows)
  unfolding factor_steps
  factor_steps_bounded e = bound_steps-sound f.n (length f.rows) (passed_front bounds stored e)

  pub factor_steps_stored : Passed (factor_steps f) → Passed (stored_steps f)
  unfolding factor_steps
  factor_steps_stored e = passed_back bounds stored e

  pub factor_steps-sound : Passed (factor_steps f) → Factor f.n f.starts f.rows (length f.values)
  factor_steps-sound e = stored_steps-sound (factor_steps_stored e)

  pub factor_steps_finite : Passed (factor_steps f) → FiniteEntries f.n f.starts f.rows f.values
  factor_steps_finite e = stored_steps_finite (factor_steps_stored e)

  pub factor_steps_passed : FactorBounded f.n (length f.rows) → Factor f.n f.starts f.rows (length f.values) → FiniteEntries f.n f.starts f.rows f.values
      → Passed (factor_steps f)
  unfolding factor_steps
  factor_steps_passed B F E = passed_append bounds stored (bound_steps_passed f.n (length f.rows) B) (stored_steps_passed F E)
