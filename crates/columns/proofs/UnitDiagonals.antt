-- Laws of specs/UnitDiagonals.antt.
use Rattle.std.specs.Prelude.{ℕ, ◌<◌, ◌≡◌, Bool, ◌&&◌, List}
use Rattle.std.proofs.Math.Path.{refl, ap}
use Rattle.std.proofs.Common.{sym, ◌∙◌}
use Rattle.std.proofs.Math.Bool.{true, false, not}
use borrow.Author.Tests.{not-false}
use Rattle.lists.specs.Test.{any_below, any_all, any_in_below, any_in_all}
use Rattle.refusal.specs.Steps.{Passed}
use Rattle.refusal.proofs.Steps.{passed_clear, clear_passed}
use Rattle.columns.specs.Kept.{kept_diagonal}
use Rattle.columns.specs.Factor.{Sorted}
use Rattle.columns.specs.Diagonal.{no_diagonal, Diagonal}
use Rattle.columns.proofs.Diagonal.{diagonal_one, diagonal_there}
use Rattle.columns.specs.UnitDiagonals.{other_than_one, other_diagonal, unit_steps, missing_steps, UnitDiagonals, Units}

module _ (n : ℕ) (starts rows : List ℕ) (nz one : ℕ → Bool) where
  -- ---- the steps pass exactly if these hold
  pub unit_steps_sound : (number : ℕ) → Passed (unit_steps number n starts rows nz one) → (UnitDiagonals n starts rows nz one)
  unfolding unit_steps
  unit_steps_sound number e c p h lo hi k =
      let other = any_below (other_diagonal rows nz one starts) n c (passed_clear _ e).0 h in
      not-false _ (sym (ap (λ (b : Bool). b && not (one p)) k) ∙ any_in_below (other_than_one rows nz one c) _ _ p other lo hi)

  pub unit_steps_passed : (number : ℕ) → (UnitDiagonals n starts rows nz one) → Passed (unit_steps number n starts rows nz one)
  unfolding unit_steps
  unit_steps_passed number U =
      clear_passed (unit_steps number n starts rows nz one)
      (any_all (other_diagonal rows nz one starts) n (λ c h. any_in_all (other_than_one rows nz one c) _ _ (λ p lo hi. by_kept c p (U c p h lo hi) (kept_diagonal rows nz c p) refl)), tt)
    where
      by_kept : (c p : ℕ) → (kept_diagonal rows nz c p ≡ true → one p ≡ true) → (b : Bool) → kept_diagonal rows nz c p ≡ b → (b && not (one p)) ≡ false
      by_kept c p u true k = ap not (u k)
      by_kept c p u false k = refl

  pub missing_steps_sound : Sorted n starts rows → Passed (missing_steps n starts rows nz) → (c : ℕ) → c < n → Diagonal starts rows nz c
  unfolding missing_steps
  missing_steps_sound R e c h = diagonal_one nz R c h (any_below (no_diagonal starts rows nz) n c (passed_clear _ e).0 h)

  pub missing_steps_passed : ((c : ℕ) → c < n → Diagonal starts rows nz c) → Passed (missing_steps n starts rows nz)
  unfolding missing_steps
  missing_steps_passed D = clear_passed (missing_steps n starts rows nz) (any_all (no_diagonal starts rows nz) n (λ c h. diagonal_there nz (D c h)), tt)

  pub units_sound : (number : ℕ) → Sorted n starts rows → Passed (unit_steps number n starts rows nz one) → Passed (missing_steps n starts rows nz) → (Units n starts rows nz one)
  units_sound number R u m = record {
    diagonal = missing_steps_sound R m;
    unit = λ c h. let D = missing_steps_sound R m c h in unit_steps_sound number u c D.place h D.from D.below D.kept;
  }
