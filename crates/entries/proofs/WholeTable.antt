-- Laws of specs/WholeTable.antt.
use Rattle.std.specs.Prelude.{ℕ, suc, ◌+◌, ◌≤◌, ◌<◌, ◌≡◌, refl, Bool, true, false, ◌&&◌, ◌↔◌, List, length, ℤ}
use Rattle.std.proofs.Common.{sym, ap, ◌∙◌}
use Rattle.std.proofs.Math.Path.{ap₂}
use Rattle.std.proofs.Math.Bool.{◌||◌}
use Rattle.lists.specs.Test.{any, any_below, any_all, any_in_below, any_in_all, or_neither_left, or_neither_right}
use Rattle.columns.specs.Columns.{start}
use Rattle.columns.specs.Kept.{kept}
use Rattle.columns.specs.Factor.{Factor}
use Rattle.columns.specs.WholeFactor.{whole_value, whole_nonzero, whole_stored, whole_desc}
use Rattle.takahashi.specs.Entries.{Ascend}
use Rattle.takahashi.specs.Recurrence.{RecurrenceClosed}
use Rattle.exact.specs.Multiple.{Small}
use Rattle.exact.specs.ExactCase.{WithinBound}
use Rattle.exact.specs.Checked.{beyond}
use Rattle.exact.proofs.Checked.{small_within, within_small}
use Rattle.exact.proofs.Exceeds.{none_within, within_none}
use Rattle.entries.proofs.Descendants.{places_ascend}
use Rattle.entries.specs.WholeTable.{whole_table, kept_exceeds, exceeds, KeptSmall}

-- the descendants' rows ascend
pub whole_desc-ascend : {n : ℕ} {starts rows : List ℕ} (values : List ℤ) → Factor n starts rows (length values) → (j : ℕ) → j < n
    → Ascend n (suc j) (whole_desc starts rows values j)
whole_desc-ascend {rows = rows} values F j h = places_ascend (whole_stored rows values) (whole_nonzero values) F (λ p. refl) j h

module _ (n : ℕ) (starts rows : List ℕ) (values : List ℤ) where
  -- no kept entry exceeds exactly if each is small
  pub kept_exceeds_none : any (kept_exceeds starts rows values) n ≡ false → KeptSmall n starts rows values
  kept_exceeds_none e c p h lo hi k =
      let none = any_in_below _ (start starts c) (start starts (c + 1)) p (any_below (kept_exceeds starts rows values) n c e h) lo hi in
      within_small (whole_value values p) (sym (ap (λ (b : Bool). b && beyond (whole_value values p)) k) ∙ none)

  pub kept_exceeds_small : KeptSmall n starts rows values → any (kept_exceeds starts rows values) n ≡ false
  kept_exceeds_small K =
      any_all (kept_exceeds starts rows values) n
      (λ c h. any_in_all _ (start starts c) (start starts (c + 1)) (λ p lo hi. none c p (K c p h lo hi) (kept rows (whole_nonzero values) c p) refl))
    where
      none : (c p : ℕ) → (kept rows (whole_nonzero values) c p ≡ true → Small (whole_value values p)) → (b : Bool)
          → kept rows (whole_nonzero values) c p ≡ b → (b && beyond (whole_value values p)) ≡ false
      none c p s true k = small_within (whole_value values p) (s k)
      none c p s false k = refl

  module _ (S : ℕ → ℕ → Bool) (In : ℕ → ℕ → Type 0) (same : (i j : ℕ) → j ≤ i → i < n → (S i j ≡ true) ↔ In i j)
      (closed : RecurrenceClosed n (whole_desc starts rows values) In) where
    -- nothing exceeds exactly if the kept entries are small and the recurrence over the set stays within the bound of the exact case
    pub whole_within : (exceeds n starts rows values S ≡ false) ↔ (KeptSmall n starts rows values × WithinBound n (whole_desc starts rows values) In)
    unfolding whole_table
    whole_within = (
      (λ e. (
        kept_exceeds_none (or_neither_left _ _ e),
        none_within n (whole_desc starts rows values) S In same closed (or_neither_right (any (kept_exceeds starts rows values) n) _ e),
      )),
      (λ w. ap₂ ◌||◌ (kept_exceeds_small w.0) (within_none n (whole_desc starts rows values) S In same closed w.1)),
    )
