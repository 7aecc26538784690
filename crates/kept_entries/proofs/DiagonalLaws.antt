-- The kept diagonal of a column whose rows ascend: one place decides.
-- Assumes nothing.
use Prim.Native.Nat.{ℕ, ◌<◌}
use native.Mathlib.Decide.{ℕ_discrete}
use mathlib.Core.Path.{◌≡◌, refl, ap, subst, ◌∙◌}
use mathlib.Core.Bool.{Bool, true, false, not, cond, ◌&&◌}
use mathlib.Core.List.{List}
use Rattle.std.specs.Prelude.{None, Some}
use borrow.Author.Tests.{ne_eqb, eq-eqb}
use Rattle.lists.specs.Test.{any_in, any_in_all, any_in-hit}
use Rattle.columns.specs.Columns.{row}
use Rattle.columns.specs.Kept.{kept_diagonal}
use Rattle.columns.specs.Factor.{Column, FirstFrom}
use Rattle.columns.proofs.Diagonal.{first_from_only}
use Rattle.columns.specs.UnitDiagonals.{other_than_one}
use Rattle.kept_entries.specs.DiagonalIs.{DiagonalIs}

module _ {c : ℕ} {rows : List ℕ} {count s e p : ℕ} (C : Column rows count s e) (F : FirstFrom c rows s e p) (test : ℕ → Bool)
    (off : (q : ℕ) → (row rows q ≡ c → ⊥) → test q ≡ false) where
  -- without that row at the first place no place passes
  pub place_none : (p < e → row rows p ≡ c → ⊥) → any_in test s e ≡ false
  place_none none = any_in_all test s e (λ q lo hi. elim (ℕ_discrete (row rows q) c) [
    | yes r ↦
        let m = first_from_only C F q lo hi r in
        absurd (none (subst (λ (k : ℕ). k < e) m hi) (subst (λ (k : ℕ). row rows k ≡ c) m r))
    | no d ↦ off q d
  ])

  -- and else that place decides
  pub place_one : p < e → any_in test s e ≡ test p
  place_one l = go (test p) refl
    where
      go : (b : Bool) → test p ≡ b → any_in test s e ≡ b
      go true t = any_in-hit test s e p F.from l t
      go false t = any_in_all test s e (λ q lo hi. elim (ℕ_discrete q p) [
        | yes m ↦ ap test m ∙ t
        | no d ↦ off q (λ r. d (first_from_only C F q lo hi r))
      ])

-- the tests of a diagonal fail at other rows
module _ (c : ℕ) (rows : List ℕ) (nz one : ℕ → Bool) where
  pub kept_off : (q : ℕ) → (row rows q ≡ c → ⊥) → kept_diagonal rows nz c q ≡ false
  kept_off q d = ap (λ (b : Bool). b && nz q) (ne_eqb (row rows q) c d)

  pub other_off : (q : ℕ) → (row rows q ≡ c → ⊥) → other_than_one rows nz one c q ≡ false
  other_off q d = ap (λ (b : Bool). b && not (one q)) (kept_off q d)

module _ {c : ℕ} {rows : List ℕ} {count s e p : ℕ} (C : Column rows count s e) (F : FirstFrom c rows s e p) (nz one : ℕ → Bool) where
  -- without a diagonal at the first place there is none
  pub diagonal_absent : (p < e → row rows p ≡ c → ⊥) → DiagonalIs rows nz one c s e None
  diagonal_absent none = record {
    kept = place_none C F (kept_diagonal rows nz c) (kept_off c rows nz one) none;
    other = place_none C F (other_than_one rows nz one c) (other_off c rows nz one) none;
  }

  -- the entry there is it, or dropped
  kept_here : (b : Bool) → row rows p ≡ c → nz p ≡ b → kept_diagonal rows nz c p ≡ b
  kept_here b r k = ap (λ (x : Bool). x && nz p) (eq-eqb (row rows p) c r) ∙ k

  pub diagonal_dropped : p < e → row rows p ≡ c → nz p ≡ false → DiagonalIs rows nz one c s e None
  diagonal_dropped l r k =
      let h = kept_here false r k in
      record {
        kept = place_one C F (kept_diagonal rows nz c) (kept_off c rows nz one) l ∙ h;
        other = place_one C F (other_than_one rows nz one c) (other_off c rows nz one) l ∙ ap (λ (b : Bool). b && not (one p)) h;
      }

  pub diagonal_here : p < e → row rows p ≡ c → nz p ≡ true → DiagonalIs rows nz one c s e (Some (one p))
  diagonal_here l r k =
      let h = kept_here true r k in
      record {
        kept = place_one C F (kept_diagonal rows nz c) (kept_off c rows nz one) l ∙ h;
        other = place_one C F (other_than_one rows nz one c) (other_off c rows nz one) l ∙ ap (λ (b : Bool). b && not (one p)) h;
      }

-- none says that a kept diagonal is not 1, and else none is
pub units_none : (other lacking : Bool) → None ≡ cond other None (Some lacking) → other ≡ true
units_none true lacking e = refl
units_none false lacking e = cc

pub units_some : (other lacking b : Bool) → Some b ≡ cond other None (Some lacking) → (other ≡ false) × (b ≡ lacking)
units_some true lacking b e = absurd cc
units_some false lacking b e = (refl, cc)
