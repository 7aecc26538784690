-- The list of a function's first values.
-- Assumes nothing.
use Prim.Native.Nat.{ℕ, zero, suc, ◌+◌, ◌<◌}
use Rattle.std.proofs.Common.{arith, not-suc-le-zero, eq-or-lt_of_le, le_of_suc-le-suc, ap₂, subst, ◌∙◌, ext_get_or}
use Rattle.std.proofs.Math.Numerals.{add-one}
use Rattle.std.specs.Prelude.{◌≡◌, get_or}
use Rattle.std.proofs.Math.Path.{refl, sym, ap}
use mathlib.Core.List.{List, [], ◌∷◌, ◌++◌}
use Rattle.std.proofs.Math.Logic.{⊎_elim}
use Rattle.std.proofs.Math.ListN.{length, length-append, get_or-append}
use Rattle.std.proofs.Math.Seq.{get_or_at}

-- f 0, f 1, .., n of them
unfoldable pub tabulate : {A : Type 0} → (ℕ → A) → ℕ → List A
tabulate f zero = []
tabulate f (suc k) = tabulate f k ++ (f k ∷ [])

module _ {A : Type 0} (f : ℕ → A) where
  pub tabulate_none : tabulate f 0 ≡ []
  unfolding tabulate
  tabulate_none = refl

  pub tabulate_next : (k : ℕ) → tabulate f (k + 1) ≡ tabulate f k ++ (f k ∷ [])
  unfolding tabulate
  tabulate_next k = rw add-one

  pub tabulate-length : (n : ℕ) → length (tabulate f n) ≡ n
  unfolding tabulate
  tabulate-length zero = refl
  tabulate-length (suc n) = length-append (tabulate f n) _ ∙ ap (λ (k : ℕ). k + 1) (tabulate-length n) ∙ add-one n

  pub tabulate_at : (n i : ℕ) (d : A) → i < n → get_or (tabulate f n) i d ≡ f i
  unfolding tabulate
  tabulate_at zero i d h = absurd (not-suc-le-zero h)
  tabulate_at (suc n) i d h =
      ⊎_elim
      (λ e. get_or_at (tabulate f n) (f n) [] d i (tabulate-length n ∙ sym e) ∙ ap f (sym e))
      (λ l.
      let l' : i < length (tabulate f n) = omega (arith, tabulate-length n) in
      get_or-append (tabulate f n) (f n ∷ []) d i l' ∙ tabulate_at n i d l)
      (eq-or-lt_of_le (le_of_suc-le-suc h))

-- functions that agree
pub tabulate_cong : {A : Type 0} (f g : ℕ → A) (n : ℕ) → ((i : ℕ) → i < n → f i ≡ g i) → tabulate f n ≡ tabulate g n
unfolding tabulate
tabulate_cong f g zero h = refl
tabulate_cong f g (suc n) h = ap₂ (λ x y. x ++ (y ∷ [])) (tabulate_cong f g n (λ i l. h i (omega arith))) (h n (omega arith))

-- a list is the table of its elements
pub tabulate-of : {A : Type 0} (l : List A) (d : A) → tabulate (λ i. get_or l i d) (length l) ≡ l
tabulate-of l d =
    ext_get_or d _ l (tabulate-length _ (length l))
    (λ i h. tabulate_at _ (length l) i d (subst (λ (n : ℕ). i < n) (tabulate-length _ (length l)) h))
