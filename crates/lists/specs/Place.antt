-- Where a number first stands in a list.
-- Assumes nothing.
use Prim.Native.Nat.{ℕ, zero, suc, ◌+◌, ◌≤◌, ◌<◌}
use Rattle.std.proofs.Common.{arith, eq-or-lt_of_le, ◌∙◌, eq-eqb, ne_eqb}
use Rattle.std.specs.Prelude.{◌≡◌, Bool, List, eqb}
use Rattle.std.proofs.Math.Path.{ap}
use Rattle.std.proofs.Math.Bool.{cond}
use Rattle.std.proofs.Math.Logic.{⊎_elim}
use Rattle.std.proofs.Math.ListN.{get_or}

-- the first place from i on, of k places, whose element is x; i + k if there is none
unfoldable pub place_from : List ℕ → ℕ → ℕ → ℕ → ℕ
place_from l x i zero = i
place_from l x i (suc k) = let later = place_from l x (suc i) k in cond (eqb (get_or l i 0) x) i later

module _ (l : List ℕ) (x : ℕ) where
  -- x stands at m, and not before
  pub place_from_at : (i k m : ℕ) → i ≤ m → m < i + k → get_or l m 0 ≡ x → ((j : ℕ) → i ≤ j → j < m → get_or l j 0 ≡ x → ⊥) → place_from l x i k ≡ m
  unfolding place_from
  place_from_at i zero m h n e only = absurd (omega arith)
  place_from_at i (suc k) m h n e only =
      ⊎_elim
      (λ q. ap (λ (b : Bool). cond b i (place_from l x (suc i) k)) (eq-eqb _ _ (ap (λ (j : ℕ). get_or l j 0) q ∙ e)) ∙ q)
      (λ q.
      ap (λ (b : Bool). cond b i (place_from l x (suc i) k)) (ne_eqb _ _ (only i (omega arith) q))
      ∙ place_from_at (suc i) k m q (omega arith) e (λ j a b. only j (omega arith) b))
      (eq-or-lt_of_le h)
