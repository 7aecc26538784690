-- Words that are 0, passed over one and four at a time.
-- Assumes nothing.
use Prim.Native.Nat.{ℕ, ◌+◌, ◌≤◌, ◌<◌}
use native.Mathlib.Omega.{arith}
use native.Mathlib.Nat.{eq-or-lt_of_le, le_of_suc-le-suc}
use mathlib.Core.Path.{◌≡◌, sym, ap, subst, ◌∙◌}
use mathlib.Core.List.{List}
use mathlib.Core.Logic.{⊎_elim}
use lib.ListN.{get_or}
use lib.Bits.{bit_or, or_add_and, and_le_l, and_le_r}
use Rattle.set_bits.specs.Zeros.{four_words, Zeros}

pub zeros_none : (s : List ℕ) {w end : ℕ} → w ≤ end → Zeros s w end w
zeros_none s l = record { from = omega arith; upto = l; zeros = λ i lo hi. absurd (omega arith) }

or_none : (a b : ℕ) → bit_or a b ≡ 0 → (a ≡ 0) × (b ≡ 0)
or_none a b e =
    let h = or_add_and a b in
    let l = and_le_l a b in
    let r = and_le_r a b in
    (omega arith, omega arith)

module _ {s : List ℕ} {w end k : ℕ} (Z : Zeros s w end k) where
  -- one zero more
  pub zeros_more : k < end → get_or s k 0 ≡ 0 → Zeros s w end (k + 1)
  zeros_more l e = record {
    from = omega (arith, Z.from);
    upto = omega arith;
    zeros = λ i lo hi. ⊎_elim (λ q. ap (λ (j : ℕ). get_or s j 0) q ∙ e) (λ m. Z.zeros i lo m) (eq-or-lt_of_le (le_of_suc-le-suc (omega (arith, hi))));
  }

-- four zeros more
pub zeros_four : {s : List ℕ} {w end k : ℕ} → Zeros s w end k → k + 4 ≤ end → four_words s k ≡ 0 → Zeros s w end (k + 4)
zeros_four {s} {w} {end} {k} Z l e =
    let abc = or_none _ (get_or s (k + 3) 0) e in
    let ab = or_none _ (get_or s (k + 2) 0) abc.0 in
    let a = or_none (get_or s k 0) (get_or s (k + 1) 0) ab.0 in
    let one = zeros_more Z (omega arith) a.0 in
    let two = zeros_more one (omega arith) a.1 in
    let q₂ : k + 2 ≡ k + 1 + 1 = omega arith in
    let q₃ : k + 3 ≡ k + 1 + 1 + 1 = omega arith in
    let q₄ : k + 1 + 1 + 1 + 1 ≡ k + 4 = omega arith in
    let three = zeros_more two (omega arith) (ap (λ (j : ℕ). get_or s j 0) (sym q₂) ∙ ab.1) in
    let four = zeros_more three (omega arith) (ap (λ (j : ℕ). get_or s j 0) (sym q₃) ∙ abc.1) in
    subst (Zeros s w end) q₄ four
