-- Laws of specs/Form.antt.
use Rattle.std.specs.Prelude.{ℕ, ◌+◌, ◌<◌, ◌≡◌, Bool, true, ◌||◌, List, Float}
use Rattle.std.proofs.Common.{arith, ap, eq-eqb, ne_eqb}
use Rattle.std.proofs.Math.Path.{refl}
use Rattle.std.proofs.Math.ListN.{length}
use Rattle.lists.specs.Sum.{sum_to_none, sum_to_next, sum_to_eq}
use Rattle.columns.specs.Kept.{nonzero, pattern, kept_pair}
use Rattle.columns.proofs.Pattern.{factor_pairs-pattern}
use Rattle.columns.specs.Form.{Form, pattern_pairs, kept_pairs, Divisors, pattern_pair, cholesky, pivoted}

module _ (n : ℕ) (starts rows : List ℕ) (values : List Float) where
  -- past 6 the pairs that count as kept are those of the pattern, in either form
  pub kept_pairs-pattern : (form : Form) → (Divisors n starts rows values) form → (kept_pairs n starts rows values) form ≡ pattern_pairs n (pattern starts rows (nonzero values))
  unfolding pattern_pairs
  kept_pairs-pattern cholesky D = factor_pairs-pattern (nonzero values) D.diagonal
  kept_pairs-pattern (pivoted pivots) D = refl

module _ (starts rows : List ℕ) (nz : ℕ → Bool) where
  pub pattern_pair_diagonal : (c : ℕ) → pattern_pair starts rows nz c c ≡ true
  pattern_pair_diagonal c = ap (λ (b : Bool). b || kept_pair starts rows nz c c) (eq-eqb c c refl)

  pub pattern_pair_below : (r c : ℕ) → c < r → pattern_pair starts rows nz r c ≡ kept_pair starts rows nz r c
  pattern_pair_below r c h = ap (λ (b : Bool). b || kept_pair starts rows nz r c) (ne_eqb r c (λ e. absurd (omega (arith, e))))

-- the first c columns of a pattern, and one more
module _ (desc : ℕ → List ℕ) where
  pub pattern_pairs_none : pattern_pairs 0 desc ≡ 0
  unfolding pattern_pairs
  pattern_pairs_none = sum_to_none (λ c. 1 + length (desc c))

  pub pattern_pairs_next : (c : ℕ) → pattern_pairs (c + 1) desc ≡ pattern_pairs c desc + (1 + length (desc c))
  unfolding pattern_pairs
  pattern_pairs_next c = sum_to_next (λ c. 1 + length (desc c)) c

-- equal patterns have as many pairs
pub pattern_pairs_cong : (n : ℕ) (desc desc' : ℕ → List ℕ) → ((c : ℕ) → c < n → desc c ≡ desc' c) → pattern_pairs n desc ≡ pattern_pairs n desc'
unfolding pattern_pairs
pattern_pairs_cong n desc desc' same = sum_to_eq (λ c. 1 + length (desc c)) (λ c. 1 + length (desc' c)) n (λ c h. ap (λ (l : List ℕ). 1 + length l) (same c h))
