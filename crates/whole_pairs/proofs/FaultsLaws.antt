-- Faults of many pairs: the worst tells whether one is absent, and whether one is absent or beyond; steps 8 and 20. Assumes nothing.
use Rattle.std.specs.Prelude.{ℕ, zero, suc, ◌+◌, ◌-◌, ◌≡◌, refl, Bool, true, false, cond, ◌||◌, [], ◌∷◌}
use Rattle.std.proofs.Common.{arith, sym, ap, ◌∙◌}
use Rattle.std.proofs.Math.Bool.{or-true}
use Rattle.std.proofs.Math.Dec.{leb}
use Rattle.lists.specs.Sum.{bit}
use Rattle.lists.specs.Test.{any, any_in, any_cong}
use Rattle.refusal.specs.Steps.{first, verdict}
use Rattle.whole_pairs.specs.Worst.{worst, worst_in}
use Rattle.whole_pairs.proofs.Worst.{worst_test, worst_in_test}

or_interchange : (a b c d : Bool) → ((a || b) || (c || d)) ≡ ((a || c) || (b || d))
or_interchange true b c d = refl
or_interchange false true c d = sym (or-true c)
or_interchange false false c d = refl

any_or : (f g : ℕ → Bool) (n : ℕ) → any (λ k. f k || g k) n ≡ (any f n || any g n)
unfolding any
any_or f g zero = refl
any_or f g (suc n) = ap (λ (b : Bool). b || (f n || g n)) (any_or f g n) ∙ or_interchange (any f n) (any g n) (f n) (g n)

fault-absent : (a b : Bool) → leb 2 (cond a 2 (bit b)) ≡ a
fault-absent true b = refl
fault-absent false true = refl
fault-absent false false = refl

fault-either : (a b : Bool) → leb 1 (cond a 2 (bit b)) ≡ (a || b)
fault-either true b = refl
fault-either false true = refl
fault-either false false = refl

-- A p q: the pair of p and q is absent; B p q: its entry is beyond
module _ (A B : ℕ → ℕ → Bool) where
  abbrev fault : ℕ → ℕ → ℕ
  fault p q = cond (A p q) 2 (bit (B p q))

  line_absent : (p s e : ℕ) → leb 2 (worst_in (fault p) s e) ≡ any_in (A p) s e
  unfolding any_in
  line_absent p s e =
      worst_in_test 2 (omega arith) (fault p) s e ∙ any_cong (λ k. leb 2 (fault p (s + k))) (λ k. A p (s + k)) (e - s) (λ k l. fault-absent (A p (s + k)) (B p (s + k)))

  line_either : (p s e : ℕ) → leb 1 (worst_in (fault p) s e) ≡ (any_in (A p) s e || any_in (B p) s e)
  unfolding any_in
  line_either p s e =
      worst_in_test 1 (omega arith) (fault p) s e
      ∙ any_cong (λ k. leb 1 (fault p (s + k))) (λ k. A p (s + k) || B p (s + k)) (e - s) (λ k l. fault-either (A p (s + k)) (B p (s + k)))
      ∙ any_or (λ k. A p (s + k)) (λ k. B p (s + k)) (e - s)

  -- of each p below n with the q from s p to below e p
  module _ (s e : ℕ → ℕ) (n : ℕ) where
    pub all_absent : leb 2 (worst (λ p. worst_in (fault p) (s p) (e p)) n) ≡ any (λ p. any_in (A p) (s p) (e p)) n
    all_absent =
        worst_test 2 (omega arith) (λ p. worst_in (fault p) (s p) (e p)) n
        ∙ any_cong (λ p. leb 2 (worst_in (fault p) (s p) (e p))) (λ p. any_in (A p) (s p) (e p)) n (λ p l. line_absent p (s p) (e p))

    pub all_either : leb 1 (worst (λ p. worst_in (fault p) (s p) (e p)) n) ≡ (any (λ p. any_in (A p) (s p) (e p)) n || any (λ p. any_in (B p) (s p) (e p)) n)
    all_either =
        worst_test 1 (omega arith) (λ p. worst_in (fault p) (s p) (e p)) n
        ∙ any_cong (λ p. leb 1 (worst_in (fault p) (s p) (e p))) (λ p. any_in (A p) (s p) (e p) || any_in (B p) (s p) (e p)) n (λ p l. line_either p (s p) (e p))
        ∙ any_or (λ p. any_in (A p) (s p) (e p)) (λ p. any_in (B p) (s p) (e p)) n

-- steps 8 and 20 by the two tests
pub fault-steps : (a b : Bool) {x y : Bool} → x ≡ a → y ≡ (a || b) → verdict ((8, x) ∷ (20, y) ∷ []) ≡ verdict ((8, a) ∷ (20, b) ∷ [])
unfolding first
fault-steps true b p q = rw p
fault-steps false b p q = rw (p, q)
