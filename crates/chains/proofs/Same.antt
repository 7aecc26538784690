-- Equal patterns and equal requests give equal chains.
-- Assumes nothing.
use Rattle.std.specs.Prelude.{ℕ, ◌≤◌, ◌<◌, ◌≡◌, refl, Bool, true, false, List, eqb, length, get_or}
use Rattle.std.proofs.Common.{arith, sym, subst, ◌∙◌}
use Rattle.lists.specs.Test.{any}
use Rattle.closed_set.specs.ClosedSet.{member, Pattern, Ranged}
use Rattle.closed_set.proofs.ClosedSet.{needed_range, member_needed, member_cong}
use Rattle.chains.specs.Chain.{Chain, start, next, Shown}
use Rattle.chains.proofs.Chain.{chain_needed}
use Rattle.chains.specs.ChainOf.{chain_of}
use Rattle.chains.proofs.ChainOf.{chain_of_none, chain_shown, chain_unique}

module _ (n : ℕ) (desc desc' : ℕ → List ℕ) (req req' : ℕ → ℕ → Bool) (P : Pattern n desc) (R : Ranged n req) (p : (c : ℕ) → c < n → desc c ≡ desc' c)
    (q : (r c : ℕ) → c ≤ r → r < n → req r c ≡ req' r c) where
  pub chain_same : {l : List (ℕ × ℕ)} {r c : ℕ} → Chain desc req l r c → Chain desc' req' l r c
  chain_same (start {r} {c} e) = start (sym (q r c (R.ordered r c e) (R.inside r c e)) ∙ e)
  chain_same (next {l} {a} {b} r c s (d, m, x, y)) =
      let g = needed_range desc req n P R (chain_needed desc req s) in
      next r c (chain_same s) (d, subst (λ (u : List ℕ). any (λ i. eqb (get_or u i 0) d) (length u) ≡ true) (p b (omega arith)) m, x, y)

module _ (n : ℕ) (desc desc' : ℕ → List ℕ) (req req' : ℕ → ℕ → Bool) (P : Pattern n desc) (R : Ranged n req) (P' : Pattern n desc') (R' : Ranged n req')
    (p : (c : ℕ) → c < n → desc c ≡ desc' c) (q : (r c : ℕ) → c ≤ r → r < n → req r c ≡ req' r c) where
  back : {l : List (ℕ × ℕ)} {r c : ℕ} → Chain desc' req' l r c → Chain desc req l r c
  back t = chain_same n desc' desc req' req P' R' (λ c h. sym (p c h)) (λ r c h l. sym (q r c h l)) t

  pub shown_same : {l : List (ℕ × ℕ)} {r c : ℕ} → Shown desc req l r c → Shown desc' req' l r c
  shown_same S = record {
    chain = chain_same n desc desc' req req' P R p q S.chain;
    shortest = λ m t. S.shortest m (back t);
    lowest = λ m t e. S.lowest m (back t) e;
  }

  pub chain_of_same : (r c : ℕ) → c ≤ r → r < n → chain_of n desc req r c ≡ chain_of n desc' req' r c
  chain_of_same r c h l = go (member n desc req r c) refl
    where
      go : (b : Bool) → member n desc req r c ≡ b → chain_of n desc req r c ≡ chain_of n desc' req' r c
      go true e = chain_unique n desc' req' P' R' (shown_same (chain_shown n desc req P R ((member_needed n desc req P R r c h l).0 e)))
      go false e = (chain_of_none n desc req r c).1 e ∙ sym ((chain_of_none n desc' req' r c).1 (sym (member_cong n desc desc' req req' p q r c h l) ∙ e))
