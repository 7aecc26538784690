-- Laws of specs/ChainOf.antt.
use Prim.Native.Nat.{ℕ, zero, suc, ◌+◌, ◌-◌, ◌*◌, ◌≤◌, ◌<◌}
use Rattle.std.proofs.Common.{arith, subst, subst₂, ◌∙◌}
use Rattle.std.specs.Prelude.{◌≡◌, Bool, ◌⊎◌, ◌↔◌}
use Rattle.std.proofs.Math.Path.{refl, sym, ap}
use Rattle.std.proofs.Math.Bool.{true, false, cond}
use Rattle.std.proofs.lemmas.Bool.{false≢true}
use Rattle.std.proofs.Math.Logic.{inl, inr, ⊎_elim}
use mathlib.Core.List.{List, [], ◌∷◌, ◌++◌}
use Rattle.std.proofs.Math.ListN.{length}
use Rattle.lists.specs.Test.{not_so}
use Rattle.closed_set.specs.ClosedSet.{Needed, reach, member, Pattern, Ranged}
use Rattle.closed_set.proofs.ClosedSet.{leads_needed, reach_needed, needed_range, member_needed, needed_member}
use Rattle.chains.specs.Distance.{distance}
use Rattle.chains.proofs.Distance.{reach-distance, distance-reach, distance-request, leads_range, distance-step, reach_next}
use Rattle.chains.specs.Chain.{Chain, start, next, LowerPair, LowerBack, Shown}
use Rattle.chains.proofs.Chain.{length-snoc, lower_snoc, lower_last, chain_needed, chain_most, chain_last, chain_reach, shown_unique}
use Rattle.chains.specs.Before.{before_column, before_row, Lead}
use Rattle.chains.proofs.Before.{before_lead, before_lowest}
use Rattle.chains.specs.ChainOf.{chain_back, chain_of, far, Prior}

module _ (desc : ℕ → List ℕ) (req : ℕ → ℕ → Bool) where
  pub chain_back-length : (k r c : ℕ) → length ((chain_back desc req) k r c) ≡ suc k
  unfolding chain_back
  chain_back-length zero r c = refl
  chain_back-length (suc k) r c =
      let a = before_row desc req k r c in
      let b = before_column desc req k r c in
      omega (arith, length-snoc ((chain_back desc req) k a b) (r, c), chain_back-length k a b)

module _ (n : ℕ) (desc : ℕ → List ℕ) (req : ℕ → ℕ → Bool) (r c : ℕ) where
  pub chain_of_member : member n desc req r c ≡ true → chain_of n desc req r c ≡ chain_back desc req (distance n desc req r c) r c
  unfolding chain_of
  chain_of_member e = rw e

  -- no pairs exactly if it is not in the set
  pub chain_of_none : (chain_of n desc req r c ≡ []) ↔ (member n desc req r c ≡ false)
  unfolding chain_of
  chain_of_none = ((λ e. go (member n desc req r c) refl e), (λ e. rw e))
    where
      go : (b : Bool) → member n desc req r c ≡ b → cond b (chain_back desc req (distance n desc req r c) r c) [] ≡ [] → b ≡ false
      go true m e = absurd (omega (arith, chain_back-length desc req (distance n desc req r c) r c, ap length e))
      go false m e = refl

-- ---- back from a pair at distance k

module _ (n : ℕ) (desc : ℕ → List ℕ) (req : ℕ → ℕ → Bool) (P : Pattern n desc) (R : Ranged n req) where
  abbrev back : ℕ → ℕ → ℕ → List (ℕ × ℕ)
  back k r c = chain_back desc req k r c

  prior_lead : (k r c a b : ℕ) → (Prior n desc req P R) k r c a b → Lead desc req k r c a b
  prior_lead k r c a b Q =
      let g = needed_range desc req n P R Q.needed in
      record {
        ordered = g.0;
        column = (leads_range n desc req P R a b r c g.0 g.1 Q.leads).2;
        leads = Q.leads;
        within = subst (λ (i : ℕ). reach desc req i a b ≡ true) Q.at (distance-reach n desc req P R Q.needed);
      }

  -- what leads to a pair at distance k + 1 from within k is at distance k
  lead_prior : (k r c a b : ℕ) → (far n desc req P R) r c ≡ suc k → Lead desc req k r c a b → (Prior n desc req P R) k r c a b
  lead_prior k r c a b e L =
      let s = reach_needed desc req k a b L.ordered L.within in
      record {
        needed = s;
        leads = L.leads;
        at = omega (arith, reach-distance n desc req k a b L.within, distance-step n desc req P R r c L.leads s);
      }

  -- the pair before one at distance k + 1 is at distance k
  pub before_prior : (k : ℕ) {r c : ℕ} → Needed desc req r c → (far n desc req P R) r c ≡ suc k → (Prior n desc req P R) k r c (before_row desc req k r c) (before_column desc req k r c)
  before_prior k {r} {c} s e =
      let w = reach_next n desc req P R k s e in
      lead_prior k r c _ _ e
      (before_lead desc req k r c (needed_range desc req n P R s).0 w.0 w.1
      (prior_lead k r c w.0 w.1 (record { needed = w.2; leads = w.3; at = w.4 })))

  back_chain : (k : ℕ) {r c : ℕ} → Needed desc req r c → (far n desc req P R) r c ≡ k → Chain desc req (back k r c) r c
  unfolding chain_back
  back_chain zero s e = start ((distance-request n desc req P R s).0 e)
  back_chain (suc k) {r} {c} s e = let Q = before_prior k s e in next r c (back_chain k Q.needed Q.at) Q.leads

  -- a chain of k + 1 pairs to a pair that leads to (r, c) is the one back from the pair before, or higher
  back_before : (k : ℕ) {r c a b : ℕ} {l : List (ℕ × ℕ)} → Needed desc req r c → (far n desc req P R) r c ≡ suc k → Chain desc req l a b → length l ≡ suc k → (Prior n desc req P R) k r c a b
      → (l ≡ back k a b) ⊎ LowerBack (back k a b) l
      → (l ≡ back k (before_row desc req k r c) (before_column desc req k r c)) ⊎ LowerBack (back k (before_row desc req k r c) (before_column desc req k r c)) l
  back_before k {r} {c} {a} {b} {l} u f s e Q same =
      let x = before_row desc req k r c in
      let y = before_column desc req k r c in
      let X = before_prior k u f in
      let o = chain_back-length desc req k x y in
      ⊎_elim
      (λ v. subst₂ (λ (i j : ℕ). (l ≡ back k i j) ⊎ LowerBack (back k i j) l) v.0 v.1 same)
      (λ v. inr (lower_last (back k x y) l k o
      (subst₂ LowerPair (sym (chain_last desc req (back_chain k X.needed X.at) k o)) (sym (chain_last desc req s k e)) v)))
      (before_lowest desc req k r c (needed_range desc req n P R u).0 a b (prior_lead k r c a b Q))

  back_lowest : {m : List (ℕ × ℕ)} {r c : ℕ} → Chain desc req m r c → (k : ℕ) → length m ≡ suc k → (far n desc req P R) r c ≡ k → (m ≡ back k r c) ⊎ LowerBack (back k r c) m
  unfolding chain_back
  back_lowest (start e) zero q f = inl refl
  back_lowest (start e) (suc k) q f = absurd (omega arith)
  back_lowest (next {l} r c s w) zero q f = absurd (omega (arith, length-snoc l (r, c), (chain_reach desc req n P R s).1))
  back_lowest (next {l} {a} {b} r c s w) (suc k) q f =
      let e : length l ≡ suc k = omega (arith, length-snoc l (r, c)) in
      let i = chain_reach desc req n P R s in
      let z : i.0 ≡ k = omega (arith, i.1) in
      let t = chain_needed desc req s in
      let Q : (Prior n desc req P R) k r c a b = record {
        needed = t;
        leads = w;
        at = omega (arith, reach-distance n desc req i.0 a b i.2, distance-step n desc req P R r c w t);
      } in
      ⊎_elim
      (λ p. inl (ap (λ (x : List (ℕ × ℕ)). x ++ (r, c) ∷ []) p))
      (λ L. inr (lower_snoc _ l (r, c) (chain_back-length desc req k _ _ ∙ sym e) L))
      (back_before k (leads_needed desc req a b r c w t) f s e Q (back_lowest s k e Q.at))

-- ---- the chain that is shown

module _ (n : ℕ) (desc : ℕ → List ℕ) (req : ℕ → ℕ → Bool) (P : Pattern n desc) (R : Ranged n req) where
  is_back : {r c : ℕ} → Needed desc req r c → chain_of n desc req r c ≡ chain_back desc req (distance n desc req r c) r c
  is_back {r} {c} s = chain_of_member n desc req r c (needed_member n desc req P R s)

  -- it has a pair more than the pair's distance
  pub chain_length : {r c : ℕ} → Needed desc req r c → length (chain_of n desc req r c) ≡ suc (distance n desc req r c)
  chain_length {r} {c} s = ap length (is_back s) ∙ chain_back-length desc req (distance n desc req r c) r c

  -- it is a chain to the pair
  pub chain_of_lem : {r c : ℕ} → Needed desc req r c → Chain desc req (chain_of n desc req r c) r c
  chain_of_lem {r} {c} s = rw (is_back s) (back_chain n desc req P R (distance n desc req r c) s refl)

  -- and at most 2n - 1; none where there is no chain
  pub chain_of_most : (r c : ℕ) → c ≤ r → r < n → length (chain_of n desc req r c) ≤ 2 * n - 1
  chain_of_most r c h l = go (member n desc req r c) refl
    where
      go : (b : Bool) → member n desc req r c ≡ b → length (chain_of n desc req r c) ≤ 2 * n - 1
      go true e = chain_most desc req n P R (chain_of_lem ((member_needed n desc req P R r c h l).0 e))
      go false e = let z : length (chain_of n desc req r c) ≡ 0 = ap length ((chain_of_none n desc req r c).1 e) in omega arith

  -- every chain to the pair has at least as many pairs
  pub chain_shortest : {m : List (ℕ × ℕ)} {r c : ℕ} → Chain desc req m r c → length (chain_of n desc req r c) ≤ length m
  chain_shortest {m} {r} {c} t =
      let i = chain_reach desc req n P R t in
      omega (arith, chain_length (chain_needed desc req t), i.1, reach-distance n desc req i.0 r c i.2)

  -- of any other with as many, going back from the end, the first pair in which they differ is higher in it
  pub chain_lowest : {m : List (ℕ × ℕ)} {r c : ℕ} → Chain desc req m r c → length m ≡ length (chain_of n desc req r c)
      → (m ≡ chain_of n desc req r c) ⊎ LowerBack (chain_of n desc req r c) m
  chain_lowest {m} {r} {c} t e =
      let s = chain_needed desc req t in
      rw (is_back s) (back_lowest n desc req P R t (distance n desc req r c) (e ∙ chain_length s) refl)

  pub chain_shown : {r c : ℕ} → Needed desc req r c → Shown desc req (chain_of n desc req r c) r c
  chain_shown s = record {
    chain = chain_of_lem s;
    shortest = λ m t. chain_shortest t;
    lowest = λ m t e. chain_lowest t e;
  }

  -- these properties determine it
  pub chain_unique : {l : List (ℕ × ℕ)} {r c : ℕ} → Shown desc req l r c → l ≡ chain_of n desc req r c
  chain_unique S = shown_unique desc req S (chain_shown (chain_needed desc req S.chain))

  -- there is no chain exactly if the pair is not needed
  pub chain_none : (r c : ℕ) → ((l : List (ℕ × ℕ)) → Chain desc req l r c → ⊥) ↔ (Needed desc req r c → ⊥)
  chain_none r c = ((λ f s. f _ (chain_of_lem s)), (λ f l t. f (chain_needed desc req t)))

  -- and exactly then it is shown as no pairs
  pub chain_empty : (r c : ℕ) → c ≤ r → r < n → (chain_of n desc req r c ≡ []) ↔ (Needed desc req r c → ⊥)
  chain_empty r c h l =
      let m = member_needed n desc req P R r c h l in
      let o = chain_of_none n desc req r c in
      ((λ e s. false≢true (sym (o.0 e) ∙ m.1 s)), (λ f. o.1 (not_so (member n desc req r c) (λ e. f (m.0 e)))))

  -- so where it has a pair, the pair is needed
  pub chain_of_needed : (r c : ℕ) → c ≤ r → r < n → 0 < length (chain_of n desc req r c) → Needed desc req r c
  chain_of_needed r c h l some = go (member n desc req r c) refl
    where
      go : (b : Bool) → member n desc req r c ≡ b → Needed desc req r c
      go true e = (member_needed n desc req P R r c h l).0 e
      go false e = let z : length (chain_of n desc req r c) ≡ 0 = ap length ((chain_of_none n desc req r c).1 e) in absurd (omega arith)
