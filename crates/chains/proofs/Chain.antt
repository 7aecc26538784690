-- Laws of specs/Chain.antt.
use Rattle.std.specs.Prelude.{ℕ, suc, ◌+◌, ◌-◌, ◌*◌, ◌≤◌, ◌<◌, ◌≡◌, refl, Bool, true, ◌⊎◌, List, [], ◌∷◌, ◌++◌, length}
use Rattle.std.proofs.Common.{arith, eq-or-lt_of_le, sym, subst, subst₂, ◌∙◌, inl, inr, ⊎_elim, length-append}
use Rattle.std.proofs.Math.Decide.{dec_le}
use Rattle.std.proofs.Math.ListN.{get_or-append}
use Rattle.std.proofs.Math.Seq.{get_or-append_seam}
use Rattle.closed_set.specs.ClosedSet.{Needed, request, Leads, reach, Pattern, Ranged}
use Rattle.closed_set.proofs.ClosedSet.{reach-request, reach_step, leads_needed, needed_range}
use Rattle.chains.proofs.Distance.{leads_range}
use Rattle.chains.specs.Chain.{Chain, LowerPair, pair_at, LowerBack, Shown, next, start}

-- ---- lists compared from the end

pub length-snoc : (l : List (ℕ × ℕ)) (p : ℕ × ℕ) → length (l ++ p ∷ []) ≡ length l + 1
length-snoc l p = length-append l (p ∷ [])

-- of a list and one more pair: the pairs before, and that one
snoc_at : (l : List (ℕ × ℕ)) (p : ℕ × ℕ) (i : ℕ) → i < length l → pair_at (l ++ p ∷ []) i ≡ pair_at l i
snoc_at l p i h = get_or-append l (p ∷ []) (0, 0) i h

snoc_end : (l : List (ℕ × ℕ)) (p : ℕ × ℕ) (i : ℕ) → length l ≡ i → pair_at (l ++ p ∷ []) i ≡ p
snoc_end l p i q = subst (λ (j : ℕ). pair_at (l ++ p ∷ []) j ≡ p) q (get_or-append_seam l p [] (0, 0))

-- one more pair, the same in both
pub lower_snoc : (l m : List (ℕ × ℕ)) (p : ℕ × ℕ) → length l ≡ length m → LowerBack l m → LowerBack (l ++ p ∷ []) (m ++ p ∷ [])
lower_snoc l m p e L = record {
  place = L.place;
  inside = omega (arith, length-snoc l p, L.inside);
  lower = subst₂ LowerPair (sym (snoc_at l p L.place L.inside)) (sym (snoc_at m p L.place (omega (arith, L.inside)))) L.lower;
  later = λ i h o. elim (dec_le (suc i) (length l)) [
    | yes u ↦ snoc_at l p i u ∙ L.later i h u ∙ sym (snoc_at m p i (omega arith))
    | no u ↦
        let q : length l ≡ i = omega (arith, length-snoc l p) in
        snoc_end l p i q ∙ sym (snoc_end m p i (sym e ∙ q))
  ];
}

-- last pairs that differ
pub lower_last : (l m : List (ℕ × ℕ)) (k : ℕ) → length l ≡ suc k → LowerPair (pair_at l k) (pair_at m k) → LowerBack l m
lower_last l m k e b = record {
  place = k;
  inside = omega arith;
  lower = b;
  later = λ i h o. absurd (omega arith);
}

lower_never : (p q : ℕ × ℕ) → LowerPair p q → LowerPair q p → ⊥
lower_never p q (inl x) (inl y) = omega arith
lower_never p q (inl x) (inr (y, z)) = omega arith
lower_never p q (inr (w, x)) (inl y) = omega arith
lower_never p q (inr (w, x)) (inr (y, z)) = omega arith

lower_same : (p q : ℕ × ℕ) → p ≡ q → LowerPair p q → ⊥
lower_same p q e l = let s : LowerPair q p = subst₂ LowerPair e (sym e) l in lower_never p q l s

-- of two lists at most one is lower
pub lower_one : (l m : List (ℕ × ℕ)) → length l ≡ length m → LowerBack l m → LowerBack m l → ⊥
lower_one l m e L M = elim (dec_le L.place M.place) [
  | yes h ↦
      ⊎_elim
      (λ q. lower_never _ _ L.lower (subst (λ (i : ℕ). LowerPair (pair_at m i) (pair_at l i)) (sym q) M.lower))
      (λ u. lower_same _ _ (sym (L.later M.place u (omega (arith, M.inside)))) M.lower)
      (eq-or-lt_of_le h)
  | no h ↦ lower_same _ _ (sym (M.later L.place (omega arith) (omega (arith, L.inside)))) L.lower
]

-- ---- what a chain tells of its end

module _ (desc : ℕ → List ℕ) (req : ℕ → ℕ → Bool) where
  -- it is needed
  pub chain_needed : {l : List (ℕ × ℕ)} {r c : ℕ} → Chain desc req l r c → Needed desc req r c
  chain_needed (start e) = request e
  chain_needed (next {l} {a} {b} r c s w) = leads_needed desc req a b r c w (chain_needed s)

  -- row + column rises from pair to pair
  chain_rises : (n : ℕ) → Pattern n desc → Ranged n req → {l : List (ℕ × ℕ)} {r c : ℕ} → Chain desc req l r c → length l ≤ r + c + 1
  chain_rises n P R (start e) = omega arith
  chain_rises n P R (next {l} {a} {b} r c s (d, m, p, q)) =
      let g = needed_range desc req n P R (chain_needed s) in
      let k = P.below b d (omega arith) m in
      omega (arith, length-snoc l (r, c), chain_rises n P R s)

  -- so in n columns a chain has at most 2n - 1 pairs
  pub chain_most : (n : ℕ) → Pattern n desc → Ranged n req → {l : List (ℕ × ℕ)} {r c : ℕ} → Chain desc req l r c → length l ≤ 2 * n - 1
  chain_most n P R t = let g = needed_range desc req n P R (chain_needed t) in omega (arith, chain_rises n P R t)

  -- it is the last pair
  pub chain_last : {l : List (ℕ × ℕ)} {r c : ℕ} → Chain desc req l r c → (k : ℕ) → length l ≡ suc k → pair_at l k ≡ (r, c)
  chain_last (start {r} {c} q) k e = let z : 0 ≡ k = omega arith in subst (λ (i : ℕ). pair_at ((r, c) ∷ []) i ≡ (r, c)) z refl
  chain_last (next {l} r c s w) k e = snoc_end l (r, c) k (omega (arith, length-snoc l (r, c)))

  -- it has a first pair
  pub chain_some : {l : List (ℕ × ℕ)} {r c : ℕ} → Chain desc req l r c → 0 < length l
  chain_some (start e) = omega arith
  chain_some (next {l} r c s w) = omega (arith, length-snoc l (r, c))

  -- which is requested
  pub chain_first : {l : List (ℕ × ℕ)} {r c : ℕ} → Chain desc req l r c → req (pair_at l 0).0 (pair_at l 0).1 ≡ true
  chain_first (start e) = e
  chain_first (next {l} r c s w) = subst (λ (p : ℕ × ℕ). req p.0 p.1 ≡ true) (sym (snoc_at l (r, c) 0 (chain_some s))) (chain_first s)

  -- and each other is a dependency of the one before
  pub chain_leads : {l : List (ℕ × ℕ)} {r c : ℕ} → Chain desc req l r c → (i : ℕ) → suc i < length l
      → Leads desc (pair_at l i).0 (pair_at l i).1 (pair_at l (suc i)).0 (pair_at l (suc i)).1
  chain_leads (start e) i h = absurd (omega arith)
  chain_leads (next {l} {a} {b} r c s w) i h = elim (dec_le (suc (suc i)) (length l)) [
    | yes u ↦
        subst₂ (λ (p q : ℕ × ℕ). Leads desc p.0 p.1 q.0 q.1) (sym (snoc_at l (r, c) i (omega arith))) (sym (snoc_at l (r, c) (suc i) u)) (chain_leads s i u)
    | no u ↦
        let e : length l ≡ suc i = omega (arith, length-snoc l (r, c)) in
        subst₂ (λ (p q : ℕ × ℕ). Leads desc p.0 p.1 q.0 q.1)
        (sym (snoc_at l (r, c) i (omega arith) ∙ chain_last s i e)) (sym (snoc_end l (r, c) (suc i) e)) w
  ]

  -- it is within k, if the chain has k + 1 pairs
  pub chain_reach : (n : ℕ) → Pattern n desc → Ranged n req → {l : List (ℕ × ℕ)} {r c : ℕ} → Chain desc req l r c
      → (k : ℕ) × (length l ≡ suc k) × (reach desc req k r c ≡ true)
  chain_reach n P R (start {r} {c} e) = (0, refl, reach-request desc req 0 r c e)
  chain_reach n P R (next {l} {a} {b} r c s w) =
      let i = chain_reach n P R s in
      let g = needed_range desc req n P R (chain_needed s) in
      let f = leads_range n desc req P R a b r c g.0 g.1 w in
      (suc i.0, omega (arith, length-snoc l (r, c), i.1), reach_step desc req i.0 a b r c g.0 f.2 w i.2)

  -- one list is shown
  pub shown_unique : {l m : List (ℕ × ℕ)} {r c : ℕ} → Shown desc req l r c → Shown desc req m r c → l ≡ m
  shown_unique {l} {m} A B =
      let x : length l ≤ length m = A.shortest m B.chain in
      let y : length m ≤ length l = B.shortest l A.chain in
      let e : length l ≡ length m = omega arith in
      ⊎_elim (λ q. sym q)
      (λ L. ⊎_elim (λ q. q) (λ M. absurd (lower_one l m e L M)) (B.lowest l A.chain e))
      (A.lowest m B.chain (sym e))
