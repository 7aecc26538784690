-- The chain to a pair, back through the levels: at each step to the lowest pair of the level before that the pair is a dependency of.
-- Assumes nothing.
use Prim.Native.Nat.{ℕ, zero, suc, ◌+◌, ◌-◌, ◌*◌, ◌≤◌, ◌<◌, min, max}
use Rattle.std.proofs.Common.{arith, subst, ◌∙◌, eq-eqb, ne_eqb, eqb-true}
use Rattle.std.specs.Prelude.{◌≡◌, Bool, ◌&&◌, eqb, length}
use Rattle.std.proofs.Math.Path.{refl, sym, ap, ap₂}
use Rattle.std.proofs.Math.Bool.{true, false, cond, ◌||◌}
use mathlib.Core.List.{List, [], ◌∷◌, ◌++◌, append_assoc}
use Rattle.std.proofs.Math.Decide.{dec_lt}
use Rattle.lists.specs.Test.{same_truth, and_left, and_right, and_both, not_so}
use Rattle.closed_set.specs.ClosedSet.{descends, reach, member, Needed, Pattern, Ranged}
use Rattle.closed_set.proofs.ClosedSet.{reach_needed, needed_range, needed_member, member_needed}
use Rattle.chains.specs.Least.{least}
use Rattle.chains.proofs.Least.{least_most, least_cong}
use Rattle.chains.specs.Distance.{distance}
use Rattle.chains.proofs.Distance.{distance_most, reach-distance, distance-step, distance-reach}
use Rattle.chains.specs.Levels.{level_at}
use Rattle.chains.specs.Before.{above, beside, before_column, before_row}
use Rattle.chains.proofs.Chain.{length-snoc}
use Rattle.chains.specs.ChainOf.{chain_back, chain_of}
use Rattle.chains.proofs.ChainOf.{chain_of_none, chain_of_member, before_prior}

module _ (desc : ℕ → List ℕ) (W : ℕ → ℕ → ℕ) where
  -- (c, j) has the level and (r, c) is a dependency of it; and so for (r, j)
  abbrev pub above_at : ℕ → ℕ → ℕ → ℕ → Bool
  above_at level r c j = descends desc j r && eqb (W c j) level

  abbrev pub beside_at : ℕ → ℕ → ℕ → ℕ → Bool
  beside_at level r c j = descends desc j c && eqb (W r j) level

  -- the column and the row of the lowest such pair
  unfoldable pub back_column : ℕ → ℕ → ℕ → ℕ
  back_column level r c = least (λ j. above_at level r c j || beside_at level r c j) c

  unfoldable pub back_row : ℕ → ℕ → ℕ → ℕ
  back_row level r c = cond (above_at level r c (back_column level r c)) c r

  -- k pairs back from (r, c), which has level k + 1
  unfoldable pub levels_back : ℕ → ℕ → ℕ → List (ℕ × ℕ)
  levels_back zero r c = (r, c) ∷ []
  levels_back (suc k) r c = levels_back k (back_row (suc k) r c) (back_column (suc k) r c) ++ (r, c) ∷ []

  -- the chain to (r, c) by the levels; no pairs where it has none
  unfoldable pub levels_chain : ℕ → ℕ → List (ℕ × ℕ)
  levels_chain r c = cond (eqb (W r c) 0) [] (levels_back (W r c - 1) r c)

  pub levels_back_none : (r c : ℕ) (t : List (ℕ × ℕ)) → levels_back 0 r c ++ t ≡ (r, c) ∷ t
  unfolding levels_back
  levels_back_none r c t = refl

  -- a step back, with the pairs t that come after
  pub levels_back_next : (k r c : ℕ) (t : List (ℕ × ℕ)) → levels_back (suc k) r c ++ t ≡ levels_back k (back_row (suc k) r c) (back_column (suc k) r c) ++ (r, c) ∷ t
  unfolding levels_back
  levels_back_next k r c t = append_assoc (levels_back k (back_row (suc k) r c) (back_column (suc k) r c)) ((r, c) ∷ []) t

  pub levels_back-length : (k r c : ℕ) → length (levels_back k r c) ≡ suc k
  unfolding levels_back
  levels_back-length zero r c = refl
  levels_back-length (suc k) r c =
      let a = back_row (suc k) r c in
      let b = back_column (suc k) r c in
      omega (arith, length-snoc (levels_back k a b) (r, c), levels_back-length k a b)

module _ (desc : ℕ → List ℕ) (W : ℕ → ℕ → ℕ) (r c : ℕ) where
  pub levels_chain_none : W r c ≡ 0 → levels_chain desc W r c ≡ []
  unfolding levels_chain
  levels_chain_none e = rw (eq-eqb (W r c) 0 e) refl

  pub levels_chain_some : 0 < W r c → levels_chain desc W r c ≡ levels_back desc W (W r c - 1) r c
  unfolding levels_chain
  levels_chain_some h = let n : W r c ≡ 0 → ⊥ = λ q. omega (arith, q, h) in rw (ne_eqb (W r c) 0 n) refl

  -- it has as many pairs as the level says
  pub levels_chain-length : length (levels_chain desc W r c) ≡ W r c
  levels_chain-length = elim (dec_lt 0 (W r c)) [
    | yes h ↦ ap length (levels_chain_some h) ∙ levels_back-length desc W (W r c - 1) r c ∙ omega arith
    | no h ↦ let e : W r c ≡ 0 = omega arith in ap length (levels_chain_none e) ∙ sym e
  ]

-- ---- the levels of the closed set: it is the chain that is shown

module _ (n : ℕ) (desc : ℕ → List ℕ) (req : ℕ → ℕ → Bool) (P : Pattern n desc) (R : Ranged n req) (W : ℕ → ℕ → ℕ)
    (words : (r c : ℕ) → c ≤ r → r < n → W r c ≡ level_at n desc req (2 * n) r c) where
  -- a pair of the set has 1 more than its distance for its level
  needed_level : {r c : ℕ} → Needed desc req r c → W r c ≡ suc (distance n desc req r c)
  unfolding level_at member
  needed_level {r} {c} s =
      let g = needed_range desc req n P R s in
      words r c g.0 g.1 ∙ ap (λ (b : Bool). cond b (suc (distance n desc req r c)) 0) (needed_member n desc req P R s)

  level_needed : (k r c : ℕ) → c ≤ r → r < n → W r c ≡ suc k → Needed desc req r c × (distance n desc req r c ≡ k)
  unfolding level_at member
  level_needed k r c h l e = go (reach desc req (2 * n) r c) refl (sym e ∙ words r c h l)
    where
      go : (b : Bool) → reach desc req (2 * n) r c ≡ b → suc k ≡ cond b (suc (distance n desc req r c)) 0 → Needed desc req r c × (distance n desc req r c ≡ k)
      go true q f = (reach_needed desc req (2 * n) r c h q, omega arith)
      go false q f = absurd (omega arith)

  -- a pair (a, j) that leads to one at distance k + 1 is within k exactly if its level is k + 1
  module _ (k r c : ℕ) (s : Needed desc req r c) (far : distance n desc req r c ≡ suc k) where
    lead_level : (a j d : ℕ) → j ≤ a → a < n → (r ≡ max a d) → (c ≡ min a d) → (descends desc j d && reach desc req k a j) ≡ (descends desc j d && eqb (W a j) (suc k))
    lead_level a j d h l p q =
        same_truth _ _
        (λ e.
        let m = and_left (descends desc j d) (reach desc req k a j) e in
        let t = reach_needed desc req k a j h (and_right (descends desc j d) _ e) in
        let u = reach-distance n desc req k a j (and_right (descends desc j d) _ e) in
        let v = distance-step n desc req P R r c (d, m, p, q) t in
        and_both _ _ m (eq-eqb (W a j) (suc k) (needed_level t ∙ ap suc (omega (arith, u, v, far)))))
        (λ e.
        let m = and_left (descends desc j d) (eqb (W a j) (suc k)) e in
        let t = level_needed k a j h l (eqb-true _ _ (and_right (descends desc j d) _ e)) in
        and_both _ _ m (subst (λ (i : ℕ). reach desc req i a j ≡ true) t.1 (distance-reach n desc req P R t.0)))

    range : (c ≤ r) × (r < n)
    range = needed_range desc req n P R s

    above_same : (j : ℕ) → j ≤ c → above desc req k r c j ≡ above_at desc W (suc k) r c j
    unfolding above
    above_same j h = let g = range in lead_level c j r h (omega arith) (omega arith) (omega arith)

    beside_same : (j : ℕ) → j ≤ c → beside desc req k r c j ≡ beside_at desc W (suc k) r c j
    unfolding beside
    beside_same j h = let g = range in lead_level r j c (omega arith) (omega arith) (omega arith) (omega arith)

    -- so the pair before it is the one that the levels give
    column_same : back_column desc W (suc k) r c ≡ before_column desc req k r c
    unfolding back_column before_column
    column_same = sym (least_cong _ _ c (λ j h. ap₂ ◌||◌ (above_same j (omega arith)) (beside_same j (omega arith))))

    row_same : back_row desc W (suc k) r c ≡ before_row desc req k r c
    unfolding back_row before_row before_column
    row_same =
        ap (λ (b : Bool). cond b c r)
        (ap (above_at desc W (suc k) r c) column_same ∙ sym (above_same (before_column desc req k r c) (least_most (λ j. above desc req k r c j || beside desc req k r c j) c)))

  pub levels_back_lem : (k : ℕ) {r c : ℕ} → Needed desc req r c → distance n desc req r c ≡ k → levels_back desc W k r c ≡ chain_back desc req k r c
  unfolding levels_back chain_back
  levels_back_lem zero {r} {c} s e = refl
  levels_back_lem (suc k) {r} {c} s e =
      let Q = before_prior n desc req P R k s e in
      ap (λ (l : List (ℕ × ℕ)). l ++ (r, c) ∷ [])
      (ap₂ (levels_back desc W k) (row_same k r c s e) (column_same k r c s e) ∙ levels_back_lem k Q.needed Q.at)

  -- a pair without a level is not in the set, and has no chain
  pub level_none : (r c : ℕ) → c ≤ r → r < n → W r c ≡ 0 → chain_of n desc req r c ≡ []
  level_none r c h l e = (chain_of_none n desc req r c).1 (not_so _ (λ m. omega (arith, e, needed_level ((member_needed n desc req P R r c h l).0 m))))

  -- the chain of one that has is found back through the levels
  pub level_chain : (k r c : ℕ) → c ≤ r → r < n → W r c ≡ suc k → chain_of n desc req r c ≡ levels_back desc W k r c
  level_chain k r c h l e =
      let t = level_needed k r c h l e in
      chain_of_member n desc req r c (needed_member n desc req P R t.0)
      ∙ ap (λ (i : ℕ). chain_back desc req i r c) t.1
      ∙ sym (levels_back_lem k t.0 t.1)

  pub levels_chain_lem : (r c : ℕ) → c ≤ r → r < n → chain_of n desc req r c ≡ levels_chain desc W r c
  levels_chain_lem r c h l = elim (dec_lt 0 (W r c)) [
    | yes p ↦ level_chain (W r c - 1) r c h l (omega arith) ∙ sym (levels_chain_some desc W r c p)
    | no p ↦ let e : W r c ≡ 0 = omega arith in level_none r c h l e ∙ sym (levels_chain_none desc W r c e)
  ]

  -- no level is above 2n + 1
  pub level_most : (r c : ℕ) → c ≤ r → r < n → W r c ≤ 2 * n + 1
  unfolding level_at
  level_most r c h l = go (reach desc req (2 * n) r c) (words r c h l)
    where
      go : (b : Bool) → W r c ≡ cond b (suc (distance n desc req r c)) 0 → W r c ≤ 2 * n + 1
      go true e = omega (arith, e, distance_most n desc req r c)
      go false e = omega (arith, e)
