-- Laws of specs/Levels.antt.
use Prim.Native.Nat.{ℕ, zero, suc, ◌+◌, ◌-◌, ◌≤◌, ◌<◌}
use Rattle.std.proofs.Common.{arith, sym, ap, ◌∙◌, true≢false, inl, inr, ⊎_elim}
use Rattle.std.proofs.Math.Decide.{dec_le}
use Rattle.std.specs.Prelude.{◌≡◌, Bool, ◌⊎◌, ◌↔◌, List}
use Rattle.std.proofs.Math.Path.{refl}
use Rattle.std.proofs.Math.Bool.{true, false, cond}
use Rattle.lists.specs.Test.{same_truth}
use Rattle.closed_set.specs.ClosedSet.{Needed, reach, member, Pattern, Ranged}
use Rattle.closed_set.proofs.ClosedSet.{reach_step, reach_mono, reach_needed, needed_range, member_needed, needed_member}
use Rattle.chains.proofs.Distance.{leads_range, reach_within, reach-distance, reach_next}
use Rattle.chains.specs.Levels.{level_at, far, After}

module _ (n : ℕ) (desc : ℕ → List ℕ) (req : ℕ → ℕ → Bool) (P : Pattern n desc) (R : Ranged n req) where
  -- within k + 1 are those within k and the dependencies of those at distance k
  pub reach_level : (k r c : ℕ) → c ≤ r → (reach desc req (suc k) r c ≡ true) ↔ ((reach desc req k r c ≡ true) ⊎ (After n desc req P R) k r c)
  reach_level k r c h = (
    (λ e. go (reach desc req k r c) refl e),
    (λ w. ⊎_elim (λ e. reach_mono desc req k (suc k) r c (omega arith) e) (λ v. on v) w),
  )
    where
      go : (b : Bool) → reach desc req k r c ≡ b → reach desc req (suc k) r c ≡ true → (reach desc req k r c ≡ true) ⊎ (After n desc req P R) k r c
      go true q e = inl q
      go false q e =
          let s = reach_needed desc req (suc k) r c h e in
          inr (reach_next n desc req P R k s (elim (dec_le ((far n desc req P R) r c) k) [
            | yes l ↦ absurd (true≢false (sym ((reach_within n desc req P R k s).1 l) ∙ q))
            | no l ↦ omega (arith, reach-distance n desc req (suc k) r c e)
          ]))

      on : (After n desc req P R) k r c → reach desc req (suc k) r c ≡ true
      on (a, b, s, w, e) =
          let g = needed_range desc req n P R s in
          reach_step desc req k a b r c g.0 (leads_range n desc req P R a b r c g.0 g.1 w).2 w ((reach_within n desc req P R k s).1 (omega arith))

  -- no level before a pair's own has none
  pub level_before : (k j : ℕ) {r c : ℕ} → Needed desc req r c → (far n desc req P R) r c ≡ j + k → (a : ℕ) × (b : ℕ) × Needed desc req a b × ((far n desc req P R) a b ≡ k)
  level_before k zero {r} {c} s e = (r, c, s, omega arith)
  level_before k (suc j) s e = let w = reach_next n desc req P R (j + k) s (omega arith) in level_before k j w.2 w.4

  -- so once a level has none, all pairs of the set are known
  pub level_last : (k : ℕ) → ((a b : ℕ) → Needed desc req a b → (far n desc req P R) a b ≡ k → ⊥) → (r c : ℕ) → c ≤ r → r < n → reach desc req k r c ≡ member n desc req r c
  level_last k none r c h l =
      same_truth (reach desc req k r c) (member n desc req r c)
      (λ e. needed_member n desc req P R (reach_needed desc req k r c h e))
      (λ e. within ((member_needed n desc req P R r c h l).0 e))
    where
      within : Needed desc req r c → reach desc req k r c ≡ true
      within s = (reach_within n desc req P R k s).1 (elim (dec_le ((far n desc req P R) r c) k) [
        | yes u ↦ u
        | no u ↦
            let j = (far n desc req P R) r c - k in
            let w = level_before k j s (omega arith) in
            absurd (none w.0 w.1 w.2 w.3)
      ])

  -- the pairs at distance k are those whose word is k + 1
  pub level_at_own : (k r c : ℕ) → c ≤ r → (level_at n desc req k r c ≡ suc k) ↔ (Needed desc req r c × ((far n desc req P R) r c ≡ k))
  unfolding level_at
  level_at_own k r c h = ((λ e. go (reach desc req k r c) refl e), (λ w. rw ((reach_within n desc req P R k w.0).1 (omega arith)) (ap suc w.1)))
    where
      go : (b : Bool) → reach desc req k r c ≡ b → cond b (suc ((far n desc req P R) r c)) 0 ≡ suc k → Needed desc req r c × ((far n desc req P R) r c ≡ k)
      go true q e = (reach_needed desc req k r c h q, omega arith)
      go false q e = absurd (omega arith)

  -- from one level to the next a word that is not 0 stays
  pub level_at_stays : (k r c : ℕ) → reach desc req k r c ≡ true → level_at n desc req (suc k) r c ≡ level_at n desc req k r c
  unfolding level_at
  level_at_stays k r c e = rw (e, reach_mono desc req k (suc k) r c (omega arith) e)

  -- and one that is 0 becomes k + 2 if the pair is a dependency of one at distance k
  pub level_at_new : (k r c : ℕ) → c ≤ r → reach desc req k r c ≡ false → (After n desc req P R) k r c → level_at n desc req (suc k) r c ≡ suc (suc k)
  level_at_new k r c h e w =
      let t = (reach_level k r c h).1 (inr w) in
      let s = reach_needed desc req (suc k) r c h t in
      (level_at_own (suc k) r c h).1 (
        s,
        elim (dec_le ((far n desc req P R) r c) k) [
          | yes l ↦ absurd (true≢false (sym ((reach_within n desc req P R k s).1 l) ∙ e))
          | no l ↦ omega (arith, reach-distance n desc req (suc k) r c t)
        ],
      )
