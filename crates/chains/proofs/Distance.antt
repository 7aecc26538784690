-- Laws of specs/Distance.antt.
use Rattle.std.specs.Prelude.{ℕ, suc, ◌*◌, ◌≤◌, ◌<◌, ◌≡◌, Bool, true, ◌⊎◌, ◌↔◌, List}
use Rattle.std.proofs.Common.{arith, subst, ⊎_elim}
use Rattle.closed_set.specs.ClosedSet.{Needed, Leads, reach, member, Pattern, Ranged}
use Rattle.closed_set.proofs.ClosedSet.{reach_step, reach_found, reach_mono, reach_needed, needed_range, needed_member}
use Rattle.chains.proofs.Least.{least_most, least_holds, least_least}
use Rattle.chains.specs.Distance.{distance}

module _ (n : ℕ) (desc : ℕ → List ℕ) (req : ℕ → ℕ → Bool) where
  pub distance_most : (r c : ℕ) → distance n desc req r c ≤ 2 * n
  unfolding distance
  distance_most r c = least_most (λ k. reach desc req k r c) (2 * n)

  pub reach-distance : (k r c : ℕ) → reach desc req k r c ≡ true → distance n desc req r c ≤ k
  unfolding distance
  reach-distance k r c e = least_least (λ i. reach desc req i r c) (2 * n) k e

module _ (n : ℕ) (desc : ℕ → List ℕ) (req : ℕ → ℕ → Bool) (P : Pattern n desc) (R : Ranged n req) where
  abbrev far : ℕ → ℕ → ℕ
  far r c = distance n desc req r c

  -- a needed pair is within its distance
  pub distance-reach : {r c : ℕ} → Needed desc req r c → reach desc req (far r c) r c ≡ true
  unfolding distance member
  distance-reach {r} {c} s = least_holds (λ k. reach desc req k r c) (2 * n) (2 * n) (omega arith) (needed_member n desc req P R s)

  -- and so within k exactly if its distance is at most k
  pub reach_within : (k : ℕ) {r c : ℕ} → Needed desc req r c → (reach desc req k r c ≡ true) ↔ (far r c ≤ k)
  reach_within k {r} {c} s = ((λ e. reach-distance n desc req k r c e), (λ h. reach_mono desc req (far r c) k r c h (distance-reach s)))

  -- requested pairs are those at distance 0
  pub distance-request : {r c : ℕ} → Needed desc req r c → (far r c ≡ 0) ↔ (req r c ≡ true)
  unfolding reach
  distance-request {r} {c} s = ((λ e. (reach_within 0 s).1 (omega arith)), (λ e. let z : far r c ≤ 0 = (reach_within 0 s).0 e in omega arith))

  -- a dependency is in order and below n, and no column is before its own
  pub leads_range : (a b r c : ℕ) → b ≤ a → a < n → Leads desc a b r c → (c ≤ r) × (r < n) × (b ≤ c)
  leads_range a b r c h l (d, m, p, q) = omega (arith, P.below b d (omega arith) m, P.inside b d (omega arith) m)

  -- every dependency of a pair at distance k is at distance at most k + 1
  pub distance-step : {a b : ℕ} (r c : ℕ) → Leads desc a b r c → Needed desc req a b → far r c ≤ suc (far a b)
  distance-step {a} {b} r c w s =
      let g = needed_range desc req n P R s in
      let h = leads_range a b r c g.0 g.1 w in
      reach-distance n desc req (suc (far a b)) r c (reach_step desc req (far a b) a b r c g.0 h.2 w (distance-reach s))

  -- a pair at distance k + 1 is a dependency of a pair at distance k
  pub reach_next : (k : ℕ) {r c : ℕ} → Needed desc req r c → far r c ≡ suc k → (a : ℕ) × (b : ℕ) × Needed desc req a b × Leads desc a b r c × (far a b ≡ k)
  reach_next k {r} {c} s e =
      ⊎_elim
      (λ p. let z : far r c ≡ 0 = (distance-request s).1 p in absurd (omega arith))
      (λ w.
      let t = reach_needed desc req k w.0 w.1 w.2 w.6 in
      let x : far r c ≤ suc (far w.0 w.1) = distance-step r c w.5 t in
      let y : far w.0 w.1 ≤ k = reach-distance n desc req k w.0 w.1 w.6 in
      (w.0, w.1, t, w.5, omega arith))
      (reach_found desc req k r c (needed_range desc req n P R s).0 (subst (λ (i : ℕ). reach desc req i r c ≡ true) e (distance-reach s)))
