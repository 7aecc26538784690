-- Laws of specs/ClosedSet.antt.
use Prim.Native.Nat.{ℕ, zero, suc, ◌+◌, ◌-◌, ◌*◌, ◌≤◌, ◌<◌, min, max}
use native.Mathlib.Omega.{arith}
use Rattle.std.proofs.Common.{not-suc-le-zero, sym, subst, subst₂, eqb-true, eq-eqb}
use Rattle.std.proofs.Math.Decide.{dec_le}
use Rattle.std.specs.Prelude.{◌≡◌, refl, Bool, ◌&&◌, ◌⊎◌, ◌↔◌, length, get_or}
use Rattle.std.proofs.Math.Path.{ap, ap₂}
use Rattle.std.proofs.Math.Bool.{true, ◌||◌}
use Rattle.std.proofs.Math.Logic.{inl, inr, ⊎_elim}
use mathlib.Core.List.{List}
use Rattle.std.proofs.Math.Dec.{eqb}
use Rattle.lists.specs.Test.{any, any-hit, any_found, any_cong, or_cases, or_left, or_right, and_left, and_right, and_both}
use Rattle.closed_set.specs.ClosedSet.{descends, Needed, Leads, Closed, Holds, reach, member, Pattern, Ranged, dependency, request}

-- ---- descendants

module _ (desc : ℕ → List ℕ) (c : ℕ) where
  pub descends_at : (k : ℕ) → k < length (desc c) → descends desc c (get_or (desc c) k 0) ≡ true
  descends_at k l = any-hit (λ i. eqb (get_or (desc c) i 0) (get_or (desc c) k 0)) (length (desc c)) k l (eq-eqb (get_or (desc c) k 0) _ refl)

  pub descends_found : (d : ℕ) → descends desc c d ≡ true → (k : ℕ) × (k < length (desc c)) × (get_or (desc c) k 0 ≡ d)
  descends_found d e =
      let f = any_found (λ i. eqb (get_or (desc c) i 0) d) (length (desc c)) e in
      (f.0, f.1, eqb-true _ _ f.2)

-- ---- the test is right

module _ (desc : ℕ → List ℕ) (req : ℕ → ℕ → Bool) where
  -- (r, c) is a dependency of a pair of column j that is at most k dependencies from a requested one
  abbrev near : ℕ → ℕ → ℕ → ℕ → Bool
  near k r c j = (descends desc j c && reach desc req k r j) || (descends desc j r && reach desc req k c j)

  pub reach-request : (k r c : ℕ) → req r c ≡ true → reach desc req k r c ≡ true
  unfolding reach
  reach-request zero r c e = e
  reach-request (suc k) r c e = or_left (req r c) _ e

  -- a dependency of a pair within k is within k + 1
  pub reach_step : (k a b r c : ℕ) → b ≤ a → b ≤ c → Leads desc a b r c → reach desc req k a b ≡ true → reach desc req (suc k) r c ≡ true
  unfolding reach
  reach_step k a b r c h l (d, m, p, q) e =
      or_right (req r c) _ (any-hit (near k r c) (suc c) b (omega arith) (elim (dec_le a d) [ yes u ↦ lo u | no u ↦ hi (omega arith) ]))
    where
      lo : a ≤ d → near k r c b ≡ true
      lo u =
          let x : d ≡ r = omega arith in
          let y : a ≡ c = omega arith in
          or_right (descends desc b c && reach desc req k r b) _
          (and_both (descends desc b r) _ (subst (λ (i : ℕ). descends desc b i ≡ true) x m) (subst (λ (i : ℕ). reach desc req k i b ≡ true) y e))

      hi : d < a → near k r c b ≡ true
      hi u =
          let x : d ≡ c = omega arith in
          let y : a ≡ r = omega arith in
          or_left _ _
          (and_both (descends desc b c) _ (subst (λ (i : ℕ). descends desc b i ≡ true) x m) (subst (λ (i : ℕ). reach desc req k i b ≡ true) y e))

  -- a pair within k + 1 is requested, or is a dependency of a pair within k
  pub reach_found : (k r c : ℕ) → c ≤ r → reach desc req (suc k) r c ≡ true
      → (req r c ≡ true) ⊎ ((a : ℕ) × (b : ℕ) × (b ≤ a) × (b ≤ c) × (a ≤ r) × Leads desc a b r c × (reach desc req k a b ≡ true))
  unfolding reach
  reach_found k r c h e =
      ⊎_elim (λ p. inl p)
      (λ p. inr (via (any_found (near k r c) (suc c) p)))
      (or_cases (req r c) _ e)
    where
      via : (j : ℕ) × (j < suc c) × (near k r c j ≡ true)
          → (a : ℕ) × (b : ℕ) × (b ≤ a) × (b ≤ c) × (a ≤ r) × Leads desc a b r c × (reach desc req k a b ≡ true)
      via (j, l, t) =
          ⊎_elim
          (λ p. (r, j, omega arith, omega arith, omega arith, (c, and_left _ _ p, omega arith, omega arith), and_right (descends desc j c) _ p))
          (λ p. (c, j, omega arith, omega arith, omega arith, (r, and_left _ _ p, omega arith, omega arith), and_right (descends desc j r) _ p))
          (or_cases (descends desc j c && reach desc req k r j) _ t)

  reach_more : (k r c : ℕ) → reach desc req k r c ≡ true → reach desc req (suc k) r c ≡ true
  unfolding reach
  reach_more zero r c e = or_left (req r c) _ e
  reach_more (suc k) r c e =
      ⊎_elim (λ p. or_left (req r c) _ p)
      (λ p. or_right (req r c) _ (via (λ a b q. reach_more k a b q) (any_found (near k r c) (suc c) p)))
      (or_cases (req r c) _ e)
    where
      via : ((a b : ℕ) → reach desc req k a b ≡ true → reach desc req (suc k) a b ≡ true) → (j : ℕ) × (j < suc c) × (near k r c j ≡ true)
          → any (near (suc k) r c) (suc c) ≡ true
      via f (j, l, t) =
          any-hit (near (suc k) r c) (suc c) j l
          (⊎_elim
          (λ p. or_left _ _ (and_both (descends desc j c) _ (and_left _ _ p) (f r j (and_right (descends desc j c) _ p))))
          (λ p. or_right (descends desc j c && reach desc req (suc k) r j) _ (and_both (descends desc j r) _ (and_left _ _ p) (f c j (and_right (descends desc j r) _ p))))
          (or_cases (descends desc j c && reach desc req k r j) _ t))

  -- what is within j is within any more
  pub reach_mono : (j k r c : ℕ) → j ≤ k → reach desc req j r c ≡ true → reach desc req k r c ≡ true
  reach_mono j zero r c h e = let z : j ≡ 0 = omega arith in subst (λ (i : ℕ). reach desc req i r c ≡ true) z e
  reach_mono j (suc k) r c h e = elim (dec_le j k) [
    | yes l ↦ reach_more k r c (reach_mono j k r c l e)
    | no l ↦ let z : j ≡ suc k = omega arith in subst (λ (i : ℕ). reach desc req i r c ≡ true) z e
  ]

  -- a dependency of a needed pair is needed
  pub leads_needed : (a b r c : ℕ) → Leads desc a b r c → Needed desc req a b → Needed desc req r c
  leads_needed a b r c (d, m, p, q) s = subst₂ (λ (x y : ℕ). Needed desc req x y) (sym p) (sym q) (dependency d s m)

  pub reach_needed : (k r c : ℕ) → c ≤ r → reach desc req k r c ≡ true → Needed desc req r c
  unfolding reach
  reach_needed zero r c h e = request e
  reach_needed (suc k) r c h e =
      ⊎_elim (λ p. request p)
      (λ w. leads_needed w.0 w.1 r c w.5 (reach_needed k w.0 w.1 w.2 w.6))
      (reach_found k r c h e)

  -- needed pairs are in order, and below n
  pub needed_range : (n : ℕ) → Pattern n desc → Ranged n req → {r c : ℕ} → Needed desc req r c → (c ≤ r) × (r < n)
  needed_range n P R {r} {c} (request e) = (R.ordered r c e, R.inside r c e)
  needed_range n P R (dependency {r} {c} d s e) =
      let i = needed_range n P R s in
      omega (arith, P.below c d (omega arith) e, P.inside c d (omega arith) e)

  -- how many dependencies from a requested pair (r, c) can be: it rises along a dependency
  abbrev rank : ℕ → ℕ → ℕ
  rank r c = 2 * c + min 1 (r - c)

  complete : (n : ℕ) → Pattern n desc → Ranged n req → {r c : ℕ} → Needed desc req r c → (k : ℕ) → rank r c < k → reach desc req k r c ≡ true
  complete n P R {r} {c} (request e) k h = reach-request k r c e
  complete n P R (dependency {r} {c} d s e) zero h = absurd (not-suc-le-zero h)
  complete n P R (dependency {r} {c} d s e) (suc k) h =
      let g = needed_range n P R s in
      let b = P.below c d (omega arith) e in
      reach_step k r c (max r d) (min r d) g.0 (omega (arith, g.0)) (d, e, refl, refl) (complete n P R s k (omega arith))

-- ---- what it tests holds the requested pairs, is closed, and is least

module _ (n : ℕ) (desc : ℕ → List ℕ) (req : ℕ → ℕ → Bool) (P : Pattern n desc) (R : Ranged n req) where
  pub member_needed : (r c : ℕ) → c ≤ r → r < n → (member n desc req r c ≡ true) ↔ Needed desc req r c
  unfolding member
  member_needed r c h l = ((λ e. reach_needed desc req _ r c h e), (λ s. complete desc req n P R s _ (omega arith)))

  pub needed_member : {r c : ℕ} → Needed desc req r c → member n desc req r c ≡ true
  needed_member {r} {c} s = let g = needed_range desc req n P R s in (member_needed r c g.0 g.1).1 s

  pub member_holds : Holds req (member n desc req)
  member_holds r c e = needed_member (request e)

  pub member_closed : Closed n desc (member n desc req)
  member_closed r c d h l i e = needed_member (dependency d ((member_needed r c h l).0 e) i)

  least : (S : ℕ → ℕ → Bool) → Closed n desc S → Holds req S → {r c : ℕ} → Needed desc req r c → S r c ≡ true
  least S C H {r} {c} (request e) = H r c e
  least S C H (dependency {r} {c} d s i) =
      let g = needed_range desc req n P R s in
      C r c d g.0 g.1 i (least S C H s)

  -- every other set that does so contains it
  pub member_least : (S : ℕ → ℕ → Bool) → Closed n desc S → Holds req S → (r c : ℕ) → c ≤ r → r < n → member n desc req r c ≡ true → S r c ≡ true
  member_least S C H r c h l e = least S C H ((member_needed r c h l).0 e)

-- ---- equal patterns and equal requests give equal sets

module _ (n : ℕ) (desc desc' : ℕ → List ℕ) (req req' : ℕ → ℕ → Bool) (p : (c : ℕ) → c < n → desc c ≡ desc' c)
    (q : (r c : ℕ) → c ≤ r → r < n → req r c ≡ req' r c) where
  reach_cong : (k r c : ℕ) → c ≤ r → r < n → reach desc req k r c ≡ reach desc' req' k r c
  unfolding reach
  reach_cong zero r c h l = q r c h l
  reach_cong (suc k) r c h l =
      ap₂ ◌||◌ (q r c h l) (any_cong (near desc req k r c) (near desc' req' k r c) (suc c) (agree (λ a b m o. reach_cong k a b m o)))
    where
      same : (j d : ℕ) → j < n → descends desc j d ≡ descends desc' j d
      same j d m = ap (λ (x : List ℕ). any (λ i. eqb (get_or x i 0) d) (length x)) (p j m)

      agree : ((a b : ℕ) → b ≤ a → a < n → reach desc req k a b ≡ reach desc' req' k a b) → (j : ℕ) → j < suc c
          → near desc req k r c j ≡ near desc' req' k r c j
      agree before j m =
          ap₂ ◌||◌
          (ap₂ ◌&&◌ (same j c (omega arith)) (before r j (omega arith) l))
          (ap₂ ◌&&◌ (same j r (omega arith)) (before c j (omega arith) (omega arith)))

  pub member_cong : (r c : ℕ) → c ≤ r → r < n → member n desc req r c ≡ member n desc' req' r c
  unfolding member
  member_cong r c h l = reach_cong (2 * n) r c h l
