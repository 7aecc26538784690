-- Laws of specs/Before.antt.
use Rattle.std.specs.Prelude.{ℕ, ◌≤◌, ◌≡◌, Bool, cond, ◌&&◌, ◌||◌, ◌⊎◌, List}
use native.Mathlib.Omega.{arith}
use Rattle.std.proofs.Common.{eq-or-lt_of_le, ◌∙◌, true≢false}
use Rattle.std.proofs.Math.Decide.{dec_le}
use Rattle.std.proofs.Math.Path.{refl, sym, ap, subst}
use Rattle.std.proofs.Math.Bool.{true, false}
use Rattle.std.proofs.Math.Logic.{inl, inr, ⊎_elim}
use Rattle.lists.specs.Test.{or_cases, or_left, or_right, and_left, and_right, and_both}
use Rattle.closed_set.specs.ClosedSet.{descends, Leads, reach}
use Rattle.chains.proofs.Least.{least_most, least_holds, least_least}
use Rattle.chains.specs.Chain.{LowerPair}
use Rattle.chains.specs.Before.{above, beside, before_column, before_row, Lead}

module _ (desc : ℕ → List ℕ) (req : ℕ → ℕ → Bool) where
  module _ (k r c : ℕ) where
    abbrev test : ℕ → Bool
    test j = (above desc req) k r c j || (beside desc req) k r c j

    row_cases : (((above desc req) k r c ((before_column desc req) k r c) ≡ true) × ((before_row desc req) k r c ≡ c)) ⊎ (((above desc req) k r c ((before_column desc req) k r c) ≡ false) × ((before_row desc req) k r c ≡ r))
    unfolding before_row
    row_cases = go ((above desc req) k r c ((before_column desc req) k r c)) refl
      where
        go : (b : Bool) → (above desc req) k r c ((before_column desc req) k r c) ≡ b
            → (((above desc req) k r c ((before_column desc req) k r c) ≡ true) × (cond b c r ≡ c)) ⊎ (((above desc req) k r c ((before_column desc req) k r c) ≡ false) × (cond b c r ≡ r))
        go true e = inl (e, refl)
        go false e = inr (e, refl)

    module _ (h : c ≤ r) where
      lead_cases : (a b : ℕ) → (Lead desc req) k r c a b → ((a ≡ c) × ((above desc req) k r c b ≡ true)) ⊎ ((a ≡ r) × ((beside desc req) k r c b ≡ true))
      unfolding above beside
      lead_cases a b L = go L.leads
        where
          both : (d i j : ℕ) → descends desc b d ≡ true → d ≡ j → a ≡ i → (descends desc b j && reach desc req k i b) ≡ true
          both d i j m v w = and_both (descends desc b j) _ (subst (λ (x : ℕ). descends desc b x ≡ true) v m) (subst (λ (x : ℕ). reach desc req k x b ≡ true) w L.within)

          go : Leads desc a b r c → ((a ≡ c) × ((descends desc b r && reach desc req k c b) ≡ true)) ⊎ ((a ≡ r) × ((descends desc b c && reach desc req k r b) ≡ true))
          go (d, m, p, q) = elim (dec_le a d) [
            | yes u ↦ inl (omega arith, both d c r m (omega arith) (omega arith))
            | no u ↦ inr (omega arith, both d r c m (omega arith) (omega arith))
          ]

      lead_test : (a b : ℕ) → (Lead desc req) k r c a b → test b ≡ true
      lead_test a b L = ⊎_elim (λ u. or_left _ _ u.1) (λ u. or_right ((above desc req) k r c b) _ u.1) (lead_cases a b L)

      -- where there is such a pair, it is one
      pub before_lead : (a b : ℕ) → (Lead desc req) k r c a b → (Lead desc req) k r c ((before_row desc req) k r c) ((before_column desc req) k r c)
      unfolding before_column above beside
      before_lead a b L =
          let y = (before_column desc req) k r c in
          let t : test y ≡ true = least_holds test c b L.column (lead_test a b L) in
          let l : y ≤ c = least_most test c in
          ⊎_elim
          (λ u. subst (λ (i : ℕ). (Lead desc req) k r c i y) (sym u.1) (record {
            ordered = l;
            column = l;
            leads = (r, and_left _ _ u.0, omega arith, omega arith);
            within = and_right (descends desc y r) _ u.0;
          }))
          (λ u. ⊎_elim
          (λ v. absurd (true≢false (sym v ∙ u.0)))
          (λ v. subst (λ (i : ℕ). (Lead desc req) k r c i y) (sym u.1) (record {
            ordered = omega arith;
            column = l;
            leads = (c, and_left _ _ v, omega arith, omega arith);
            within = and_right (descends desc y c) _ v;
          }))
          (or_cases ((above desc req) k r c y) _ t))
          row_cases

      -- and every other is higher
      pub before_lowest : (a b : ℕ) → (Lead desc req) k r c a b → ((a ≡ (before_row desc req) k r c) × (b ≡ (before_column desc req) k r c)) ⊎ LowerPair ((before_row desc req) k r c, (before_column desc req) k r c) (a, b)
      unfolding before_column
      before_lowest a b L =
          ⊎_elim
          (λ q. ⊎_elim
          (λ u. ⊎_elim
          (λ v. inl (v.0 ∙ sym u.1, sym q))
          (λ v. elim (dec_le r c) [ yes w ↦ inl (omega arith, sym q) | no w ↦ inr (inr (q, omega arith)) ])
          (lead_cases a b L))
          (λ u. ⊎_elim
          (λ v. absurd (true≢false (sym v.1 ∙ ap ((above desc req) k r c) (sym q) ∙ u.0)))
          (λ v. inl (v.0 ∙ sym u.1, sym q))
          (lead_cases a b L))
          row_cases)
          (λ u. inr (inl u))
          (eq-or-lt_of_le (least_least test c b (lead_test a b L)))
