-- The least is below no value, and is infinity or the first of the least values.
-- Assumes nothing.
use Rattle.std.specs.Prelude.{ℕ, zero, suc, ◌<◌, ◌≡◌, refl, Bool, true, false, cond, List, ◌⊎◌, length, Float}
use Rattle.std.proofs.Common.{arith, not-suc-le-zero, eq-or-lt_of_le, le_of_suc-le-suc, sym, ap, ◌∙◌, true≢false, inl, inr, ⊎_elim, ne_eqb}
use Rattle.std.specs.Float.{inf}
use Rattle.std.specs.Float.Ieee.{lt}
use Rattle.columns.specs.Columns.{value}
use Rattle.float_order.specs.Order.{lt_irreflexive, lt_transitive}
use Rattle.least.specs.Least.{lesser, least_of, min_value}

-- x is not below the lesser of m and itself
lesser_last : (m x : Float) (b : Bool) → lt x m ≡ b → lt x (cond b x m) ≡ false
lesser_last m x true e = lt_irreflexive x
lesser_last m x false e = e

-- what is not below m is not below the lesser of m and x
lesser-keeps : (m x v : Float) (b : Bool) → lt x m ≡ b → lt v m ≡ false → lt v (cond b x m) ≡ false
lesser-keeps m x v true e h = go (lt v x) refl
  where
    go : (d : Bool) → lt v x ≡ d → lt v x ≡ false
    go true l = absurd (true≢false (sym (lt_transitive v x m l e) ∙ h))
    go false l = l
lesser-keeps m x v false e h = h

-- none of the first k values is below their least
pub least_of_below : (values : List Float) (k i : ℕ) → i < k → lt (value values i) (least_of values k) ≡ false
unfolding least_of
least_of_below values zero i l = absurd (not-suc-le-zero l)
least_of_below values (suc k) i l =
    let m = least_of values k in
    let x = value values k in
    ⊎_elim
    (λ e. ap (λ (j : ℕ). lt (value values j) (lesser m x)) e ∙ lesser_last m x (lt x m) refl)
    (λ h. lesser-keeps m x (value values i) (lt x m) refl (least_of_below values k i h))
    (eq-or-lt_of_le (le_of_suc-le-suc l))

-- the least of the first k values stands at `place`, and those before it have no value that is as small
pub record First (values : List Float) (k : ℕ) : Type 0 where
  pub place : ℕ
  pub within : place < k
  pub least : least_of values k ≡ value values place
  pub below_earlier : lt (value values place) (least_of values place) ≡ true

-- it is infinity, or the first of the least values: of two zeros the earlier is kept
pub least_of_first : (values : List Float) (k : ℕ) → (least_of values k ≡ inf false) ⊎ First values k
unfolding least_of
least_of_first values zero = inl refl
least_of_first values (suc k) = go (lt (value values k) (least_of values k)) refl (least_of_first values k)
  where
    go : (b : Bool) → lt (value values k) (least_of values k) ≡ b → (least_of values k ≡ inf false) ⊎ First values k
        → (cond b (value values k) (least_of values k) ≡ inf false) ⊎ First values (suc k)
    go true e h = inr (record { place = k; within = omega arith; least = rw e; below_earlier = e })
    go false e (inl h) = inl h
    go false e (inr f) = inr (record { place = f.place; within = let l = f.within in omega arith; least = rw e f.least; below_earlier = f.below_earlier })

module _ (values : List Float) (some : length values ≡ 0 → ⊥) where
  min_value_is : min_value values ≡ least_of values (length values)
  min_value_is = rw (ne_eqb (length values) 0 some)

  -- no value is below the least
  pub min_value_below : (i : ℕ) → i < length values → lt (value values i) (min_value values) ≡ false
  min_value_below i l = ap (lt (value values i)) min_value_is ∙ least_of_below values (length values) i l

  -- the least is one of the values, or infinity
  pub min_value-among : (min_value values ≡ inf false) ⊎ ((i : ℕ) × (i < length values) × (min_value values ≡ value values i))
  min_value-among = ⊎_elim (λ h. inl (min_value_is ∙ h)) (λ f. inr (f.place, f.within, min_value_is ∙ f.least)) (least_of_first values (length values))
