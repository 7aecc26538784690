-- Laws of specs/Checked.antt.
use Rattle.std.specs.Prelude.{ℕ, ◌≡◌, refl, Bool, true, false, cond, ◌||◌, List, [], ◌∷◌, ◌++◌, ℤ, ◌+ℤ◌, ◌*ℤ◌}
use Rattle.std.proofs.Common.{ap, ap₂, ◌∙◌, le-ltb, ltb-false}
use Rattle.lists.specs.Test.{or_neither_left, or_neither_right}
use Rattle.refusal.specs.Steps.{Reply, refused, answered}
use Rattle.takahashi.specs.Recurrence.{Entry, Each, run}
use Rattle.exact.specs.Multiple.{Small}
use Rattle.exact.specs.Exact.{integers, Products, RunningSums}
use Rattle.exact.specs.Checked.{beyond, sum_exceeds, plus_product, checked_run}

-- ---- a number is within exactly if it is small
pub small_within : (z : ℤ) → Small z → beyond z ≡ false
small_within z h = le-ltb _ _ h

pub within_small : (z : ℤ) → beyond z ≡ false → Small z
within_small z e = ltb-false _ _ e

-- ---- nothing of a sum is beyond exactly if each product and each running sum is small
module _ (r : ℕ → ℤ) where
  pub sum_small : (S : ℤ) (es : List (Entry ℤ)) → sum_exceeds r S es ≡ false → Products Small r es × RunningSums Small r S es
  sum_small S [] e = (tt, tt)
  sum_small S (p ∷ es) e =
      let x = p.value *ℤ r p.row in
      let later = or_neither_right (beyond x) _ e in
      let rest = sum_small (S +ℤ x) es (or_neither_right (beyond (S +ℤ x)) _ later) in (
        (within_small x (or_neither_left (beyond x) _ e), rest.0),
        (within_small (S +ℤ x) (or_neither_left (beyond (S +ℤ x)) _ later), rest.1),
      )

  pub small_sum : (S : ℤ) (es : List (Entry ℤ)) → Products Small r es → RunningSums Small r S es → sum_exceeds r S es ≡ false
  small_sum S [] p s = refl
  small_sum S (e ∷ es) p s =
      let x = e.value *ℤ r e.row in
      ap₂ ◌||◌ (small_within x p.0)
      (ap₂ ◌||◌ (small_within (S +ℤ x) s.0) (small_sum (S +ℤ x) es p.1 s.1))

-- the row's values count at the list's rows alone
pub sum_exceeds_each : (r s : ℕ → ℤ) (S : ℤ) (es : List (Entry ℤ)) → Each (λ k. r k ≡ s k) es → sum_exceeds r S es ≡ sum_exceeds s S es
sum_exceeds_each r s S [] h = refl
sum_exceeds_each r s S (e ∷ es) h =
    ap (λ (x : ℤ). beyond (e.value *ℤ x) || (beyond (S +ℤ e.value *ℤ x) || sum_exceeds r (S +ℤ e.value *ℤ x) es)) h.0
    ∙ ap (λ (b : Bool). beyond (e.value *ℤ s e.row) || (beyond (S +ℤ e.value *ℤ s e.row) || b))
    (sum_exceeds_each r s (S +ℤ e.value *ℤ s e.row) es h.1)

-- ---- the checked sum
module _ (r : ℕ → ℤ) where
  run-refused : (k : ℕ) (es : List (Entry ℤ)) → checked_run r (refused k) es ≡ refused k
  run-refused k [] = refl
  run-refused k (e ∷ es) = run-refused k es

  -- the exact sum where nothing of it is beyond, else 20
  pub checked-run : (S : ℤ) (es : List (Entry ℤ)) → checked_run r (answered S) es ≡ cond (sum_exceeds r S es) (refused 20) (answered (run integers r S es))
  checked-run S [] = refl
  checked-run S (e ∷ es) = go (beyond x) (beyond (S +ℤ x)) (checked-run (S +ℤ x) es)
    where
      x : ℤ
      x = e.value *ℤ r e.row

      go : (a b : Bool) → checked_run r (answered (S +ℤ x)) es ≡ cond (sum_exceeds r (S +ℤ x) es) (refused 20) (answered (run integers r (S +ℤ x) es))
          → checked_run r (cond a (refused 20) (cond b (refused 20) (answered (S +ℤ x)))) es
          ≡ cond (a || (b || sum_exceeds r (S +ℤ x) es)) (refused 20) (answered (run integers r (S +ℤ x) es))
      go true b rest = run-refused 20 es
      go false true rest = run-refused 20 es
      go false false rest = rest

  -- a list in two parts
  pub checked-append : (S : Reply ℤ) (es fs : List (Entry ℤ)) → checked_run r S (es ++ fs) ≡ checked_run r (checked_run r S es) fs
  checked-append S [] fs = refl
  checked-append S (e ∷ es) fs = checked-append (plus_product S e.value (r e.row)) es fs

-- the row's values count at the list's rows alone
pub checked_each : (r s : ℕ → ℤ) (S : Reply ℤ) (es : List (Entry ℤ)) → Each (λ k. r k ≡ s k) es → checked_run r S es ≡ checked_run s S es
checked_each r s S [] h = refl
checked_each r s S (e ∷ es) h =
    ap (λ (x : ℤ). checked_run r (plus_product S e.value x) es) h.0 ∙ checked_each r s (plus_product S e.value (s e.row)) es h.1
