-- The sum is that of the positive values alone, in their order; the level is not below 1.0.
-- Assumes nothing.
use Rattle.std.specs.Prelude.{ℕ, zero, suc, ◌+◌, ◌≡◌, refl, Bool, true, false, cond, List, [], ◌∷◌, ◌++◌, map, Float}
use Rattle.std.proofs.Common.{arith, add-one, sym, ap, ◌∙◌}
use Rattle.std.specs.Float.{binary64}
use Rattle.std.specs.Float.Ieee.{add, lt}
use Rattle.lists.specs.Select.{select, select_none, select_yes, select_no, map_snoc}
use Rattle.columns.specs.Columns.{value}
use Rattle.columns.specs.Kept.{f0, f1}
use Rattle.float_order.specs.Order.{lt_irreflexive, lt_asymmetric}
use Rattle.floor.specs.PositiveMean.{positive, positive_sum, positive_sum_none, positive_sum_yes, positive_sum-no, magnitude, positive_mean, larger, mean_level}

-- s with the values of a list added, from its first on
abbrev pub added_to : Float → List Float → Float
added_to s [] = s
added_to s (x ∷ xs) = added_to (add binary64 s x) xs

added_to-snoc : (s : Float) (xs : List Float) (x : Float) → added_to s (xs ++ (x ∷ [])) ≡ add binary64 (added_to s xs) x
added_to-snoc s [] x = refl
added_to-snoc s (y ∷ xs) x = added_to-snoc (add binary64 s y) xs x

-- the values above 0.0 among the first k, in list order
abbrev pub positives : List Float → ℕ → List Float
positives values k = map (value values) (select (positive values) 0 k)

-- the sum adds those, and no others
pub positive_sum-positives : (values : List Float) (k : ℕ) → positive_sum values k ≡ added_to f0 (positives values k)
positive_sum-positives values zero =
    positive_sum_none values ∙ sym (ap (λ (l : List ℕ). added_to f0 (map (value values) l)) (select_none (positive values) 0))
positive_sum-positives values (suc k) = rw (← add-one) (go (positive values k) refl (positive_sum-positives values k))
  where
    go : (b : Bool) → positive values k ≡ b → positive_sum values k ≡ added_to f0 (positives values k) → positive_sum values (k + 1) ≡ added_to f0 (positives values (k + 1))
    go true e before =
        positive_sum_yes values k e ∙ ap (λ (s : Float). add binary64 s (value values k)) before
        ∙ sym
        (ap (λ (l : List ℕ). added_to f0 (map (value values) l)) (select_yes (positive values) 0 k (omega arith) e)
        ∙ ap (added_to f0) (map_snoc (value values) (select (positive values) 0 k) k)
        ∙ added_to-snoc f0 (positives values k) (value values k))
    go false e before =
        positive_sum-no values k e ∙ before
        ∙ sym (ap (λ (l : List ℕ). added_to f0 (map (value values) l)) (select_no (positive values) 0 k (omega arith) e))

-- the larger of two is not below the second
pub larger_second : (x y : Float) → lt (larger x y) y ≡ false
larger_second x y = go (lt y x) refl
  where
    go : (b : Bool) → lt y x ≡ b → lt (cond b x y) y ≡ false
    go true e = lt_asymmetric y x e
    go false e = lt_irreflexive y

-- the level is not below 1.0
pub mean_level_one : (values : List Float) → lt (mean_level values) f1 ≡ false
mean_level_one values = larger_second (magnitude (positive_mean values)) f1
