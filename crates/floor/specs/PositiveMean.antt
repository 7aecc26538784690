-- The mean of the values above 0.0, added in list order, and the level that a floor is scaled from.
-- Assumes nothing.
use Rattle.std.specs.Prelude.{ℕ, zero, suc, ◌+◌, ◌≡◌, refl, Bool, true, false, cond, List, eqb, pos, length, Float}
use Rattle.std.proofs.Common.{add-one, ap, ◌∙◌, arith, eq-eqb, ne_eqb}
use Rattle.std.specs.Float.{nan, inf, fin, binary64}
use Rattle.std.specs.Float.Ieee.{add, div, lt, of_int}
use Rattle.lists.specs.Sum.{bit}
use Rattle.lists.specs.Select.{tally, tally_next}
use Rattle.columns.specs.Columns.{value}
use Rattle.columns.specs.Kept.{f0, f1}

-- the value at i is above 0.0
abbrev pub positive : List Float → ℕ → Bool
positive values i = lt f0 (value values i)

-- how many of the first k values are above 0.0
abbrev pub positive_count : List Float → ℕ → ℕ
positive_count values k = tally (positive values) 0 k

-- the sum of those, from 0.0 in list order
unfoldable pub positive_sum : List Float → ℕ → Float
positive_sum values zero = f0
positive_sum values (suc k) = cond (positive values k) (add binary64 (positive_sum values k) (value values k)) (positive_sum values k)

-- their mean, 1.0 if there are none
abbrev pub positive_mean : List Float → Float
positive_mean values =
    let n = length values in
    cond (eqb (positive_count values n) 0) f1 (div binary64 (positive_sum values n) (of_int binary64 (pos (positive_count values n))))

-- a value without its sign
abbrev pub magnitude : Float → Float
magnitude nan = nan
magnitude (inf s) = inf false
magnitude (fin s m e) = fin false m e

-- x where it is above y, else y
abbrev pub larger : Float → Float → Float
larger x y = cond (lt y x) x y

-- max(|mean of positive values|, 1)
abbrev pub mean_level : List Float → Float
mean_level values = larger (magnitude (positive_mean values)) f1

pub positive_sum_none : (values : List Float) → positive_sum values 0 ≡ f0
unfolding positive_sum
positive_sum_none values = refl

pub positive_sum_yes : (values : List Float) (k : ℕ) → positive values k ≡ true
    → positive_sum values (k + 1) ≡ add binary64 (positive_sum values k) (value values k)
unfolding positive_sum
positive_sum_yes values k e = rw (add-one, e)

pub positive_sum-no : (values : List Float) (k : ℕ) → positive values k ≡ false → positive_sum values (k + 1) ≡ positive_sum values k
unfolding positive_sum
positive_sum-no values k e = rw (add-one, e)

pub positive_count_yes : (values : List Float) (k : ℕ) → positive values k ≡ true → positive_count values (k + 1) ≡ positive_count values k + 1
positive_count_yes values k e = tally_next (positive values) 0 k (omega arith) ∙ ap (λ (b : Bool). positive_count values k + bit b) e

pub positive_count-no : (values : List Float) (k : ℕ) → positive values k ≡ false → positive_count values (k + 1) ≡ positive_count values k
positive_count-no values k e = tally_next (positive values) 0 k (omega arith) ∙ ap (λ (b : Bool). positive_count values k + bit b) e ∙ omega arith

pub positive_mean_none : (values : List Float) → positive_count values (length values) ≡ 0 → f1 ≡ positive_mean values
positive_mean_none values e = rw (eq-eqb _ 0 e)

pub positive_mean_some : (values : List Float) {n : ℕ} {s : Float} → n ≡ positive_count values (length values) → s ≡ positive_sum values (length values)
    → (n ≡ 0 → ⊥) → div binary64 s (of_int binary64 (pos n)) ≡ positive_mean values
positive_mean_some values p q d = rw (← p, ← q, ne_eqb _ 0 d)
