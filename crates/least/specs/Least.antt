-- How many values are negative, and the least of them.
-- Assumes nothing.
use Rattle.std.specs.Prelude.{ℕ, zero, suc, ◌+◌, ◌≡◌, refl, Bool, false, cond, List, eqb, length, Float}
use Rattle.std.proofs.Common.{add-one, ne_eqb}
use Rattle.std.specs.Float.{inf}
use Rattle.std.specs.Float.Ieee.{lt}
use Rattle.lists.specs.Select.{tally, tally_none}
use Rattle.columns.specs.Columns.{value}
use Rattle.columns.specs.Kept.{f0}
use Rattle.least.specs.declared.CountAndLeast.{CountAndLeast}

-- the value at i is below 0.0
abbrev pub negative : List Float → ℕ → Bool
negative values i = lt (value values i) f0

-- how many values are below 0.0
abbrev pub num_negative : List Float → ℕ
num_negative values = tally (negative values) 0 (length values)

-- x where it is below m, else m: NaN is passed over, and of two equal values m stays
abbrev pub lesser : Float → Float → Float
lesser m x = cond (lt x m) x m

-- the least of infinity and the first k values, in list order
unfoldable pub least_of : List Float → ℕ → Float
least_of values zero = inf false
least_of values (suc k) = lesser (least_of values k) (value values k)

-- the least value, 0.0 for no values
abbrev pub min_value : List Float → Float
min_value values = cond (eqb (length values) 0) f0 (least_of values (length values))

-- what the loop gives
abbrev pub count_and_least : List Float → CountAndLeast
count_and_least values = record { num_negative = num_negative values; min_value = min_value values }

pub least_of_none : (values : List Float) → least_of values 0 ≡ inf false
unfolding least_of
least_of_none values = refl

pub least_of_next : (values : List Float) (k : ℕ) → least_of values (k + 1) ≡ lesser (least_of values k) (value values k)
unfolding least_of
least_of_next values k = rw add-one

pub count_and_least_none : (values : List Float) → length values ≡ 0 → record { num_negative = 0; min_value = f0 } ≡ count_and_least values
count_and_least_none values e = rw (e, tally_none (negative values) 0)

pub count_and_least_some : (values : List Float) {n : ℕ} {m : Float} → (length values ≡ 0 → ⊥) → n ≡ num_negative values → m ≡ least_of values (length values)
    → record { num_negative = n; min_value = m } ≡ count_and_least values
count_and_least_some values d p q = rw (ne_eqb (length values) 0 d, ← p, ← q)
