-- 2 ^ 53 and what is beyond it, by computation: numbers, sums, and the recurrence over a set of pairs.
-- Assumes nothing.
use Rattle.std.specs.Prelude.{ℕ, zero, suc, ◌-◌, ◌^◌, ◌≤◌, ◌<◌, ◌≡◌, refl, Bool, true, false, ◌↔◌, List, [], ◌∷◌, ℤ, pos, negsuc}
use Rattle.lists.specs.Test.{any, any_in}
use Rattle.refusal.specs.Steps.{refused, answered}
use Rattle.takahashi.specs.Recurrence.{Entry, Lower}
use Rattle.exact.specs.ExactCase.{unit_table, WithinBound}
use Rattle.exact.specs.Checked.{beyond, sum_exceeds, checked_dot}
use Rattle.exact.specs.Exceeds.{set_exceeds}
use Rattle.exact.proofs.Exceeds.{none_within, within_none}
use Rattle.exact.specs.Examples.{two, f2_entries}
use Rattle.exact.proofs.Examples.{f2_closed, f2_within}

-- ---- the edges of 2 ^ 53
edge : beyond (pos (2 ^ 53)) ≡ false
edge = refl

edge_below : beyond (negsuc (2 ^ 53 - 1)) ≡ false
edge_below = refl

past : beyond (pos (suc (2 ^ 53))) ≡ true
past = refl

past_below : beyond (negsuc (2 ^ 53)) ≡ true
past_below = refl

-- the least number of 64 bits
least_past : beyond (negsuc (2 ^ 63 - 1)) ≡ true
least_past = refl

-- ---- sums: each with every row's value 1
abbrev each_one : ℕ → ℤ
each_one k = pos 1

-- 2 ^ 53, then 1, then -1: a running sum is beyond, no product is, and the last sum is not
abbrev returning : List (Entry ℤ)
returning = record { row = 0; value = pos (2 ^ 53) } ∷ two 1 (pos 1) 2 (negsuc 0)

sum_alone : checked_dot each_one returning ≡ refused 20
sum_alone = refl

-- 1, then 2 ^ 53, then -1: the same numbers in another order
sum_ordered : checked_dot each_one (record { row = 0; value = pos 1 } ∷ two 1 (pos (2 ^ 53)) 2 (negsuc 0)) ≡ refused 20
sum_ordered = refl

-- -1, then 2 ^ 53, then 1 stays within
sum_within : checked_dot each_one (record { row = 0; value = negsuc 0 } ∷ two 1 (pos (2 ^ 53)) 2 (pos 1)) ≡ answered (pos (2 ^ 53))
sum_within = refl

-- -5, then 3 times a third of 2 ^ 53 + 1: a product is beyond, no sum is
abbrev thirds : ℕ → ℤ
thirds zero = pos 1
thirds (suc k) = pos 3002399751580331

product_alone : checked_dot thirds (two 0 (negsuc 4) 1 (pos 3)) ≡ refused 20
product_alone = refl

product-exceeds : sum_exceeds thirds (pos 0) (two 0 (negsuc 4) 1 (pos 3)) ≡ true
product-exceeds = refl

-- ---- the recurrence over a set: all pairs, and (1, 1) alone
abbrev every_pair : ℕ → ℕ → Bool
every_pair i j = true

abbrev corner_pair : ℕ → ℕ → Bool
corner_pair zero j = false
corner_pair (suc i) zero = false
corner_pair (suc i) (suc j) = true

f2_none : set_exceeds 2 f2_entries (unit_table 2 f2_entries) every_pair ≡ false
unfolding set_exceeds any any_in
f2_none = refl

-- 2 ^ 26 twice below a diagonal: products of 2 ^ 52, a sum of -(2 ^ 53), and the entry 2 ^ 53 + 1
abbrev powers : ℕ → List (Entry ℤ)
powers zero = two 1 (pos (2 ^ 26)) 2 (pos (2 ^ 26))
powers (suc j) = []

entry_alone : set_exceeds 3 powers (unit_table 3 powers) every_pair ≡ true
unfolding set_exceeds any any_in
entry_alone = refl

powers_sum : checked_dot (λ k. unit_table 3 powers k 0) (powers 0) ≡ answered (negsuc (2 ^ 53 - 1))
powers_sum = refl

-- outside the set nothing counts
outside_none : set_exceeds 3 powers (unit_table 3 powers) corner_pair ≡ false
unfolding set_exceeds any any_in
outside_none = refl

-- ---- `none_within`, `within_none` at F2, over all its pairs
all_pairs : (i j : ℕ) → j ≤ i → i < 2 → (every_pair i j ≡ true) ↔ Lower 2 i j
all_pairs i j ji hi = ((λ e. (ji, hi)), (λ p. refl))

f2_found_within : WithinBound 2 f2_entries (Lower 2)
f2_found_within = none_within 2 f2_entries every_pair (Lower 2) all_pairs f2_closed f2_none

f2_found_none : set_exceeds 2 f2_entries (unit_table 2 f2_entries) every_pair ≡ false
f2_found_none = within_none 2 f2_entries every_pair (Lower 2) all_pairs f2_closed f2_within
