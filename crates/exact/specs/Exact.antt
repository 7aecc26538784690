-- The exact recurrence over a set of pairs, said over the multipliers of 1 / c, and f64's beside it: where every exact product, sum, quotient and entry
-- over the set is a multiple of 2 ^ -s with a multiplier of at most 2 ^ 53 in size, f64's entries are the exact ones. Assumes nothing.
use Rattle.std.specs.Prelude.{◌≡◌, List, [], ◌∷◌, ℕ, ◌^◌, ◌≤◌, ◌<◌, ℤ, pos, neg_ℤ, ◌+ℤ◌, ◌-ℤ◌, ◌*ℤ◌, Float}
use Rattle.std.specs.Float.{binary64}
use Rattle.std.specs.Float.Ieee.{low, add, sub, mul, div, neg}
use Rattle.takahashi.specs.Recurrence.{Arithmetic, Entry, dot, at}
use Rattle.exact.specs.Multiple.{Multiple, Small, zero_float, one_float}

-- the integers' arithmetic
abbrev pub integers : Arithmetic
integers = record { Carrier = ℤ; zero = pos 0; plus = ◌+ℤ◌; times = ◌*ℤ◌ }

-- f64's arithmetic: each sum and each product rounded once
abbrev pub floats : Arithmetic
floats = record { Carrier = Float; zero = zero_float; plus = add binary64; times = mul binary64 }

-- f64's last step below the diagonal: (-S) / d
abbrev pub float_off : Float → Float → Float
float_off d S = div binary64 (neg S) d

-- f64's last step on the diagonal: 1 / (d * d) - S / d
abbrev pub float_on : Float → Float → Float
float_on d S = sub binary64 (div binary64 one_float (mul binary64 d d)) (div binary64 S d)

-- two lists of entries with the same rows, the first with the values of the second's multipliers of 2 ^ -s
abbrev pub Alike : ℕ → List (Entry Float) → List (Entry ℤ) → Type 0
Alike s [] [] = Unit {0}
Alike s [] (q ∷ qs) = ⊥
Alike s (p ∷ ps) [] = ⊥
Alike s (p ∷ ps) (q ∷ qs) = (p.row ≡ q.row) × Multiple s p.value q.value × Alike s ps qs

-- The exact recurrence over the multipliers of 1 / c, said with no fraction. The factor's entries are l / c, its diagonal d / c, the table's entries z / c,
-- and a sum S of products of multipliers stands for S / c²: z / c is - (S / c²) / (d / c) below the diagonal, and 1 / (d / c)² - (S / c²) / (d / c) on it
pub record Recurs (c : ℤ) (diag : ℕ → ℤ) (desc : ℕ → List (Entry ℤ)) (P : ℕ → ℕ → Type 0) (z : ℕ → ℕ → ℤ) : Type 0 where
  pub below_is : (i j : ℕ) → P i j → j < i → z i j *ℤ diag j ≡ neg_ℤ (dot integers (λ k. at z i k) (desc j))
  pub diagonal_is : (j : ℕ) → P j j → z j j *ℤ (diag j *ℤ diag j) ≡ c *ℤ c *ℤ c -ℤ dot integers (λ k. z k j) (desc j) *ℤ diag j

-- each product l * r k of a list of entries (k, l) is OK
abbrev pub Products : (ℤ → Type 0) → (ℕ → ℤ) → List (Entry ℤ) → Type 0
Products OK r [] = Unit {0}
Products OK r (e ∷ es) = OK (e.value *ℤ r e.row) × Products OK r es

-- the running sum from S is OK after each addition
abbrev pub RunningSums : (ℤ → Type 0) → (ℕ → ℤ) → ℤ → List (Entry ℤ) → Type 0
RunningSums OK r S [] = Unit {0}
RunningSums OK r S (e ∷ es) = OK (S +ℤ e.value *ℤ r e.row) × RunningSums OK r (S +ℤ e.value *ℤ r e.row) es

-- x / 2 ^ (2 * s), a product or a sum of products, is a multiple of 2 ^ -s with a multiplier of at most 2 ^ 53
abbrev pub Kept : ℕ → ℤ → Type 0
Kept s x = (m : ℤ) × (m *ℤ pos (2 ^ s) ≡ x) × Small m

-- each entry, product, running sum and quotient of the exact recurrence over a set is a multiple of 2 ^ -s with a multiplier of at most 2 ^ 53;
-- on the diagonal `square` is d * d, `reciprocal` 1 / (d * d) and `quotient` S / d
pub record Bounded (s : ℕ) (diag : ℕ → ℤ) (desc : ℕ → List (Entry ℤ)) (P : ℕ → ℕ → Type 0) (z : ℕ → ℕ → ℤ) : Type 0 where
  pub entry : (i j : ℕ) → P i j → Small (z i j)
  pub product_below : (i j : ℕ) → P i j → j < i → Products (Kept s) (λ k. at z i k) (desc j)
  pub sum_below : (i j : ℕ) → P i j → j < i → RunningSums (Kept s) (λ k. at z i k) (pos 0) (desc j)
  pub product_diagonal : (j : ℕ) → P j j → Products (Kept s) (λ k. z k j) (desc j)
  pub sum_diagonal : (j : ℕ) → P j j → RunningSums (Kept s) (λ k. z k j) (pos 0) (desc j)
  pub square : (j : ℕ) → P j j → Kept s (diag j *ℤ diag j)
  pub reciprocal : (j : ℕ) → P j j → (r : ℤ) × (r *ℤ (diag j *ℤ diag j) ≡ pos (2 ^ s) *ℤ pos (2 ^ s) *ℤ pos (2 ^ s)) × Small r
  pub quotient : (j : ℕ) → P j j → (t : ℤ) × (t *ℤ diag j ≡ dot integers (λ k. z k j) (desc j)) × Small t

-- what `Bounded` says of the sums, which every recurrence has whatever its last steps
pub record BoundedSums (s : ℕ) (desc : ℕ → List (Entry ℤ)) (P : ℕ → ℕ → Type 0) (z : ℕ → ℕ → ℤ) : Type 0 where
  pub product_below : (i j : ℕ) → P i j → j < i → Products (Kept s) (λ k. at z i k) (desc j)
  pub sum_below : (i j : ℕ) → P i j → j < i → RunningSums (Kept s) (λ k. at z i k) (pos 0) (desc j)
  pub product_diagonal : (j : ℕ) → P j j → Products (Kept s) (λ k. z k j) (desc j)
  pub sum_diagonal : (j : ℕ) → P j j → RunningSums (Kept s) (λ k. z k j) (pos 0) (desc j)

-- ---- f64's running sums are the exact ones
module _ (s : ℕ) (sl : s ≤ low binary64) where
  -- x is p / 2 ^ (2 * s), and a multiple of 2 ^ -s
  abbrev pub Represents : Float → ℤ → Type 0
  Represents x p = (m : ℤ) × (m *ℤ pos (2 ^ s) ≡ p) × Multiple s x m
