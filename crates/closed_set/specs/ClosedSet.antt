-- The closed set: the least set of pairs that holds the requested pairs and the dependencies of its pairs.
-- A pattern gives the rows of each column's descendants; a set of pairs is a test of (row, column).
-- Assumes nothing.
use Prim.Native.Nat.{ℕ, zero, suc, ◌*◌, ◌≤◌, ◌<◌, min, max}
use Rattle.std.specs.Prelude.{◌≡◌, Bool, ◌&&◌, length, get_or}
use Rattle.std.proofs.Math.Bool.{true, ◌||◌}
use mathlib.Core.List.{List}
use Rattle.std.proofs.Math.Dec.{eqb}
use Rattle.lists.specs.Test.{any}

-- d is a descendant of column c
abbrev pub descends : (ℕ → List ℕ) → ℕ → ℕ → Bool
descends desc c d = any (λ k. eqb (get_or (desc c) k 0) d) (length (desc c))

-- a pair is needed if it is requested, or is a dependency of a needed pair: (r, d) put in order, for a descendant d of c
pub data Needed (desc : ℕ → List ℕ) (req : ℕ → ℕ → Bool) : ℕ → ℕ → Type 0 where
  request : {r c : ℕ} → req r c ≡ true → Needed desc req r c
  dependency : {r c : ℕ} (d : ℕ) → Needed desc req r c → descends desc c d ≡ true → Needed desc req (max r d) (min r d)

-- (r, c) is a dependency of (a, b): (a, d) put in order, for a descendant d of b
abbrev pub Leads : (ℕ → List ℕ) → ℕ → ℕ → ℕ → ℕ → Type 0
Leads desc a b r c = (d : ℕ) × (descends desc b d ≡ true) × (r ≡ max a d) × (c ≡ min a d)

-- a set that holds the dependencies of its pairs
abbrev pub Closed : ℕ → (ℕ → List ℕ) → (ℕ → ℕ → Bool) → Type 0
Closed n desc S = (r c d : ℕ) → c ≤ r → r < n → descends desc c d ≡ true → S r c ≡ true → S (max r d) (min r d) ≡ true

-- a set that holds the requested pairs
abbrev pub Holds : (ℕ → ℕ → Bool) → (ℕ → ℕ → Bool) → Type 0
Holds req S = (r c : ℕ) → req r c ≡ true → S r c ≡ true

module _ (desc : ℕ → List ℕ) (req : ℕ → ℕ → Bool) where
  -- (r, c) is at most k dependencies from a requested pair. It is a dependency of (r, j) if c is a descendant of j, and of (c, j) if r is
  unfoldable pub reach : ℕ → ℕ → ℕ → Bool
  reach zero r c = req r c
  reach (suc k) r c = req r c || any (λ j. (descends desc j c && reach k r j) || (descends desc j r && reach k c j)) (suc c)

-- (r, c) is in the closed set of n columns: no pair is more than 2n dependencies from a requested one
unfoldable pub member : ℕ → (ℕ → List ℕ) → (ℕ → ℕ → Bool) → ℕ → ℕ → Bool
member n desc req r c = reach desc req (2 * n) r c

-- a pattern of n columns: descendants lie below their column, and below n
pub record Pattern (n : ℕ) (desc : ℕ → List ℕ) : Type 0 where
  pub below : (c d : ℕ) → c < n → descends desc c d ≡ true → c < d
  pub inside : (c d : ℕ) → c < n → descends desc c d ≡ true → d < n

-- requested pairs are in order, and below n
pub record Ranged (n : ℕ) (req : ℕ → ℕ → Bool) : Type 0 where
  pub ordered : (r c : ℕ) → req r c ≡ true → c ≤ r
  pub inside : (r c : ℕ) → req r c ≡ true → r < n
