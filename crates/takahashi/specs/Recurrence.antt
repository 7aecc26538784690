-- The recurrence of the selected inverse, over any arithmetic: its definition as a table, and as equations between a table's entries. Assumes nothing.
-- Columns are done from the last to the first. Z(i, j) below the diagonal is `off d S`, with d the factor's diagonal in the column j and S the running sum,
-- from zero, of l * Z(i, k) over the column's entries (k, l) below the diagonal, in their order. Z(j, j) is `on d S`, with S that sum of l * Z(k, j).
use Rattle.std.specs.Prelude.{◌≡◌, cond, List, [], ◌∷◌, ℕ, zero, suc, ◌-◌, ◌≤◌, ◌<◌, min, max, eqb}
pub use Rattle.takahashi.specs.Entries.{Entry, Each, Rows}

-- numbers with a sum and a product, of which nothing is asked
pub record Arithmetic : Type 1 where
  pub Carrier : Type 0
  pub zero : Carrier
  pub plus : Carrier → Carrier → Carrier
  pub times : Carrier → Carrier → Carrier

-- S + l₁ * r k₁ + l₂ * r k₂ + .., from the left
abbrev pub run : (A : Arithmetic) → (ℕ → A.Carrier) → A.Carrier → List (Entry A.Carrier) → A.Carrier
run A r S [] = S
run A r S (e ∷ es) = run A r (A.plus S (A.times e.value (r e.row))) es

-- the running sum from zero
abbrev pub dot : (A : Arithmetic) → (ℕ → A.Carrier) → List (Entry A.Carrier) → A.Carrier
dot A r es = run A r A.zero es

-- a table that stores the lower triangle, read at either order of the indices
abbrev pub at : {W : Type 0} → (ℕ → ℕ → W) → ℕ → ℕ → W
at Z i k = Z (max i k) (min i k)

-- the pairs of the lower triangle of n by n
abbrev pub Lower : ℕ → ℕ → ℕ → Type 0
Lower n i j = (j ≤ i) × (i < n)

-- a set of pairs of the lower triangle that holds what its entries are made of
pub record RecurrenceClosed {W : Type 0} (n : ℕ) (desc : ℕ → List (Entry W)) (P : ℕ → ℕ → Type 0) : Type 0 where
  pub inside : (i j : ℕ) → P i j → Lower n i j
  pub rows : (i j : ℕ) → P i j → Rows n j (desc j)
  pub below : (i j : ℕ) → P i j → j < i → Each (λ k. P (max i k) (min i k)) (desc j)
  pub diagonal : (j : ℕ) → P j j → Each (λ k. P k j) (desc j)

module _ (A : Arithmetic) (off on : A.Carrier → A.Carrier → A.Carrier) (n : ℕ) (diag : ℕ → A.Carrier) (desc : ℕ → List (Entry A.Carrier)) where
  -- the entry (i, j) below the diagonal, from a table of the columns after j
  abbrev pub below : (ℕ → ℕ → A.Carrier) → ℕ → ℕ → A.Carrier
  below Z j i = off (diag j) (dot A (λ k. at Z i k) (desc j))

  -- the entry (j, j), from the same table
  abbrev pub diagonal : (ℕ → ℕ → A.Carrier) → ℕ → A.Carrier
  diagonal Z j = on (diag j) (dot A (λ k. below Z j k) (desc j))

  -- that table with the column j put in
  abbrev pub column : ℕ → (ℕ → ℕ → A.Carrier) → ℕ → ℕ → A.Carrier
  column j Z i c = cond (eqb c j) (cond (eqb i j) (diagonal Z j) (below Z j i)) (Z i c)

  -- the table after the columns n - 1 .. n - k
  abbrev pub stage : ℕ → ℕ → ℕ → A.Carrier
  stage zero = λ i c. A.zero
  stage (suc k) = column (n - suc k) (stage k)

  -- the table after all columns
  abbrev pub table : ℕ → ℕ → A.Carrier
  table = stage n

-- the recurrence as equations between a table's own entries, on a set P of pairs
pub record Solves (A : Arithmetic) (off on : A.Carrier → A.Carrier → A.Carrier) (diag : ℕ → A.Carrier) (desc : ℕ → List (Entry A.Carrier))
    (P : ℕ → ℕ → Type 0) (Z : ℕ → ℕ → A.Carrier) : Type 0 where
  pub below_is : (i j : ℕ) → P i j → j < i → Z i j ≡ off (diag j) (dot A (λ k. at Z i k) (desc j))
  pub diagonal_is : (j : ℕ) → P j j → Z j j ≡ on (diag j) (dot A (λ k. Z k j) (desc j))
