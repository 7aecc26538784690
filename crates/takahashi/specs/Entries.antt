-- Lists of entries of a column: a row and a value each. Facts of every entry's row, and rows that ascend. Assumes nothing.
use Rattle.std.specs.Prelude.{List, [], ◌∷◌, ℕ, suc, ◌≤◌, ◌<◌}

-- an entry of a column: its row, and the value there
abbrev pub Entry : Type 0 → Type 0
Entry W = record { row : ℕ; value : W }

-- Q of each row of a list
abbrev pub Each : {W : Type 0} → (ℕ → Type 0) → List (Entry W) → Type 0
Each Q [] = Unit {0}
Each Q (e ∷ es) = Q e.row × Each Q es

-- each row is below the diagonal of the column j, and below n
abbrev pub Rows : {W : Type 0} → (n j : ℕ) → List (Entry W) → Type 0
Rows n j [] = Unit {0}
Rows n j (e ∷ es) = (j < e.row) × (e.row < n) × Rows n j es

-- the rows ascend, from the row a on, and stay below n
abbrev pub Ascend : {W : Type 0} → (n a : ℕ) → List (Entry W) → Type 0
Ascend n a [] = Unit {0}
Ascend n a (e ∷ es) = (a ≤ e.row) × (e.row < n) × Ascend n (suc e.row) es
