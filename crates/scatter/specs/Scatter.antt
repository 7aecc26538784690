-- The factor-pattern route of Takahashi's recurrence, over any arithmetic: what each of its loops leaves, by count, and the pattern it runs on.
-- `none` stands for a value past a list's end. Assumes nothing.
use Rattle.std.specs.Prelude.{◌≡◌, List, [], ◌∷◌, ◌++◌, map, ℕ, zero, suc, ◌+◌, ◌≤◌, ◌<◌, length, get_or, set, drop}
use Rattle.refusal.specs.Bounds.{max_dimension}
use Rattle.takahashi.specs.Recurrence.{Arithmetic, Entry, at}

-- ---- a list of descendants, by position
module _ {W : Type 0} (none : W) where
  -- past the end
  abbrev pub blank : Entry W
  blank = record { row = 0; value = none }

  -- the row at a position
  abbrev pub row_at : List (Entry W) → ℕ → ℕ
  row_at es p = (get_or es p blank).row

  -- the value at a position
  abbrev pub entry_value : List (Entry W) → ℕ → W
  entry_value es p = (get_or es p blank).value

  -- ---- marker, weights and sums of a column
  -- the marker after the first p descendants: each one's position at its row
  unfoldable pub marks : List (Entry W) → List ℕ → ℕ → List ℕ
  marks es marker zero = marker
  marks es marker (suc p) = set (marks es marker p) (row_at es p) p

  -- the weights after them: each one's value at its position
  unfoldable pub weigh : List (Entry W) → List W → ℕ → List W
  weigh es weights zero = weights
  weigh es weights (suc p) = set (weigh es weights p) p (entry_value es p)

  -- the marker names the positions of the rows of es, and no others
  pub record RowsMarked (es : List (Entry W)) (marker : List ℕ) : Type 0 where
    pub marked : (p : ℕ) → p < length es → get_or marker (row_at es p) 0 ≡ p
    pub only : (i : ℕ) → i < max_dimension → get_or marker i 0 < max_dimension → (get_or marker i 0 < length es) × (row_at es (get_or marker i 0) ≡ i)

-- the first p of the sums set to x
unfoldable pub clear : {W : Type 0} → W → List W → ℕ → List W
clear x sums zero = sums
clear x sums (suc p) = set (clear x sums p) p x

-- the marker with the rows of p places from a on emptied
unfoldable pub unmarks : List ℕ → ℕ → List ℕ → ℕ → List ℕ
unmarks rows a marker zero = marker
unmarks rows a marker (suc p) = set (unmarks rows a marker p) (get_or rows (a + p) 0) max_dimension

-- ---- the sums
-- the first t terms of row i's sum, ascending: weights by position, the descendants' rows from b on, values of the table Z
unfoldable pub terms : (A : Arithmetic) → A.Carrier → (ℕ → ℕ → A.Carrier) → List ℕ → ℕ → List A.Carrier → ℕ → ℕ → A.Carrier
terms A none Z rows b weights i zero = A.zero
terms A none Z rows b weights i (suc t) =
    A.plus (terms A none Z rows b weights i t) (A.times (get_or weights t none) (at Z i (get_or rows (b + t) 0)))

module _ (A : Arithmetic) (none : A.Carrier) (Z : ℕ → ℕ → A.Carrier) (rows : List ℕ) (b m : ℕ) (weights : List A.Carrier) where
  -- the first t terms of the sum at position p
  abbrev pub terms_at : ℕ → ℕ → A.Carrier
  terms_at p t = terms A none Z rows b weights (get_or rows (b + p) 0) t

  -- between two columns: the sums before position c are whole, the others have their first c terms
  pub record Between (c : ℕ) (sums : List A.Carrier) : Type 0 where
    pub long : length sums ≡ max_dimension
    pub done : (p : ℕ) → p < c → get_or sums p none ≡ terms_at p m
    pub rest : (p : ℕ) → c ≤ p → p < m → get_or sums p none ≡ terms_at p c

-- ---- the column step
module _ (A : Arithmetic) (off on : A.Carrier → A.Carrier → A.Carrier) (none : A.Carrier) where
  -- the column's part after its first p places below the diagonal
  unfoldable pub steps : A.Carrier → List A.Carrier → List A.Carrier → ℕ → List A.Carrier
  steps d sums part zero = part
  steps d sums part (suc p) = set (steps d sums part p) (suc p) (off d (get_or sums p none))

  -- the diagonal's sum after them
  unfoldable pub step_sum : A.Carrier → List A.Carrier → List A.Carrier → ℕ → A.Carrier
  step_sum d weights sums zero = A.zero
  step_sum d weights sums (suc p) = A.plus (step_sum d weights sums p) (A.times (get_or weights p none) (off d (get_or sums p none)))

  -- the whole part, the diagonal last
  unfoldable pub stepped : A.Carrier → List A.Carrier → List A.Carrier → List A.Carrier → ℕ → List A.Carrier
  stepped d weights sums part m = set (steps d sums part m) 0 (on d (step_sum d weights sums m))

-- ---- what the route runs on
module _ {W : Type 0} (none : W) where
  -- rows ascend below each column's own and stay below n; of two descendants of a column the later is one of the earlier's
  pub record ClosedPattern (n : ℕ) (desc : ℕ → List (Entry W)) : Type 0 where
    pub small : n ≤ max_dimension
    pub under : (j p : ℕ) → j < n → p < length (desc j) → j < row_at none (desc j) p
    pub fits : (j p : ℕ) → j < n → p < length (desc j) → row_at none (desc j) p < n
    pub up : (j p u : ℕ) → j < n → p < u → u < length (desc j) → row_at none (desc j) p < row_at none (desc j) u
    pub closed : (j p u : ℕ) → j < n → p < u → u < length (desc j)
        → (q : ℕ) × (q < length (desc (row_at none (desc j) p))) × (row_at none (desc (row_at none (desc j) p)) q ≡ row_at none (desc j) u)

  -- the result's starts and rows: column by column the diagonal, then the descendants
  pub record Laid (n : ℕ) (desc : ℕ → List (Entry W)) (starts rows : List ℕ) : Type 0 where
    pub count : n < length starts
    pub start : get_or starts 0 0 ≡ 0
    pub next : (c : ℕ) → c < n → get_or starts (c + 1) 0 ≡ get_or starts c 0 + suc (length (desc c))
    pub room : get_or starts n 0 ≤ length rows
    pub own : (c : ℕ) → c < n → get_or rows (get_or starts c 0) 0 ≡ c
    pub below : (c p : ℕ) → c < n → p < length (desc c) → get_or rows (get_or starts c 0 + 1 + p) 0 ≡ row_at none (desc c) p

  -- the values of the columns from j on are the table's
  pub record Known (n : ℕ) (desc : ℕ → List (Entry W)) (starts rows : List ℕ) (Z : ℕ → ℕ → W) (j : ℕ) (values : List W) : Type 0 where
    pub value : (c x : ℕ) → j ≤ c → c < n → x < suc (length (desc c))
        → get_or values (get_or starts c 0 + x) none ≡ Z (get_or rows (get_or starts c 0 + x) 0) c

  -- and the rest is as it was
  pub record Filled (n : ℕ) (desc : ℕ → List (Entry W)) (starts rows : List ℕ) (Z : ℕ → ℕ → W) (old : List W) (j : ℕ) (values : List W) : Type 0 where
    pub long : length values ≡ length old
    pub known : Known n desc starts rows Z j values
    pub after : drop (get_or starts n 0) values ≡ drop (get_or starts n 0) old

-- the column c of a table, read at the pattern
abbrev pub column_values : {W : Type 0} → (ℕ → ℕ → W) → (ℕ → List (Entry W)) → ℕ → List W
column_values {W} Z desc c = Z c c ∷ map (λ (e : Entry W). Z e.row c) (desc c)

-- the first k columns
unfoldable pub columns_values : {W : Type 0} → (ℕ → ℕ → W) → (ℕ → List (Entry W)) → ℕ → List W
columns_values Z desc zero = []
columns_values Z desc (suc k) = columns_values Z desc k ++ column_values Z desc k
