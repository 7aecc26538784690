-- Laws of specs/Examples.antt.
use Rattle.std.specs.Prelude.{◌≡◌, refl, true, false, List, [], ◌∷◌, map, ℕ, zero, suc, ◌<◌, ℤ, pos, negsuc, neg_ℤ, ◌-ℤ◌, ◌*ℤ◌, Float}
use Rattle.std.proofs.Common.{sym, subst, lt_irrefl, arith, lit≤, lit<}
use Rattle.std.proofs.Math.IntN.{zero-*ℤ}
use Rattle.std.specs.Float.{fin, binary64}
use Rattle.std.specs.Float.Ieee.{add, sub, mul, div, neg, to_bits}
use Rattle.integers.proofs.Integer.{pos_nonzero}
use Rattle.integers.specs.Matrix.{Matrix, identity, transpose, product}
use Rattle.integers.specs.Inverse.{Inverse, WholeInverse, numerators, denominator}
use Rattle.takahashi.specs.Entries.{Ascend}
use Rattle.takahashi.specs.Recurrence.{Entry, Rows, dot, at, Lower, RecurrenceClosed, table, Solves}
use Rattle.takahashi.proofs.Recurrence.{lower_closed, table_solves}
use Rattle.exact.specs.Multiple.{Multiple, Whole, Small, one_float}
use Rattle.exact.specs.Exact.{integers, floats, float_off, float_on, Alike, Recurs, Products, RunningSums, Kept, Bounded}
use Rattle.exact.specs.Factor.{factor}
use Rattle.exact.specs.ExactCase.{ones, unit_table, WithinBound}
use Rattle.exact.proofs.ExactCase.{dyadic, multiples_ordered, whole_inverse, unit_recurs, unit_bounded, unit_ordered}
use Rattle.exact.specs.Examples.{one, two, f2_entries, f2_matrix, sixteenths-diag, sixteenths, sixteenths-z, sixteenths_matrix}

-- the entries of a table of two columns: by column, then by row
abbrev triangle₂ : {W : Type 0} → (ℕ → ℕ → W) → List W
triangle₂ Z = Z 0 0 ∷ Z 1 0 ∷ Z 1 1 ∷ []

-- of three columns
abbrev triangle₃ : {W : Type 0} → (ℕ → ℕ → W) → List W
triangle₃ Z = Z 0 0 ∷ Z 1 0 ∷ Z 2 0 ∷ Z 1 1 ∷ Z 2 1 ∷ Z 2 2 ∷ []

-- f64's table for a diagonal of 1.0
abbrev float_table_lem : ℕ → (ℕ → List (Entry Float)) → ℕ → ℕ → Float
float_table_lem n desc = table floats float_off float_on n (λ j. one_float) desc

-- the same in floats
abbrev f2-floats : ℕ → List (Entry Float)
f2-floats zero = one 1 (fin false 1 (pos 1))
f2-floats (suc j) = []

f2_table : triangle₂ (float_table_lem 2 f2-floats) ≡ fin false 5 (pos 0) ∷ fin true 1 (pos 1) ∷ fin false 1 (pos 0) ∷ []
unfolding add sub mul div neg
f2_table = refl

f2_exact : triangle₂ (unit_table 2 f2_entries) ≡ pos 5 ∷ negsuc 1 ∷ pos 1 ∷ []
f2_exact = refl

f2-numerators : triangle₂ (numerators 2 (pos 1) (factor ones f2_entries)) ≡ pos 5 ∷ negsuc 1 ∷ pos 1 ∷ []
f2-numerators = refl

-- ---- F3
-- starts 0 3 4 5, rows 0 1 2 1 2, values 1 2 3 1 1
abbrev F3 : ℕ → List (Entry ℤ)
F3 zero = two 1 (pos 2) 2 (pos 3)
F3 (suc j) = []

-- the same in floats
abbrev f3-floats : ℕ → List (Entry Float)
f3-floats zero = two 1 (fin false 1 (pos 1)) 2 (fin false 3 (pos 0))
f3-floats (suc j) = []

-- (2, 1), at which F3 has no entry, is -0.0
f3_table : triangle₃ (float_table_lem 3 f3-floats)
    ≡ fin false 7 (pos 1) ∷ fin true 1 (pos 1) ∷ fin true 3 (pos 0) ∷ fin false 1 (pos 0) ∷ fin true 0 (pos 0) ∷ fin false 1 (pos 0) ∷ []
unfolding add sub mul div neg
f3_table = refl

f3-bits : map (to_bits binary64) (triangle₃ (float_table_lem 3 f3-floats))
    ≡ 0x402c000000000000 ∷ 0xc000000000000000 ∷ 0xc008000000000000 ∷ 0x3ff0000000000000 ∷ 0x8000000000000000 ∷ 0x3ff0000000000000 ∷ []
unfolding add sub mul div neg to_bits
f3-bits = refl

f3_exact : triangle₃ (unit_table 3 F3) ≡ pos 14 ∷ negsuc 1 ∷ negsuc 2 ∷ pos 1 ∷ pos 0 ∷ pos 1 ∷ []
f3_exact = refl

f3-numerators : triangle₃ (numerators 3 (pos 1) (factor ones F3)) ≡ pos 14 ∷ negsuc 1 ∷ negsuc 2 ∷ pos 1 ∷ pos 0 ∷ pos 1 ∷ []
f3-numerators = refl

-- ---- a fact of two columns, and of the pairs of two columns, case by case
pub columns₂ : (G : ℕ → Type 0) → G 0 → G 1 → (j : ℕ) → j < 2 → G j
columns₂ G a b zero h = a
columns₂ G a b (suc zero) h = b
columns₂ G a b (suc (suc j)) h = absurd (omega arith)

pub pairs₂ : (G : ℕ → ℕ → Type 0) → G 0 0 → G 1 0 → G 1 1 → (i j : ℕ) → Lower 2 i j → G i j
pairs₂ G a b c zero zero p = a
pairs₂ G a b c zero (suc j) p = absurd (omega arith)
pairs₂ G a b c (suc zero) zero p = b
pairs₂ G a b c (suc zero) (suc zero) p = c
pairs₂ G a b c (suc zero) (suc (suc j)) p = absurd (omega arith)
pairs₂ G a b c (suc (suc i)) j p = absurd (omega arith)

-- ---- `dyadic` at F2, s = 0, over all its pairs
pub f2_closed : RecurrenceClosed 2 f2_entries (Lower 2)
f2_closed = lower_closed 2 f2_entries (columns₂ (λ j. Rows 2 j (f2_entries j)) (lit< tt, lit< tt, tt) tt)

pub f2_within : WithinBound 2 f2_entries (Lower 2)
f2_within = record {
  entry = pairs₂ (λ i j. Small (z i j)) (lit≤ tt) (lit≤ tt) (lit≤ tt);
  product_below = pairs₂ (λ i j. j < i → Products Small (λ k. at z i k) (f2_entries j)) (λ h. (lit≤ tt, tt)) (λ h. (lit≤ tt, tt)) (λ h. tt);
  sum_below = pairs₂ (λ i j. j < i → RunningSums Small (λ k. at z i k) (pos 0) (f2_entries j)) (λ h. (lit≤ tt, tt)) (λ h. (lit≤ tt, tt)) (λ h. tt);
  product_diagonal = λ j p. columns₂ (λ j. Products Small (λ k. z k j) (f2_entries j)) (lit≤ tt, tt) tt j p.1;
  sum_diagonal = λ j p. columns₂ (λ j. RunningSums Small (λ k. z k j) (pos 0) (f2_entries j)) (lit≤ tt, tt) tt j p.1;
}
  where
    z : Matrix
    z = unit_table 2 f2_entries

abbrev Inverts : ℕ → ℕ → Type 0
Inverts i j = product 2 (product 2 (factor ones f2_entries) (transpose (factor ones f2_entries))) f2_matrix i j ≡ identity i j

pub f2-inverse : WholeInverse 2 (factor ones f2_entries) f2_matrix
f2-inverse i j h l = columns₂ (λ i. (j : ℕ) → j < 2 → Inverts i j) (columns₂ (Inverts 0) refl refl) (columns₂ (Inverts 1) refl refl) i h j l

abbrev f2-ascend : (j : ℕ) → j < 2 → Ascend 2 (suc j) (f2_entries j)
f2-ascend = columns₂ (λ j. Ascend 2 (suc j) (f2_entries j)) (lit≤ tt, lit< tt, tt) tt

f2_case : (i j : ℕ) → Lower 2 i j
    → Whole (float_table_lem 2 f2-floats i j) (unit_table 2 f2_entries i j) × (unit_table 2 f2_entries i j *ℤ pos 1 ≡ pos 1 *ℤ f2_matrix i j)
f2_case =
    dyadic 0 2 ones f2_entries (λ j h. pos_nonzero 1 (lit< tt)) f2-ascend (lit≤ tt) (Lower 2) f2_closed (unit_table 2 f2_entries)
    (unit_recurs 2 f2_entries f2-ascend (Lower 2) f2_closed) (unit_bounded 2 f2_entries (Lower 2) f2_within)
    (λ j. one_float) f2-floats (λ j h. refl) (columns₂ (λ j. Alike 0 (f2-floats j) (f2_entries j)) (refl, refl, tt) tt) (float_table_lem 2 f2-floats)
    (table_solves floats float_off float_on 2 (λ j. one_float) f2-floats (columns₂ (λ j. Rows 2 j (f2-floats j)) (lit< tt, lit< tt, tt) tt))
    f2_matrix 1 (whole_inverse 2 (factor ones f2_entries) f2_matrix f2-inverse)

-- its diagonal in floats
abbrev sixteenths_float_diag : ℕ → Float
sixteenths_float_diag zero = fin false 1 (pos 1)
sixteenths_float_diag (suc j) = fin false 1 (pos 2)

-- its entry in floats
abbrev sixteenths-floats : ℕ → List (Entry Float)
sixteenths-floats zero = one 1 (fin false 3 (pos 1))
sixteenths-floats (suc j) = []

-- f64's table
abbrev sixteenths_float_table : ℕ → ℕ → Float
sixteenths_float_table = table floats float_off float_on 2 sixteenths_float_diag sixteenths-floats

sixteenths_table : triangle₂ sixteenths_float_table ≡ fin false 13 (negsuc 3) ∷ fin true 3 (negsuc 3) ∷ fin false 1 (negsuc 3) ∷ []
unfolding add sub mul div neg
sixteenths_table = refl

pub sixteenths_recurs : Recurs (pos 16) sixteenths-diag sixteenths (Lower 2) sixteenths-z
sixteenths_recurs = record {
  below_is =
      pairs₂ (λ i j. j < i → sixteenths-z i j *ℤ sixteenths-diag j ≡ neg_ℤ (dot integers (λ k. at sixteenths-z i k) (sixteenths j)))
      (λ h. absurd (lt_irrefl 0 h)) (λ h. refl) (λ h. absurd (lt_irrefl 1 h));
  diagonal_is = λ j p.
      columns₂
      (λ j. sixteenths-z j j *ℤ (sixteenths-diag j *ℤ sixteenths-diag j) ≡ pos 4096 -ℤ dot integers (λ k. sixteenths-z k j) (sixteenths j) *ℤ sixteenths-diag j)
      refl refl j p.1;
}

-- the products and sums 6 / 16 and -18 / 16; d * d is 4 and 16, 1 / (d * d) is 4 / 16 and 1 / 16, and S / d is -9 / 16 and 0
pub sixteenths_bounded : Bounded 4 sixteenths-diag sixteenths (Lower 2) sixteenths-z
sixteenths_bounded = record {
  entry = pairs₂ (λ i j. Small (sixteenths-z i j)) (lit≤ tt) (lit≤ tt) (lit≤ tt);
  product_below =
      pairs₂ (λ i j. j < i → Products (Kept 4) (λ k. at sixteenths-z i k) (sixteenths j))
      (λ h. absurd (lt_irrefl 0 h)) (λ h. ((pos 6, refl, lit≤ tt), tt)) (λ h. tt);
  sum_below =
      pairs₂ (λ i j. j < i → RunningSums (Kept 4) (λ k. at sixteenths-z i k) (pos 0) (sixteenths j))
      (λ h. absurd (lt_irrefl 0 h)) (λ h. ((pos 6, refl, lit≤ tt), tt)) (λ h. tt);
  product_diagonal = λ j p. columns₂ (λ j. Products (Kept 4) (λ k. sixteenths-z k j) (sixteenths j)) ((negsuc 17, refl, lit≤ tt), tt) tt j p.1;
  sum_diagonal = λ j p. columns₂ (λ j. RunningSums (Kept 4) (λ k. sixteenths-z k j) (pos 0) (sixteenths j)) ((negsuc 17, refl, lit≤ tt), tt) tt j p.1;
  square = λ j p. columns₂ (λ j. Kept 4 (sixteenths-diag j *ℤ sixteenths-diag j)) (pos 64, refl, lit≤ tt) (pos 256, refl, lit≤ tt) j p.1;
  reciprocal = λ j p.
      columns₂ (λ j. (r : ℤ) × (r *ℤ (sixteenths-diag j *ℤ sixteenths-diag j) ≡ pos 4096) × Small r) (pos 4, refl, lit≤ tt) (pos 1, refl, lit≤ tt) j p.1;
  quotient = λ j p.
      columns₂ (λ j. (t : ℤ) × (t *ℤ sixteenths-diag j ≡ dot integers (λ k. sixteenths-z k j) (sixteenths j)) × Small t)
      (negsuc 8, refl, lit≤ tt) (pos 0, refl, lit≤ tt) j p.1;
}

sixteenths-nonzero : (j : ℕ) → j < 2 → sixteenths-diag j ≡ pos 0 → ⊥
sixteenths-nonzero = columns₂ (λ j. sixteenths-diag j ≡ pos 0 → ⊥) (pos_nonzero 32 (lit< tt)) (pos_nonzero 64 (lit< tt))

sixteenths-ascend : (j : ℕ) → j < 2 → Ascend 2 (suc j) (sixteenths j)
sixteenths-ascend = columns₂ (λ j. Ascend 2 (suc j) (sixteenths j)) (lit≤ tt, lit< tt, tt) tt

sixteenths_case : (P : Matrix) (Q : ℕ) → Inverse 2 (pos 16) (factor sixteenths-diag sixteenths) P Q → (i j : ℕ) → Lower 2 i j
    → Multiple 4 (sixteenths_float_table i j) (sixteenths-z i j) × (sixteenths-z i j *ℤ pos Q ≡ pos 16 *ℤ P i j)
sixteenths_case =
    dyadic 4 2 sixteenths-diag sixteenths sixteenths-nonzero sixteenths-ascend (lit≤ tt) (Lower 2)
    (lower_closed 2 sixteenths (columns₂ (λ j. Rows 2 j (sixteenths j)) (lit< tt, lit< tt, tt) tt)) sixteenths-z sixteenths_recurs sixteenths_bounded
    sixteenths_float_diag sixteenths-floats (columns₂ (λ j. Multiple 4 (sixteenths_float_diag j) (sixteenths-diag j)) refl refl)
    (columns₂ (λ j. Alike 4 (sixteenths-floats j) (sixteenths j)) (refl, refl, tt) tt) sixteenths_float_table
    (table_solves floats float_off float_on 2 sixteenths_float_diag sixteenths-floats (columns₂ (λ j. Rows 2 j (sixteenths-floats j)) (lit< tt, lit< tt, tt) tt))

abbrev SixteenthsInverts : ℕ → ℕ → Type 0
SixteenthsInverts i j =
    product 2 (product 2 (factor sixteenths-diag sixteenths) (transpose (factor sixteenths-diag sixteenths))) sixteenths_matrix i j ≡ pos 4096 *ℤ identity i j

pub sixteenths-inverse : Inverse 2 (pos 16) (factor sixteenths-diag sixteenths) sixteenths_matrix 16
sixteenths-inverse = record {
  positive = lit< tt;
  product_is = λ i j h l.
      columns₂ (λ i. (j : ℕ) → j < 2 → SixteenthsInverts i j) (columns₂ (SixteenthsInverts 0) refl refl) (columns₂ (SixteenthsInverts 1) refl refl) i h j l;
}

-- the one that `has_inverse` gives: the same fractions over 4194304
sixteenths-numerators : triangle₂ (numerators 2 (pos 16) (factor sixteenths-diag sixteenths)) ≡ pos 3407872 ∷ negsuc 786431 ∷ pos 262144 ∷ []
sixteenths-numerators = refl

sixteenths-denominator : denominator 2 (factor sixteenths-diag sixteenths) ≡ 4194304
sixteenths-denominator = refl

-- `multiples_ordered`: an inverse's entry at (0, 1) is that at (1, 0)
sixteenths_ordered : (P : Matrix) (Q : ℕ) → Inverse 2 (pos 16) (factor sixteenths-diag sixteenths) P Q → P 1 0 ≡ P 0 1
sixteenths_ordered P Q is = multiples_ordered 4 2 sixteenths-diag sixteenths sixteenths-nonzero sixteenths-ascend P Q is 0 1 (lit< tt)

-- ---- outside the set: the factor with the rows 3 0 and 0 1, over the pair (1, 1) alone
-- its diagonal
abbrev corner-diag : ℕ → ℤ
corner-diag zero = pos 3
corner-diag (suc j) = pos 1

-- it has no entry below the diagonal
abbrev nothing : {W : Type 0} → ℕ → List (Entry W)
nothing j = []

-- the set
abbrev Corner : ℕ → ℕ → Type 0
Corner i j = (i ≡ 1) × (j ≡ 1)

corner_closed : RecurrenceClosed {W = ℤ} 2 nothing Corner
corner_closed = record { inside = λ i j p. omega arith; rows = λ i j p. tt; below = λ i j p ji. tt; diagonal = λ j p. tt }

at_corner : (G : ℕ → Type 0) → G 1 → (j : ℕ) → Corner j j → G j
at_corner G g j p = subst G (sym p.0) g

corner_case : (fdiag : ℕ → Float) → ((j : ℕ) → j < 2 → Whole (fdiag j) (corner-diag j))
    → (Z : ℕ → ℕ → Float) → Solves floats float_off float_on fdiag nothing Corner Z
    → (P : Matrix) (Q : ℕ) → Inverse 2 (pos 1) (factor corner-diag nothing) P Q
    → (i j : ℕ) → Corner i j → Whole (Z i j) (pos 1) × (pos 1 *ℤ pos Q ≡ pos 1 *ℤ P i j)
corner_case fdiag diagonal =
    dyadic 0 2 corner-diag nothing (columns₂ (λ j. corner-diag j ≡ pos 0 → ⊥) (pos_nonzero 3 (lit< tt)) (pos_nonzero 1 (lit< tt)))
    (λ j h. tt) (lit≤ tt) Corner corner_closed (λ i j. pos 1)
    (record {
      below_is = λ i j p ji. absurd (omega arith);
      diagonal_is = at_corner (λ j. pos 1 *ℤ (corner-diag j *ℤ corner-diag j) ≡ pos 1 -ℤ pos 0 *ℤ corner-diag j) refl;
    })
    (record {
      entry = λ i j p. lit≤ tt;
      product_below = λ i j p ji. tt;
      sum_below = λ i j p ji. tt;
      product_diagonal = λ j p. tt;
      sum_diagonal = λ j p. tt;
      square = at_corner (λ j. Kept 0 (corner-diag j *ℤ corner-diag j)) (pos 1, refl, lit≤ tt);
      reciprocal = at_corner (λ j. (r : ℤ) × (r *ℤ (corner-diag j *ℤ corner-diag j) ≡ pos 1) × Small r) (pos 1, refl, lit≤ tt);
      quotient = λ j p. (pos 0, zero-*ℤ (corner-diag j), lit≤ tt);
    })
    fdiag nothing diagonal (λ j h. tt)

-- the inverse's entry at (0, 0), which is not computed, is 1 / 9
corner-outside : numerators 2 (pos 1) (factor corner-diag nothing) 0 0 *ℤ pos 9 ≡ pos (denominator 2 (factor corner-diag nothing))
corner-outside = refl

-- the inverse of F2 at (0, 1) is its entry at (1, 0)
f2_ordered : (X : Matrix) → WholeInverse 2 (factor ones f2_entries) X → X 1 0 ≡ X 0 1
f2_ordered X is = unit_ordered 2 f2_entries f2-ascend X is 0 1 (lit< tt)
