-- Laws of specs/ColumnOrder.antt.
use Prim.Native.Nat.{ℕ, zero, suc, ◌+◌, ◌-◌, ◌*◌, ◌/◌, ◌≤◌, ◌<◌}
use Rattle.std.proofs.Common.{arith, sym, ap, subst, ◌∙◌, ⊎_elim}
use native.Mathlib.Nat.{eq-or-lt_of_le, mul-suc, suc-mul, zero-mul, mul-sub, mul-add, mul-le-mul}
use Rattle.std.proofs.Math.Numerals.{add-one}
use Rattle.std.proofs.Math.Decide.{dec_le}
use Rattle.std.specs.Prelude.{◌≡◌, Bool, true, false, length}
use Rattle.std.proofs.Math.Path.{refl}
use Rattle.lists.specs.Sum.{bit, bit_most, sum_to, sum_to_add, sum_to_eq, sum_to_le, sum_to_most}
use Rattle.lists.specs.Select.{tally_sum}
use Rattle.lists.specs.Cells.{cells, cell_count, cells-length, cell_count_cong}
use Rattle.pairs.specs.Pair.{pair_total}
use Rattle.pairs.proofs.Pair.{pair_total-half}
use Rattle.pairs.specs.ColumnOrder.{col_start, column_place, by_column, column_first, column_end, set_size}

-- ---- where columns start

module _ (n : ℕ) where
  pub col_start_none : col_start n 0 ≡ 0
  unfolding col_start
  col_start_none = refl

  pub col_start_next : (c : ℕ) → col_start n (c + 1) ≡ col_start n c + (n - c)
  unfolding col_start
  col_start_next c = rw add-one

  pub col_start_mono : (c e : ℕ) → c ≤ e → col_start n c ≤ col_start n e
  col_start_mono c e h =
      let q : c + (e - c) ≡ e = omega arith in
      subst (λ (k : ℕ). col_start n c ≤ col_start n k) q (up (e - c))
    where
      up : (m : ℕ) → col_start n c ≤ col_start n (c + m)
      up zero = rw native.Mathlib.Nat.add-zero (omega arith)
      up (suc m) =
          let q : c + m + 1 ≡ c + suc m = omega arith in
          omega (arith, up m, col_start_next (c + m), ap (col_start n) q)

  -- twice a column's start, with no subtraction
  col_start_closed : (c : ℕ) → c ≤ n → 2 * col_start n c + c * c ≡ c * (2 * n + 1)
  unfolding col_start
  col_start_closed zero h = omega (arith, zero-mul (2 * n + 1))
  col_start_closed (suc c) h = simp (suc-mul, mul-suc) (omega (arith, col_start_closed c (omega arith)))

  -- as the code computes it
  pub col_start-half : (c : ℕ) → c ≤ n → c * (2 * n + 1 - c) / 2 ≡ col_start n c
  col_start-half c h = omega (arith, col_start_closed c h, mul-sub c (2 * n + 1) c)

  -- past the last column are all pairs
  pub col_start_total : col_start n n ≡ pair_total n
  col_start_total =
      let q : 2 * n + 1 ≡ n + (n + 1) = omega arith in
      omega (arith, pair_total-half n, col_start_closed n (omega arith), ap (λ (k : ℕ). n * k) q, mul-add n n (n + 1))

-- a column starts at its number or later
pub col_start_least : (n c : ℕ) → c ≤ n → c ≤ col_start n c
unfolding col_start
col_start_least n zero h = omega arith
col_start_least n (suc c) h = omega (arith, col_start_least n c (omega arith))

-- what the code computes fits
pub col_start-product : (n c b : ℕ) → n ≤ b → c ≤ n → c * (2 * n + 1 - c) ≤ b * (2 * b + 1)
col_start-product n c b h l = mul-le-mul (omega arith) (omega arith)

-- ---- places

module _ (n r c : ℕ) (h : c ≤ r) (l : r < n) where
  pub column_place_column : column_place n r c < col_start n (c + 1)
  column_place_column = omega (arith, col_start_next n c)

  pub column_place_below : column_place n r c < pair_total n
  column_place_below = omega (arith, column_place_column, col_start_mono n (c + 1) n (omega arith), col_start_total n)

column_before : (n r c r' c' : ℕ) → c ≤ r → r < n → c < c' → column_place n r c < column_place n r' c'
column_before n r c r' c' h l m = omega (arith, column_place_column n r c h l, col_start_mono n (c + 1) c' (omega arith))

-- a place is one pair's
pub column_place_same : (n r c r' c' : ℕ) → c ≤ r → r < n → c' ≤ r' → r' < n → column_place n r c ≡ column_place n r' c' → (r ≡ r') × (c ≡ c')
column_place_same n r c r' c' h l h' l' e = elim (dec_le c c') [
  | yes p ↦
      ⊎_elim (λ q. (omega (arith, ap (col_start n) q), q)) (λ q. absurd (omega (arith, column_before n r c r' c' h l q))) (eq-or-lt_of_le p)
  | no p ↦ absurd (omega (arith, column_before n r' c' r c h' l' (omega arith)))
]

-- ---- how many

-- a sum over the places is a sum column by column
sum_columns : (n : ℕ) (f : ℕ → ℕ) (m : ℕ) → sum_to f (col_start n m) ≡ sum_to (λ c. sum_to (λ i. f (col_start n c + i)) (n - c)) m
unfolding sum_to col_start
sum_columns n f zero = refl
sum_columns n f (suc m) =
    sum_to_add f (col_start n m) (n - m) ∙ ap (λ (k : ℕ). k + sum_to (λ i. f (col_start n m + i)) (n - m)) (sum_columns n f m)

size_sum : (n : ℕ) (S : ℕ → ℕ → Bool) → set_size n S ≡ sum_to (λ c. sum_to (λ i. bit (S (c + i) c)) (n - c)) n
unfolding cell_count
size_sum n S = sum_to_eq _ _ n (λ c l. tally_sum (by_column S c) c n)

-- so a sum of bits at the places is the number of pairs
pub set_size_sum : (n : ℕ) (S : ℕ → ℕ → Bool) (f : ℕ → ℕ) → ((r c : ℕ) → c ≤ r → r < n → f (column_place n r c) ≡ bit (S r c))
    → set_size n S ≡ sum_to f (pair_total n)
set_size_sum n S f h =
    size_sum n S
    ∙ sum_to_eq _ _ n
    (λ c l. sum_to_eq _ _ (n - c) (λ i m.
    let q : c + i - c ≡ i = omega arith in
    sym (h (c + i) c (omega arith) (omega arith)) ∙ ap (λ (k : ℕ). f (col_start n c + k)) q))
    ∙ sym (sum_columns n f n) ∙ ap (sum_to f) (col_start_total n)

-- sets that agree on the pairs have as many
pub set_size_cong : (n : ℕ) (S R : ℕ → ℕ → Bool) → ((r c : ℕ) → c ≤ r → r < n → S r c ≡ R r c) → set_size n S ≡ set_size n R
set_size_cong n S R h = cell_count_cong (by_column S) (by_column R) column_first (column_end n) n (λ c r l lo hi. h r c lo hi)

bit_le : (a b : Bool) → (a ≡ true → b ≡ true) → bit a ≤ bit b
bit_le true b h = rw (h refl) (omega arith)
bit_le false b h = omega arith

-- a part of a set has at most as many
pub set_size_le : (n : ℕ) (S R : ℕ → ℕ → Bool) → ((r c : ℕ) → c ≤ r → r < n → S r c ≡ true → R r c ≡ true) → set_size n S ≤ set_size n R
set_size_le n S R h =
    rw (size_sum n S, size_sum n R)
    (sum_to_le _ _ n (λ c l. sum_to_le _ _ (n - c) (λ i m. bit_le (S (c + i) c) (R (c + i) c) (h (c + i) c (omega arith) (omega arith)))))

-- the list of a set's pairs is as long
pub set_size-length : {A : Type 0} (n : ℕ) (S : ℕ → ℕ → Bool) (f : ℕ → ℕ → A) → length (cells (by_column S) column_first (column_end n) f n) ≡ set_size n S
set_size-length n S f = cells-length (by_column S) column_first (column_end n) f n

starts_sum : (n m : ℕ) → sum_to (λ c. n - c) m ≡ col_start n m
unfolding sum_to col_start
starts_sum n zero = refl
starts_sum n (suc m) = ap (λ (k : ℕ). k + (n - m)) (starts_sum n m)

-- there are at most T
pub set_size_most : (n : ℕ) (S : ℕ → ℕ → Bool) → set_size n S ≤ pair_total n
set_size_most n S =
    rw (size_sum n S, ← col_start_total n, ← starts_sum n n)
    (sum_to_le (λ c. sum_to (λ i. bit (S (c + i) c)) (n - c)) (λ c. n - c) n (λ c l. sum_to_most _ (n - c) (λ i m. bit_most (S (c + i) c))))
