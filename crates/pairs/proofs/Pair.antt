-- Laws of specs/Pair.antt.
use Rattle.std.specs.Prelude.{ℕ, zero, suc, ◌+◌, ◌-◌, ◌*◌, ◌/◌, ◌≤◌, ◌<◌, min, max, ◌≡◌, refl, Bool, true, ◌&&◌, ◌⊎◌, eqb}
use Rattle.std.proofs.Common.{arith, add-one, sym, ap, ap₂, subst, ◌∙◌, ⊎_elim, eqb-true, eq-eqb}
use native.Mathlib.Nat.{eq-or-lt_of_le, mul-suc, suc-mul, mul-le-mul, zero-mul}
use Rattle.std.proofs.Math.Decide.{dec_le}
use Rattle.lists.specs.Test.{and_left, and_right, and_both}
use Rattle.lists.specs.Sum.{bit, sum_to, sum_to_add, sum_to_eq}
use Rattle.lists.specs.Select.{tally_sum}
use Rattle.refusal.specs.Bounds.{max_dimension}
use Rattle.lists.specs.Cells.{cell_count, cells_cong, cell_count_cong}
use Rattle.pairs.specs.Pair.{pair_total, row_place, ordered, row_start, row_end, pair_rows, pair_columns, pair_count, max_pairs}

-- ---- how many

double : ℕ → ℕ
double zero = 0
double (suc n) = double n + suc n

double_is : (n : ℕ) → 2 * double n ≡ n * (n + 1)
unfolding double
double_is zero = sym (zero-mul (0 + 1))
double_is (suc n) = simp (add-one, suc-mul, mul-suc) (omega (arith, simp (add-one, mul-suc) at (double_is n)))

total_double : (n : ℕ) → pair_total n ≡ double n
unfolding pair_total
total_double n = omega (arith, double_is n)

pub pair_total_none : pair_total 0 ≡ 0
unfolding pair_total
pair_total_none = refl

pub pair_total_next : (n : ℕ) → pair_total (n + 1) ≡ pair_total n + (n + 1)
unfolding double
pair_total_next n = rw (add-one, total_double, total_double)

pub pair_total_mono : (m n : ℕ) → m ≤ n → pair_total m ≤ pair_total n
pair_total_mono m n h = go (n - m) (omega arith)
  where
    go : (k : ℕ) → m + k ≡ n → pair_total m ≤ pair_total n
    go k e = subst (λ (j : ℕ). pair_total m ≤ pair_total j) e (up k)
      where
        up : (k : ℕ) → pair_total m ≤ pair_total (m + k)
        up zero = subst (λ (j : ℕ). pair_total m ≤ pair_total j) (sym (native.Mathlib.Nat.add-zero m)) (omega arith)
        up (suc k) =
            let q : m + k + 1 ≡ m + suc k = omega arith in
            omega (arith, up k, pair_total_next (m + k), ap pair_total q)

-- what the code computes fits
pub product_small : (n b : ℕ) → n ≤ b → n * (n + 1) ≤ b * (b + 1)
product_small n b h = mul-le-mul h (omega arith)

pub pair_total_small : (n : ℕ) → n ≤ max_dimension → pair_total n ≤ max_pairs
unfolding pair_total
pair_total_small n h = pair_total_mono n max_dimension h

pub pair_total-half : (n : ℕ) → n * (n + 1) / 2 ≡ pair_total n
unfolding pair_total
pair_total-half n = refl

-- ---- places

pub row_place_below : (r c n : ℕ) → c ≤ r → r < n → row_place r c < pair_total n
row_place_below r c n h l = omega (arith, pair_total_next r, pair_total_mono (r + 1) n (omega arith))

row_before : (r c r' c' : ℕ) → c ≤ r → r < r' → row_place r c < row_place r' c'
row_before r c r' c' h l = omega (arith, pair_total_next r, pair_total_mono (r + 1) r' (omega arith))

-- a place is one pair's
pub row_place_same : (r c r' c' : ℕ) → c ≤ r → c' ≤ r' → row_place r c ≡ row_place r' c' → (r ≡ r') × (c ≡ c')
row_place_same r c r' c' h h' e = elim (dec_le r r') [
  | yes p ↦ ⊎_elim (λ q. (q, omega (arith, ap pair_total q))) (λ q. absurd (omega (arith, row_before r c r' c' h q))) (eq-or-lt_of_le p)
  | no p ↦ absurd (omega (arith, row_before r' c' r c h' (omega arith)))
]

-- a sum over the places is a sum row by row
pub sum_rows : (f : ℕ → ℕ) (n : ℕ) → sum_to f (pair_total n) ≡ sum_to (λ r. sum_to (λ c. f (row_place r c)) (r + 1)) n
unfolding sum_to
sum_rows f zero = ap (sum_to f) pair_total_none
sum_rows f (suc n) =
    ap (sum_to f) (ap pair_total (sym (add-one n)) ∙ pair_total_next n) ∙ sum_to_add f (pair_total n) (n + 1)
    ∙ ap (λ (k : ℕ). k + sum_to (λ c. f (row_place n c)) (n + 1)) (sum_rows f n)

-- so a count of bits at the places is the number of pairs
pub pair_count_sum : (n : ℕ) (S : ℕ → ℕ → Bool) (f : ℕ → ℕ) → ((r c : ℕ) → c ≤ r → r < n → f (row_place r c) ≡ bit (S r c)) → pair_count n S ≡ sum_to f (pair_total n)
unfolding cell_count
pair_count_sum n S f h =
    sum_to_eq _ _ n
    (λ r l.
    let z : r + 1 - 0 ≡ r + 1 = omega arith in
    tally_sum (S r) 0 (r + 1) ∙ ap (sum_to (λ i. bit (S r (0 + i)))) z
    ∙ sum_to_eq _ _ (r + 1)
    (λ c m.
    let q : 0 + c ≡ c = omega arith in
    ap (λ (j : ℕ). bit (S r j)) q ∙ sym (h r c (omega arith) l)))
    ∙ sym (sum_rows f n)

-- sets that agree on the pairs have the same lists
module _ (n : ℕ) (S R : ℕ → ℕ → Bool) (h : (r c : ℕ) → c ≤ r → r < n → S r c ≡ R r c) where
  agree : (o i : ℕ) → o < n → 0 ≤ i → i < o + 1 → S o i ≡ R o i
  agree o i l _ m = h o i (omega arith) l

  pub pair_rows_cong : pair_rows n S ≡ pair_rows n R
  pair_rows_cong = cells_cong S R row_start row_end _ n agree

  pub pair_columns_cong : pair_columns n S ≡ pair_columns n R
  pair_columns_cong = cells_cong S R row_start row_end _ n agree

  pub pair_count_cong : pair_count n S ≡ pair_count n R
  pair_count_cong = cell_count_cong S R row_start row_end n agree

-- ---- put in order

pub ordered_is : (a b r c : ℕ) → ordered a b r c ≡ true → (r ≡ max a b) × (c ≡ min a b)
ordered_is a b r c e = (sym (eqb-true _ _ (and_left (eqb (max a b) r) _ e)), sym (eqb-true _ _ (and_right (eqb (max a b) r) (eqb (min a b) c) e)))

pub is_ordered : (a b r c : ℕ) → r ≡ max a b → c ≡ min a b → ordered a b r c ≡ true
is_ordered a b r c p q = and_both _ _ (eq-eqb _ _ (sym p)) (eq-eqb _ _ (sym q))

-- a pair the other way round
pub ordered_turned : (a b r c : ℕ) → ordered a b r c ≡ ordered b a r c
ordered_turned a b r c =
    let e₁ : max a b ≡ max b a = omega arith in
    let e₂ : min a b ≡ min b a = omega arith in
    ap₂ (λ (p q : ℕ). eqb p r && eqb q c) e₁ e₂
