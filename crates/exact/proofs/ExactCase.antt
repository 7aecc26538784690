-- Laws of specs/ExactCase.antt.
use Rattle.std.specs.Prelude.{◌≡◌, refl, ◌≢◌, List, [], ◌∷◌, ℕ, suc, ◌^◌, ◌≤◌, ◌<◌, max, min, ℤ, pos, ◌+ℤ◌, ◌-ℤ◌, ◌*ℤ◌, Float}
use Rattle.std.proofs.Common.{sym, ◌∙◌, ap, zero-lt-suc, le_refl, lit≤}
use Rattle.std.specs.Float.{binary64}
use Rattle.std.specs.Float.Ieee.{low}
use Rattle.integers.proofs.Integer.{*ℤ-idl, *ℤ-idr, pos_nonzero}
use Rattle.integers.specs.Matrix.{Matrix, identity}
use Rattle.integers.proofs.Matrix.{symmetric_ordered}
use Rattle.integers.specs.Inverse.{Inverse, WholeInverse, numerators, denominator}
use Rattle.integers.proofs.Inverse.{inverse_exists, unit_inverse_exists, inverse-symmetric}
use Rattle.takahashi.specs.Entries.{Ascend}
use Rattle.takahashi.proofs.Entries.{ascend_rows}
use Rattle.takahashi.specs.Recurrence.{Entry, run, dot, at, Lower, RecurrenceClosed, Solves}
use Rattle.takahashi.proofs.Recurrence.{table_solves, solves_part}
use Rattle.exact.specs.Multiple.{Multiple, Small}
use Rattle.exact.proofs.Rounding.{unit_nonzero}
use Rattle.exact.specs.Exact.{integers, floats, float_off, float_on, Alike, Recurs, Products, RunningSums, Kept, Bounded}
use Rattle.exact.proofs.Exact.{floats_exact}
use Rattle.exact.specs.Factor.{factor}
use Rattle.exact.proofs.Factor.{factor_diagonal_lem, factor_triangular}
use Rattle.exact.proofs.SelectedInverse.{recurs_inverse}
use Rattle.exact.specs.ExactCase.{ones, unit_off, unit_on, unit_table, WithinBound}

-- ---- multiples of 2 ^ -s: `diag` and `desc` are the multipliers of the factor's entries, so L = factor diag desc / 2 ^ s
module _ (s n : ℕ) (diag : ℕ → ℤ) (desc : ℕ → List (Entry ℤ)) (nonzero : (j : ℕ) → j < n → diag j ≢ pos 0)
    (ascend : (j : ℕ) → j < n → Ascend n (suc j) (desc j)) where
  -- L * Lᵀ has an inverse P / Q, in whole numbers over one common denominator
  pub has_inverse : (P : Matrix) × (Q : ℕ) × Inverse n (pos (2 ^ s)) (factor diag desc) P Q
  has_inverse = (
    numerators n (pos (2 ^ s)) (factor diag desc),
    denominator n (factor diag desc),
    inverse_exists n (pos (2 ^ s)) (factor diag desc) (factor_triangular n diag desc ascend nonzero),
  )

  module _ (P : Matrix) (Q : ℕ) (inv : Inverse n (pos (2 ^ s)) (factor diag desc) P Q) where
    -- P is symmetric
    pub multiples_symmetric : (i j : ℕ) → i < n → j < n → P i j ≡ P j i
    multiples_symmetric = inverse-symmetric n (pos (2 ^ s)) (unit_nonzero s) (factor diag desc) (factor_triangular n diag desc ascend nonzero) P Q inv

    -- so its indices may be put in order
    pub multiples_ordered : (row col : ℕ) → max row col < n → P (max row col) (min row col) ≡ P row col
    multiples_ordered = symmetric_ordered n P multiples_symmetric

  -- where the exact recurrence keeps to multiples of 2 ^ -s by at most 2 ^ 53 over the set, f64's entries are its own, z / 2 ^ s, and these are the inverse's
  pub dyadic : s ≤ low binary64 → (In : ℕ → ℕ → Type 0) → RecurrenceClosed n desc In → (z : Matrix) → Recurs (pos (2 ^ s)) diag desc In z → Bounded s diag desc In z
      → (fdiag : ℕ → Float) (fdesc : ℕ → List (Entry Float))
      → ((j : ℕ) → j < n → Multiple s (fdiag j) (diag j)) → ((j : ℕ) → j < n → Alike s (fdesc j) (desc j))
      → (Z : ℕ → ℕ → Float) → Solves floats float_off float_on fdiag fdesc In Z → (P : Matrix) (Q : ℕ) → Inverse n (pos (2 ^ s)) (factor diag desc) P Q
      → (i j : ℕ) → In i j → Multiple s (Z i j) (z i j) × (z i j *ℤ pos Q ≡ pos (2 ^ s) *ℤ P i j)
  dyadic sl In closed z rec bounded fdiag fdesc diagonal alike Z solves P Q inv i j p = (
    floats_exact s sl n diag desc In z nonzero closed rec bounded fdiag fdesc diagonal alike Z solves i j p,
    recurs_inverse n (pos (2 ^ s)) (unit_nonzero s) diag desc nonzero ascend P Q inv In closed z rec i j p,
  )

-- ---- whole numbers with ones on the diagonal: s = 0
-- an inverse in whole numbers is one over the denominator 1
pub whole_inverse : (n : ℕ) (l X : Matrix) → WholeInverse n l X → Inverse n (pos 1) l X 1
whole_inverse n l X is = record { positive = zero-lt-suc 0; product_is = λ a b ha hb. is a b ha hb ∙ sym (*ℤ-idl (identity a b)) }

products_map : (OK OK' : ℤ → Type 0) → ((x : ℤ) → OK x → OK' x) → (r : ℕ → ℤ) (es : List (Entry ℤ)) → Products OK r es → Products OK' r es
products_map OK OK' f r [] h = tt
products_map OK OK' f r (e ∷ es) h = (f (e.value *ℤ r e.row) h.0, products_map OK OK' f r es h.1)

sums_map : (OK OK' : ℤ → Type 0) → ((x : ℤ) → OK x → OK' x) → (r : ℕ → ℤ) (S : ℤ) (es : List (Entry ℤ)) → RunningSums OK r S es → RunningSums OK' r S es
sums_map OK OK' f r S [] h = tt
sums_map OK OK' f r S (e ∷ es) h = (f (S +ℤ e.value *ℤ r e.row) h.0, sums_map OK OK' f r (S +ℤ e.value *ℤ r e.row) es h.1)

sums_last : (OK : ℤ → Type 0) (r : ℕ → ℤ) (S : ℤ) (es : List (Entry ℤ)) → OK S → RunningSums OK r S es → OK (run integers r S es)
sums_last OK r S [] s h = s
sums_last OK r S (e ∷ es) s h = sums_last OK r (S +ℤ e.value *ℤ r e.row) es h.0 h.1

pub unit_bounded : (n : ℕ) (desc : ℕ → List (Entry ℤ)) (In : ℕ → ℕ → Type 0) → WithinBound n desc In → Bounded 0 ones desc In (unit_table n desc)
unit_bounded n desc In w = record {
  entry = w.entry;
  product_below = λ i j p ji. products_map Small (Kept 0) kept (λ k. at z i k) (desc j) (w.product_below i j p ji);
  sum_below = λ i j p ji. sums_map Small (Kept 0) kept (λ k. at z i k) (pos 0) (desc j) (w.sum_below i j p ji);
  product_diagonal = λ j p. products_map Small (Kept 0) kept (λ k. z k j) (desc j) (w.product_diagonal j p);
  sum_diagonal = λ j p. sums_map Small (Kept 0) kept (λ k. z k j) (pos 0) (desc j) (w.sum_diagonal j p);
  square = λ j p. (pos 1, refl, lit≤ tt);
  reciprocal = λ j p. (pos 1, refl, lit≤ tt);
  quotient = λ j p.
      let S = dot integers (λ k. z k j) (desc j) in
      (S, *ℤ-idr S, sums_last Small (λ k. z k j) (pos 0) (desc j) (lit≤ tt) (w.sum_diagonal j p));
}
  where
    z : Matrix
    z = unit_table n desc

    kept : (x : ℤ) → Small x → Kept 0 x
    kept x h = (x, *ℤ-idr x, h)

module _ (n : ℕ) (desc : ℕ → List (Entry ℤ)) (ascend : (j : ℕ) → j < n → Ascend n (suc j) (desc j)) where
  nonzero : (j : ℕ) → j < n → ones j ≢ pos 0
  nonzero j jn = pos_nonzero 1 (zero-lt-suc 0)

  -- the table solves the recurrence on every pair
  pub unit_solves : Solves integers unit_off unit_on ones desc (Lower n) (unit_table n desc)
  unit_solves = table_solves integers unit_off unit_on n ones desc (λ j jn. ascend_rows n j (suc j) (desc j) (le_refl (suc j)) (ascend j jn))

  pub unit_recurs : (In : ℕ → ℕ → Type 0) → RecurrenceClosed n desc In → Recurs (pos 1) ones desc In (unit_table n desc)
  unit_recurs In closed = record {
    below_is = λ i j p ji. *ℤ-idr (z i j) ∙ solves.below_is i j p ji;
    diagonal_is = λ j p. *ℤ-idr (z j j) ∙ solves.diagonal_is j p ∙ ap (λ (x : ℤ). pos 1 -ℤ x) (sym (*ℤ-idr (dot integers (λ k. z k j) (desc j))));
  }
    where
      z : Matrix
      z = unit_table n desc

      solves : Solves integers unit_off unit_on ones desc In z
      solves = solves_part integers unit_off unit_on ones desc In (Lower n) z closed.inside unit_solves

  -- L * Lᵀ has an inverse in whole numbers
  pub unit_has_inverse : (X : Matrix) × WholeInverse n (factor ones desc) X
  unit_has_inverse = (
    numerators n (pos 1) (factor ones desc),
    unit_inverse_exists n (factor ones desc) (factor_triangular n ones desc ascend nonzero) (λ j jn. factor_diagonal_lem n ones desc j),
  )

  module _ (X : Matrix) (is : WholeInverse n (factor ones desc) X) where
    inverse : Inverse n (pos 1) (factor ones desc) X 1
    inverse = whole_inverse n (factor ones desc) X is

    -- the exact recurrence's entries over a closed set are the inverse's, whatever their size
    pub unit_inverse : (In : ℕ → ℕ → Type 0) → RecurrenceClosed n desc In → (i j : ℕ) → In i j → unit_table n desc i j ≡ X i j
    unit_inverse In closed i j p =
        sym (*ℤ-idr (unit_table n desc i j))
        ∙ recurs_inverse n (pos 1) (pos_nonzero 1 (zero-lt-suc 0)) ones desc nonzero ascend X 1 inverse In closed (unit_table n desc) (unit_recurs In closed) i j p
        ∙ *ℤ-idl (X i j)

    -- the inverse is symmetric
    pub unit_symmetric : (i j : ℕ) → i < n → j < n → X i j ≡ X j i
    unit_symmetric = multiples_symmetric 0 n ones desc nonzero ascend X 1 inverse

    -- so its indices may be put in order
    pub unit_ordered : (row col : ℕ) → max row col < n → X (max row col) (min row col) ≡ X row col
    unit_ordered = multiples_ordered 0 n ones desc nonzero ascend X 1 inverse
