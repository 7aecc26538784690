-- The value of two rows: from zero, for each a of the first row and for each b of the second, (w(a)·v(b))·Z(a, b) is added.
-- Over any arithmetic; in f64 each product and each sum is rounded once, in this order. Assumes nothing.
use Prim.Native.Nat.{ℕ, zero, suc, ◌+◌, ◌-◌}
use Rattle.takahashi.specs.Recurrence.{Arithmetic, at}

-- k and l give the columns of the places of the two operators, w and v their weights; Z is a table of the lower triangle
module _ (A : Arithmetic) (k l : ℕ → ℕ) (w v : ℕ → A.Carrier) (Z : ℕ → ℕ → A.Carrier) where
  -- (w(a)·v(b))·Z(a, b)
  abbrev pub term : ℕ → ℕ → A.Carrier
  term a b = A.times (A.times (w a) (v b)) (at Z (k a) (l b))

  -- a sum, and then the terms of a with m places from t on
  unfoldable pub add_terms : ℕ → ℕ → A.Carrier → ℕ → A.Carrier
  add_terms t a sum zero = sum
  add_terms t a sum (suc m) = A.plus (add_terms t a sum m) (term a (t + m))

  -- the same with the places from t to below f
  abbrev pub with_terms : ℕ → ℕ → ℕ → A.Carrier → A.Carrier
  with_terms t f a sum = add_terms t a sum (f - t)

  -- from zero, those of m places from s on, each with all from t to below f
  unfoldable pub add_places : ℕ → ℕ → ℕ → ℕ → A.Carrier
  add_places s t f zero = A.zero
  add_places s t f (suc m) = with_terms t f (s + m) (add_places s t f m)

  -- the same of the places from s to below a
  abbrev pub sum_before : ℕ → ℕ → ℕ → ℕ → A.Carrier
  sum_before s t f a = add_places s t f (a - s)

  -- the value of the row with the places from s to below e and that with those from t to below f
  abbrev pub cross_value : ℕ → ℕ → ℕ → ℕ → A.Carrier
  cross_value s e t f = sum_before s t f e
