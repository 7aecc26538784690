-- The bounds of a term: whole weights within the ranges attain its least value, others its greatest, and none pass them. Assumes nothing.
use Rattle.std.specs.Prelude.{ℕ, ◌≡◌, ℤ, ◌*ℤ◌}
use Rattle.weight_bounds.specs.Bounds.{InRange}

-- weights x and y within two ranges whose product is w
pub record Product (lo hi lo' hi' w : ℤ) : Type 0 where
  pub x : ℤ
  pub y : ℤ
  pub left : InRange lo x hi
  pub right : InRange lo' y hi'
  pub product_is : x *ℤ y ≡ w

-- one weight within a range whose square is w
pub record Square (lo hi w : ℤ) : Type 0 where
  pub x : ℤ
  pub within : InRange lo x hi
  pub square_is : x *ℤ x ≡ w

-- ---- terms
-- weights x of a and y of b, one number where a is b, whose term is t
pub record Term (lo hi : ℕ → ℤ) (Z : ℕ → ℕ → ℤ) (a b : ℕ) (t : ℤ) : Type 0 where
  pub x : ℤ
  pub y : ℤ
  pub left : InRange (lo a) x (hi a)
  pub right : InRange (lo b) y (hi b)
  pub one : a ≡ b → x ≡ y
  pub term_is : x *ℤ y *ℤ Z a b ≡ t
