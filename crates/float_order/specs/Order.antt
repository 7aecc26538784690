-- Laws of `<` on floats: NaN is below nothing and above nothing, and the two zeros are not below each other.
-- Assumes nothing.
use Rattle.std.specs.Prelude.{ℕ, ◌+◌, ◌*◌, ◌≤◌, ◌<◌, ◌≡◌, refl, Bool, true, false, Float}
use Rattle.std.proofs.Common.{arith, mul_right_comm, mul-lt-mul_of_pos_right, mul-le-mul_right, lt_of_mul-lt-mul_right, mul-pos, le_of_lt, eq-zero-or-pos, zero-mul, sym, ap, ◌∙◌, true≢false, ⊎_elim, ltb-true, lt-ltb, le-ltb}
use Rattle.std.specs.Float.{nan, inf, fin}
use Rattle.std.specs.Float.Ieee.{up, down, below, lt}
use Rattle.std.specs.Float.Ieee.Fits.{down_pos}

-- three fractions: x / p < y / q < z / r
through : (x y z p q r : ℕ) → 0 < r → x * q < y * p → y * r ≤ z * q → x * r < z * p
through x y z p q r R h k =
    lt_of_mul-lt-mul_right q
    (let a : x * q * r < y * p * r = mul-lt-mul_of_pos_right h R in
    let b : y * r * p ≤ z * q * p = mul-le-mul_right p k in
    omega (arith, a, b, mul_right_comm x r q, mul_right_comm y p r, mul_right_comm z q p))

left_positive : (a q : ℕ) → 0 < a * q → 0 < a
left_positive a q h = ⊎_elim (λ e. absurd (omega (arith, ap (λ (k : ℕ). k * q) e, zero-mul q))) (λ l. l) (eq-zero-or-pos a)

-- the same with signs
below_through : (s t u : Bool) (x y z p q r : ℕ) → 0 < p → 0 < r
    → below s (x * q) t (y * p) ≡ true → below t (y * r) u (z * q) ≡ true → below s (x * r) u (z * p) ≡ true
below_through false false false x y z p q r P R h k =
    lt-ltb (x * r) (z * p) (through x y z p q r R (ltb-true (x * q) (y * p) h) (le_of_lt (ltb-true (y * r) (z * q) k)))
below_through false false true x y z p q r P R h k = absurd (true≢false (sym k))
below_through false true u x y z p q r P R h k = absurd (true≢false (sym h))
below_through true false false x y z p q r P R h k =
    let l : 0 < z * p = mul-pos (left_positive z q (let d = ltb-true (y * r) (z * q) k in omega arith)) P in
    lt-ltb 0 (x * r + z * p) (omega arith)
below_through true false true x y z p q r P R h k = absurd (true≢false (sym k))
below_through true true false x y z p q r P R h k =
    let l : 0 < x * r = mul-pos (left_positive x q (let d = ltb-true (y * p) (x * q) h in omega arith)) R in
    lt-ltb 0 (x * r + z * p) (omega arith)
below_through true true true x y z p q r P R h k =
    lt-ltb (z * p) (x * r) (through z y x r q p P (ltb-true (z * q) (y * r) k) (le_of_lt (ltb-true (y * p) (x * q) h)))

-- no value is below itself
pub lt_irreflexive : (x : Float) → lt x x ≡ false
unfolding lt
lt_irreflexive nan = refl
lt_irreflexive (inf true) = refl
lt_irreflexive (inf false) = refl
lt_irreflexive (fin true m e) = le-ltb (m * up e * down e) (m * up e * down e) (omega arith)
lt_irreflexive (fin false m e) = le-ltb (m * up e * down e) (m * up e * down e) (omega arith)

-- what is below a value is below those above it
pub lt_transitive : (x y z : Float) → lt x y ≡ true → lt y z ≡ true → lt x z ≡ true
unfolding lt
lt_transitive nan y z h k = absurd (true≢false (sym h))
lt_transitive (inf s) nan z h k = absurd (true≢false (sym h))
lt_transitive (fin s m e) nan z h k = absurd (true≢false (sym h))
lt_transitive (inf s) (inf t) nan h k = absurd (true≢false (sym k))
lt_transitive (inf s) (fin t n d) nan h k = absurd (true≢false (sym k))
lt_transitive (fin s m e) (inf t) nan h k = absurd (true≢false (sym k))
lt_transitive (fin s m e) (fin t n d) nan h k = absurd (true≢false (sym k))
lt_transitive (inf true) (inf false) (inf u) h k = absurd (true≢false (sym k))
lt_transitive (inf true) (inf true) (inf u) h k = absurd (true≢false (sym h))
lt_transitive (inf false) (inf t) (inf u) h k = absurd (true≢false (sym h))
lt_transitive (inf true) (inf t) (fin u l g) h k = refl
lt_transitive (inf false) (inf t) (fin u l g) h k = absurd (true≢false (sym h))
lt_transitive (inf true) (fin t n d) (inf u) h k = k
lt_transitive (inf false) (fin t n d) (inf u) h k = absurd (true≢false (sym h))
lt_transitive (inf s) (fin t n d) (fin u l g) h k = h
lt_transitive (fin s m e) (inf true) (inf u) h k = absurd (true≢false (sym h))
lt_transitive (fin s m e) (inf false) (inf u) h k = absurd (true≢false (sym k))
lt_transitive (fin s m e) (inf true) (fin u l g) h k = absurd (true≢false (sym h))
lt_transitive (fin s m e) (inf false) (fin u l g) h k = absurd (true≢false (sym k))
lt_transitive (fin s m e) (fin t n d) (inf u) h k = k
lt_transitive (fin s m e) (fin t n d) (fin u l g) h k =
    below_through s t u (m * up e) (n * up d) (l * up g) (down e) (down d) (down g) (down_pos e) (down_pos g) h k

-- of two values at most one is below the other
pub lt_asymmetric : (x y : Float) → lt x y ≡ true → lt y x ≡ false
lt_asymmetric x y h = go (lt y x) refl
  where
    go : (b : Bool) → lt y x ≡ b → lt y x ≡ false
    go true e = absurd (true≢false (sym (lt_transitive x y x h e) ∙ lt_irreflexive x))
    go false e = e
