-- In f64 a quotient by 1 is the dividend, bit for bit.
-- Assumes nothing.
use Prim.Native.Nat.{ℕ, zero, suc, ◌+◌, ◌-◌, ◌*◌, ◌%◌, ◌^◌, ◌≤◌, ◌<◌}
use Rattle.std.proofs.Common.{mul-one, one-mul, zero-mul, mul_assoc, mul_comm, mul_left_comm, mul_right_comm, mul-pos, lt_irrefl, zero-lt-suc, pow-suc, lt_of_lt_of_le, mul-lt-mul_of_pos_right, arith, sym, ap, ap₂, subst, ◌∙◌, eqb-true, leb→le, eqb→eq, lit≤, pow-add, pow_pos}
use Rattle.std.proofs.Math.Nat.{pow-succ', eq_of_mul-eq-mul_right}
use Rattle.std.proofs.Math.Decide.{dec_le}
use Rattle.std.specs.Prelude.{◌≡◌, refl, Bool, true, false, cond, ◌&&◌, List, [], ◌∷◌, T, eqb, ℤ, pos, negsuc, neg_ℤ, nat_abs, Float}
use Rattle.integers.specs.Integer.{signed}
use Rattle.integers.proofs.Integer.{*ℤ-idr}
use Rattle.takahashi.specs.Recurrence.{Entry, run, dot}
use Rattle.exact.specs.Multiple.{Whole, zero_float, one_float}
use Rattle.exact.proofs.Multiple.{multiple_mul}
use Rattle.exact.specs.Exact.{floats, float_off, float_on}
use Rattle.exact.specs.PivotCase.{pivot_off, pivot_on}
use Rattle.std.proofs.Math.Dec.{ltb, leb, ltb→lt}
use Rattle.std.proofs.Math.IntN.{pos-ne-negsuc, *ℤ_comm}
use Rattle.std.proofs.Math.Pow.{pow-lt}
use Rattle.std.specs.Float.{nan, inf, fin, binary64}
use Rattle.std.specs.Float.Ieee.{prec, emax, low, up, down, unlike, round, add, sub, mul, div, neg, fits}
use Rattle.std.specs.Float.Ieee.Exact.{HasValue, round_exact}
use Rattle.std.specs.Float.Ieee.Scale.{round_same}
use Rattle.std.specs.Float.Ieee.Fits.{round-fits, add-fits, neg-fits, up_pos, down_pos, and_l, and_r}

-- ---- an odd number times a power of 2 is written in one way
even_odd : (m t : ℕ) → m % 2 ≡ 1 → m ≡ 2 * t → ⊥
even_odd m t o h = omega arith

odd_pow : (m n a b : ℕ) → m % 2 ≡ 1 → n % 2 ≡ 1 → m * 2 ^ a ≡ n * 2 ^ b → (m ≡ n) × (a ≡ b)
odd_pow m n zero zero o p h = (sym (mul-one m) ∙ h ∙ mul-one n, refl)
odd_pow m n zero (suc b) o p h = absurd (even_odd m (n * 2 ^ b) o (sym (mul-one m) ∙ h ∙ ap (λ (x : ℕ). n * x) (pow-succ' 2 b) ∙ mul_left_comm n 2 (2 ^ b)))
odd_pow m n (suc a) zero o p h = absurd (even_odd n (m * 2 ^ a) p (sym (mul-one n) ∙ sym h ∙ ap (λ (x : ℕ). m * x) (pow-succ' 2 a) ∙ mul_left_comm m 2 (2 ^ a)))
odd_pow m n (suc a) (suc b) o p h =
    let r = odd_pow m n a b o p (eq_of_mul-eq-mul_right 2 (zero-lt-suc 1) (m * 2 ^ a) (n * 2 ^ b)
    (mul_assoc m (2 ^ a) 2 ∙ ap (λ (x : ℕ). m * x) (sym (pow-suc 2 a)) ∙ h ∙ ap (λ (x : ℕ). n * x) (pow-suc 2 b) ∙ sym (mul_assoc n (2 ^ b) 2))) in
    (r.0, ap suc r.1)

-- with exponents of either sign
one_way : (m n : ℕ) (e g : ℤ) → m % 2 ≡ 1 → n % 2 ≡ 1 → m * up e * down g ≡ n * up g * down e → (m ≡ n) × (e ≡ g)
one_way m n (pos a) (pos b) o p h =
    let r = odd_pow m n a b o p (sym (mul-one (m * 2 ^ a)) ∙ h ∙ mul-one (n * 2 ^ b)) in (r.0, ap pos r.1)
one_way m n (pos a) (negsuc b) o p h =
    let r = odd_pow m n (a + suc b) 0 o p
    (ap (λ (x : ℕ). m * x) (pow-add 2 a (suc b)) ∙ sym (mul_assoc m (2 ^ a) (2 ^ suc b)) ∙ h ∙ mul-one (n * 1)) in
    let z : a + suc b ≡ 0 = r.1 in absurd (omega arith)
one_way m n (negsuc a) (pos b) o p h =
    let r = odd_pow m n 0 (b + suc a) o p
    (sym (mul-one (m * 1)) ∙ h ∙ mul_assoc n (2 ^ b) (2 ^ suc a) ∙ ap (λ (x : ℕ). n * x) (sym (pow-add 2 b (suc a)))) in
    let z : 0 ≡ b + suc a = r.1 in absurd (omega arith)
one_way m n (negsuc a) (negsuc b) o p h =
    let r = odd_pow m n (suc b) (suc a) o p
    (ap (λ (x : ℕ). x * 2 ^ suc b) (sym (mul-one m)) ∙ h ∙ ap (λ (x : ℕ). x * 2 ^ suc a) (mul-one n)) in
    let z : suc b ≡ suc a = r.1 in
    let q : a ≡ b = omega arith in
    (r.0, ap negsuc q)

-- ---- what a value that fits has
module _ (s : Bool) (m : ℕ) (e : ℤ) (t : T (fits binary64 (fin s (suc m) e))) where
  odd_front : T (eqb (suc m % 2) 1 && ltb (suc m) (2 ^ prec binary64) && leb (down e) (2 ^ low binary64))
  unfolding fits
  odd_front = and_l (eqb (suc m % 2) 1 && ltb (suc m) (2 ^ prec binary64) && leb (down e) (2 ^ low binary64)) (ltb (suc m * up e) (2 ^ suc (emax binary64) * down e)) t

  under : suc m * up e < 2 ^ suc (emax binary64) * down e
  unfolding fits
  under = ltb→lt _ _ (and_r (eqb (suc m % 2) 1 && ltb (suc m) (2 ^ prec binary64) && leb (down e) (2 ^ low binary64)) (ltb (suc m * up e) (2 ^ suc (emax binary64) * down e)) t)

  fine : down e ≤ 2 ^ low binary64
  fine = leb→le _ _ (and_r (eqb (suc m % 2) 1 && ltb (suc m) (2 ^ prec binary64)) (leb (down e) (2 ^ low binary64)) odd_front)

  small : suc m < 2 ^ prec binary64
  small = ltb→lt _ _ (and_r (eqb (suc m % 2) 1) (ltb (suc m) (2 ^ prec binary64)) (and_l (eqb (suc m % 2) 1 && ltb (suc m) (2 ^ prec binary64)) (leb (down e) (2 ^ low binary64)) odd_front))

  is_odd : suc m % 2 ≡ 1
  is_odd = eqb→eq (suc m % 2) 1 (and_l (eqb (suc m % 2) 1) (ltb (suc m) (2 ^ prec binary64)) (and_l (eqb (suc m % 2) 1 && ltb (suc m) (2 ^ prec binary64)) (leb (down e) (2 ^ low binary64)) odd_front))

-- a zero's exponent is 0
flat : (e : ℤ) → up e * down e ≡ 1 → e ≡ pos 0
flat (pos zero) h = refl
flat (pos (suc k)) h = absurd (two_up (2 ^ k) (pow_pos k) (sym (pow-succ' 2 k) ∙ sym (mul-one (2 ^ suc k)) ∙ h))
  where
    two_up : (p : ℕ) → 0 < p → 2 * p ≡ 1 → ⊥
    two_up p h e = omega arith
flat (negsuc k) h = absurd (two_up (2 ^ k) (pow_pos k) (sym (pow-succ' 2 k) ∙ sym (one-mul (2 ^ suc k)) ∙ h))
  where
    two_up : (p : ℕ) → 0 < p → 2 * p ≡ 1 → ⊥
    two_up p h e = omega arith

zero_exp : (s : Bool) (e : ℤ) → T (fits binary64 (fin s zero e)) → e ≡ pos 0
unfolding fits
zero_exp s e t = flat e (eqb→eq (up e * down e) 1 t)

-- a fraction of size 0 is no odd number's
no_zero : (n a c : ℕ) (e g : ℤ) → 0 < c → zero * up e * c ≡ a * down e → suc n * up g * c ≡ a * down g → ⊥
no_zero n zero c e g p v w =
    lt_irrefl 0 (subst (λ (x : ℕ). 0 < x) (w ∙ zero-mul (down g)) (mul-pos (mul-pos (zero-lt-suc n) (up_pos g)) p))
no_zero n (suc a) c e g p v w =
    lt_irrefl 0 (subst (λ (x : ℕ). 0 < x) (sym v ∙ ap (λ (y : ℕ). y * c) (zero-mul (up e)) ∙ zero-mul c) (mul-pos (zero-lt-suc a) (down_pos e)))

-- values that fit, of one sign and one size, are the same
unique : (x y : Float) (s : Bool) (a c : ℕ) → 0 < c → T (fits binary64 x) → T (fits binary64 y) → HasValue x s a c → HasValue y s a c → x ≡ y
unique nan y s a c h p q v w = elim v [ ]
unique (inf _) y s a c h p q v w = elim v [ ]
unique (fin t zero e) nan s a c h p q v w = elim w [ ]
unique (fin t zero e) (inf _) s a c h p q v w = elim w [ ]
unique (fin t (suc m) e) nan s a c h p q v w = elim w [ ]
unique (fin t (suc m) e) (inf _) s a c h p q v w = elim w [ ]
unique (fin t zero e) (fin u zero g) s a c h p q v w = λ i. fin ((v.0 ∙ sym w.0) i) zero ((zero_exp t e p ∙ sym (zero_exp u g q)) i)
unique (fin t zero e) (fin u (suc n) g) s a c h p q v w = absurd (no_zero n a c e g h v.1 w.1)
unique (fin t (suc m) e) (fin u zero g) s a c h p q v w = absurd (no_zero m a c g e h w.1 v.1)
unique (fin t (suc m) e) (fin u (suc n) g) s a c h p q v w =
    let cross : suc m * up e * down g * c ≡ suc n * up g * down e * c =
    mul_right_comm (suc m * up e) (down g) c ∙ ap (λ (x : ℕ). x * down g) v.1 ∙ mul_right_comm a (down e) (down g)
    ∙ ap (λ (x : ℕ). x * down e) (sym w.1) ∙ mul_right_comm (suc n * up g) c (down e) in
    let r = one_way (suc m) (suc n) e g (is_odd t m e p) (is_odd u n g q) (eq_of_mul-eq-mul_right c h (suc m * up e * down g) (suc n * up g * down e) cross) in
    λ i. fin ((v.0 ∙ sym w.0) i) (r.0 i) (r.1 i)

-- ---- a value that fits rounds to itself
below_top : {a k : ℕ} (j : ℕ) → a < k → a * 2 ^ j < k * 2 ^ j
below_top j h = mul-lt-mul_of_pos_right h (pow_pos j)

own_value : (s : Bool) (m : ℕ) (e : ℤ) → T (fits binary64 (fin s m e)) → HasValue (round binary64 s (m * up e) (down e)) s (m * up e) (down e)
own_value s zero e t =
    round_exact binary64 s (zero * up e) (down e) 0 0 (down_pos e) (pow_pos (prec binary64)) (pow_pos (low binary64 + suc (emax binary64)))
    (ap (λ (x : ℕ). x * 2 ^ low binary64) (zero-mul (up e)) ∙ zero-mul (2 ^ low binary64) ∙ sym (zero-mul (down e)))
own_value s (suc m) (pos k) t =
    let l = low binary64 in
    let x = suc (emax binary64) in
    round_exact binary64 s (suc m * 2 ^ k) 1 (suc m) (k + l) (zero-lt-suc 0) (small s m (pos k) t)
    (subst (λ (z : ℕ). z < 2 ^ (l + x)) (mul_assoc (suc m) (2 ^ k) (2 ^ l) ∙ ap (λ (z : ℕ). suc m * z) (sym (pow-add 2 k l)))
    (subst (λ (z : ℕ). suc m * 2 ^ k * 2 ^ l < z) (mul_comm (2 ^ x) (2 ^ l) ∙ sym (pow-add 2 l x))
    (below_top l (subst (λ (z : ℕ). suc m * 2 ^ k < z) (mul-one (2 ^ x)) (under s m (pos k) t)))))
    (mul_assoc (suc m) (2 ^ k) (2 ^ l) ∙ ap (λ (z : ℕ). suc m * z) (sym (pow-add 2 k l)) ∙ sym (mul-one (suc m * 2 ^ (k + l))))
own_value s (suc m) (negsuc k) t =
    let l = low binary64 in
    let x = suc (emax binary64) in
    let j = l - suc k in
    let fit : suc k ≤ l = exponent (suc k) l (fine s m (negsuc k) t) in
    let parts : 2 ^ suc k * 2 ^ (l - suc k) ≡ 2 ^ l = sym (pow-add 2 (suc k) (l - suc k)) ∙ ap (λ (z : ℕ). 2 ^ z) (rejoin (suc k) l fit) in
    round_exact binary64 s (suc m * 1) (2 ^ suc k) (suc m) j (pow_pos (suc k)) (small s m (negsuc k) t)
    (subst (λ (z : ℕ). suc m * 2 ^ j < z) (mul_assoc (2 ^ x) (2 ^ suc k) (2 ^ j) ∙ ap (λ (z : ℕ). 2 ^ x * z) parts ∙ mul_comm (2 ^ x) (2 ^ l) ∙ sym (pow-add 2 l x))
    (below_top j (subst (λ (z : ℕ). z < 2 ^ x * 2 ^ suc k) (mul-one (suc m)) (under s m (negsuc k) t))))
    (ap (λ (z : ℕ). z * 2 ^ l) (mul-one (suc m)) ∙ ap (λ (z : ℕ). suc m * z) (sym parts ∙ mul_comm (2 ^ suc k) (2 ^ j)) ∙ sym (mul_assoc (suc m) (2 ^ j) (2 ^ suc k)))
  where
    exponent : (a b : ℕ) → 2 ^ a ≤ 2 ^ b → a ≤ b
    exponent a b h = elim (dec_le a b) [ yes p ↦ p | no p ↦ absurd (lt_irrefl (2 ^ b) (lt_of_lt_of_le (pow-lt (not_le p)) h)) ]
      where
        not_le : (a ≤ b → ⊥) → b < a
        not_le p = omega arith

    rejoin : (a b : ℕ) → a ≤ b → a + (b - a) ≡ b
    rejoin a b h = omega arith

round_self : (s : Bool) (m : ℕ) (e : ℤ) → T (fits binary64 (fin s m e)) → round binary64 s (m * up e) (down e) ≡ fin s m e
round_self s m e t =
    unique (round binary64 s (m * up e) (down e)) (fin s m e) s (m * up e) (down e) (down_pos e) (round-fits binary64 s (m * up e) (down e)) t (own_value s m e t) (refl, refl)

-- ---- by 1
-- 1 is positive, and its own numerator and denominator are equal
one_parts : (u : Bool) (n : ℕ) (g : ℤ) → Whole (fin u n g) (pos 1) → (u ≡ false) × (n * up g ≡ down g)
one_parts u n g h = go u (sym (*ℤ-idr (signed u (n * up g))) ∙ h ∙ *ℤ_comm (pos 1) (pos (down g)) ∙ *ℤ-idr (pos (down g)))
  where
    none : (k d : ℕ) → 0 < d → neg_ℤ (pos k) ≡ pos d → ⊥
    none zero d p e = lt_irrefl 0 (subst (λ (x : ℕ). 0 < x) (sym (ap nat_abs e)) p)
    none (suc k) d p e = pos-ne-negsuc d k (sym e)

    go : (u : Bool) → signed u (n * up g) ≡ pos (down g) → (u ≡ false) × (n * up g ≡ down g)
    go false e = (refl, ap nat_abs e)
    go true e = absurd (none (n * up g) (down g) (down_pos g) e)

unlike_false : (s : Bool) → unlike s false ≡ s
unlike_false true = refl
unlike_false false = refl

-- a quotient of a value that fits by 1 is that value
pub div-one : (x d : Float) → T (fits binary64 x) → Whole d (pos 1) → div binary64 x d ≡ x
unfolding div
div-one nan nan t w = elim w [ ]
div-one nan (inf _) t w = elim w [ ]
div-one (inf s) nan t w = elim w [ ]
div-one (inf s) (inf _) t w = elim w [ ]
div-one (fin s m e) nan t w = elim w [ ]
div-one (fin s m e) (inf _) t w = elim w [ ]
div-one nan (fin u n g) t w = refl
div-one (inf s) (fin u n g) t w = ap inf (ap (unlike s) (one_parts u n g w).0 ∙ unlike_false s)
div-one (fin s m e) (fin u n g) t w = go (eqb n 0) refl
  where
    sign : u ≡ false
    sign = (one_parts u n g w).0

    size : n * up g ≡ down g
    size = (one_parts u n g w).1

    not_zero_lem : n ≡ 0 → ⊥
    not_zero_lem z = lt_irrefl 0 (subst (λ (x : ℕ). 0 < x) (sym size ∙ ap (λ (x : ℕ). x * up g) z ∙ zero-mul (up g)) (down_pos g))

    same : round binary64 (unlike s u) (m * up e * down g) (n * up g * down e) ≡ fin s m e
    same =
        ap (λ (b : Bool). round binary64 b (m * up e * down g) (n * up g * down e)) (ap (unlike s) sign ∙ unlike_false s)
        ∙ ap (λ (k : ℕ). round binary64 s (m * up e * down g) (k * down e)) size
        ∙ round_same binary64 s (m * up e * down g) (down g * down e) (m * up e) (down e) (mul-pos (down_pos g) (down_pos e)) (down_pos e) (mul_assoc (m * up e) (down g) (down e))
        ∙ round_self s m e t

    go : (b : Bool) → eqb n 0 ≡ b
        → cond b (cond (eqb m 0) nan (inf (unlike s u))) (round binary64 (unlike s u) (m * up e * down g) (n * up g * down e)) ≡ fin s m e
    go true q = absurd (not_zero_lem (eqb-true n 0 q))
    go false q = same

-- ---- so with divisors of 1 the last steps of both families give the same bits
zero_fits : T (fits binary64 zero_float)
unfolding fits
zero_fits = tt

one_fits : T (fits binary64 one_float)
unfolding fits
one_fits = tt

run_fits : (r : ℕ → Float) (S : Float) (es : List (Entry Float)) → T (fits binary64 S) → T (fits binary64 (run floats r S es))
run_fits r S [] t = t
run_fits r S (e ∷ es) t =
    run_fits r (add binary64 S (mul binary64 e.value (r e.row))) es (add-fits binary64 S (mul binary64 e.value (r e.row)))

-- a sum of the recurrence fits
pub dot_fits : (r : ℕ → Float) (es : List (Entry Float)) → T (fits binary64 (dot floats r es))
dot_fits r es = run_fits r zero_float es zero_fits

pub off_same : (S d p : Float) → T (fits binary64 S) → Whole d (pos 1) → float_off d S ≡ pivot_off p S
off_same S d p t w = div-one (neg S) d (neg-fits binary64 S t) w

pub on_same : (S d p : Float) → T (fits binary64 S) → Whole d (pos 1) → Whole p (pos 1) → float_on d S ≡ pivot_on p S
on_same S d p t w v =
    let square : Whole (mul binary64 d d) (pos 1) = multiple_mul 0 (lit≤ tt) d d (pos 1) (pos 1) (pos 1) w w refl (lit≤ tt) in
    ap₂ (sub binary64) (div-one one_float (mul binary64 d d) one_fits square ∙ sym (div-one one_float p one_fits v)) (div-one S d t w)
