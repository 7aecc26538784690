-- Laws of specs/Multiple.antt.
use Rattle.std.specs.Prelude.{◌≡◌, refl, Bool, true, false, not, cond, ◌≢◌, ℕ, zero, suc, ◌+◌, ◌*◌, ◌-◌, ◌^◌, ◌≤◌, ◌<◌, T, ltb, eqb, ℤ, nat_abs, ◌-ℤ◌, Float}
use Rattle.std.proofs.Math.Path.{sym, ap, ap₂, subst}
use Rattle.std.proofs.Common.{◌∙◌, mul-one, one-mul, mul-pos, zero-mul, le_of_lt, zero-lt-suc, arith, ltb→lt, nltb→le, eqb→eq}
use Rattle.std.proofs.Math.IntN.{pos, neg_ℤ, ◌+ℤ◌, ◌*ℤ◌, +ℤ_comm, neg_ℤ-+ℤ, *ℤ_comm, zero-*ℤ, pos-ne-negsuc}
use Rattle.std.specs.Float.{nan, inf, fin, binary64}
use Rattle.std.specs.Float.Ieee.{low, up, down, unlike, level, round, sum, add, sub, mul, div, neg, eq}
use Rattle.std.specs.Float.Ieee.Fits.{up_pos, down_pos, and_l, and_r, and_i, eq→eqb}
use Rattle.integers.specs.Integer.{signed}
use Rattle.integers.proofs.Integer.{signed_*, signed-not, signed_scale, signed_zero, nat_abs_signed, pos_minus_pos, pos_minus-larger}
use Rattle.integers.proofs.Integer.{+ℤ-*ℤ, negℤ_*ℤ, *ℤ-assoc, *ℤ-right-comm, *ℤ-interchange, *ℤ-cancel-r, *ℤ-zero-cancel, *ℤ-nonzero, pos_nonzero}
use Rattle.exact.specs.Multiple.{Multiple, Small, zero_float, one_float}
use Rattle.exact.proofs.Rounding.{unit_nonzero, multiple_round}

pub multiple_zero : (s : ℕ) → Multiple s zero_float (pos 0)
multiple_zero s = ap pos (zero-mul (2 ^ s))

pub multiple_one : (s : ℕ) → Multiple s one_float (pos (2 ^ s))
multiple_one s = ap pos (one-mul (2 ^ s) ∙ sym (mul-one (2 ^ s)))

down-nonzero : (e : ℤ) → pos (down e) ≢ pos 0
down-nonzero e = pos_nonzero (down e) (down_pos e)

-- A / E and B / F, each a multiple of 1 / D, over the common denominator E * F
module _ (A B D E F a b : ℤ) (p : A *ℤ D ≡ a *ℤ E) (q : B *ℤ D ≡ b *ℤ F) where
  common_first : A *ℤ F *ℤ D ≡ a *ℤ (E *ℤ F)
  common_first = *ℤ-right-comm A F D ∙ ap (λ (x : ℤ). x *ℤ F) p ∙ *ℤ-assoc a E F

  common_second : B *ℤ E *ℤ D ≡ b *ℤ (E *ℤ F)
  common_second = *ℤ-right-comm B E D ∙ ap (λ (x : ℤ). x *ℤ E) q ∙ *ℤ-assoc b F E ∙ ap (λ (x : ℤ). b *ℤ x) (*ℤ_comm F E)

  common_equal : D ≢ pos 0 → a ≡ b → A *ℤ F ≡ B *ℤ E
  common_equal D0 h = *ℤ-cancel-r (A *ℤ F) (B *ℤ E) D D0 (common_first ∙ ap (λ (x : ℤ). x *ℤ (E *ℤ F)) h ∙ sym common_second)

  equal_common : E *ℤ F ≢ pos 0 → A *ℤ F ≡ B *ℤ E → a ≡ b
  equal_common EF0 h = *ℤ-cancel-r a b (E *ℤ F) EF0 (sym common_first ∙ ap (λ (x : ℤ). x *ℤ D) h ∙ common_second)

-- a sum of two fractions over c is the rounding of one fraction ± k / c
sum_is : (s t : Bool) (a b c : ℕ) → (u : Bool) × (k : ℕ) × (sum binary64 s a t b c ≡ round binary64 u k c) × (signed u k ≡ signed s a +ℤ signed t b)
unfolding sum
sum_is false false a b c = (false, a + b, refl, refl)
sum_is true true a b c = (true, a + b, refl, neg_ℤ-+ℤ (pos a) (pos b))
sum_is false true a b c = go (ltb a b) (ltb→lt a b) (nltb→le a b)
  where
    go : (v : Bool) → (T v → a < b) → (T (not v) → b ≤ a)
        → (u : Bool) × (k : ℕ) × (cond v (round binary64 true (b - a) c) (round binary64 false (a - b) c) ≡ round binary64 u k c)
        × (signed u k ≡ pos a +ℤ neg_ℤ (pos b))
    go true f g = (true, b - a, refl, sym (pos_minus-larger a b (le_of_lt (f tt))))
    go false f g = (false, a - b, refl, sym (pos_minus_pos a b (g tt)))
sum_is true false a b c = go (ltb a b) (ltb→lt a b) (nltb→le a b)
  where
    -- of two equal sizes the difference is +0
    zero_too : (v : Bool) → (T (not v) → a ≤ b) → signed v (a - b) ≡ neg_ℤ (pos (a - b))
    zero_too true h = refl
    zero_too false h = let e : a - b ≡ 0 = w a b (h tt) in ap pos e ∙ sym (ap (λ (x : ℕ). neg_ℤ (pos x)) e)
      where
        w : (a b : ℕ) → a ≤ b → a - b ≡ 0
        w a b h = omega arith

    go : (v : Bool) → (T v → a < b) → (T (not v) → b ≤ a)
        → (u : Bool) × (k : ℕ) × (cond v (round binary64 false (b - a) c) (round binary64 (ltb b a) (a - b) c) ≡ round binary64 u k c)
        × (signed u k ≡ neg_ℤ (pos a) +ℤ pos b)
    go true f g = (false, b - a, refl, sym (+ℤ_comm (neg_ℤ (pos a)) (pos b) ∙ pos_minus_pos b a (le_of_lt (f tt))))
    go false f g = (
      ltb b a,
      a - b,
      refl,
      zero_too (ltb b a) (nltb→le b a) ∙ sym (+ℤ_comm (neg_ℤ (pos a)) (pos b) ∙ pos_minus-larger b a (g tt)),
    )

module _ (s : ℕ) (sl : s ≤ low binary64) where
  -- ---- the product
  pub multiple_mul : (x y : Float) (a b m : ℤ) → Multiple s x a → Multiple s y b → a *ℤ b ≡ m *ℤ pos (2 ^ s) → Small m → Multiple s (mul binary64 x y) m
  unfolding mul
  multiple_mul nan y a b m p q r h = elim p [ ]
  multiple_mul (inf _) y a b m p q r h = elim p [ ]
  multiple_mul (fin t k e) nan a b m p q r h = elim q [ ]
  multiple_mul (fin t k e) (inf _) a b m p q r h = elim q [ ]
  multiple_mul (fin t k e) (fin u n d) a b m p q r h =
      multiple_round s sl (unlike t u) (k * up e * (n * up d)) (down e * down d) m (mul-pos (down_pos e) (down_pos d))
      (ap (λ (z : ℤ). z *ℤ pos (2 ^ s)) (signed_* t u (k * up e) (n * up d))
      ∙ cross (signed t (k * up e)) (signed u (n * up d)) (pos (2 ^ s)) (pos (down e)) (pos (down d)) a b m (unit_nonzero s) p q r)
      h
    where
      cross : (A B D E F a b m : ℤ) → D ≢ pos 0 → A *ℤ D ≡ a *ℤ E → B *ℤ D ≡ b *ℤ F → a *ℤ b ≡ m *ℤ D → A *ℤ B *ℤ D ≡ m *ℤ (E *ℤ F)
      cross A B D E F a b m D0 p q r =
          *ℤ-cancel-r (A *ℤ B *ℤ D) (m *ℤ (E *ℤ F)) D D0
          (*ℤ-assoc (A *ℤ B) D D ∙ *ℤ-interchange A B D D ∙ ap₂ ◌*ℤ◌ p q ∙ *ℤ-interchange a E b F
          ∙ ap (λ (x : ℤ). x *ℤ (E *ℤ F)) r ∙ *ℤ-right-comm m D (E *ℤ F))

  -- ---- the sum
  pub multiple_add : (x y : Float) (a b : ℤ) → Multiple s x a → Multiple s y b → Small (a +ℤ b) → Multiple s (add binary64 x y) (a +ℤ b)
  unfolding add
  multiple_add nan y a b p q h = elim p [ ]
  multiple_add (inf _) y a b p q h = elim p [ ]
  multiple_add (fin t k e) nan a b p q h = elim q [ ]
  multiple_add (fin t k e) (inf _) a b p q h = elim q [ ]
  multiple_add (fin t k e) (fin u n d) a b p q h =
      let r = sum_is t u (k * up e * down d) (n * up d * down e) (down e * down d) in
      subst (λ (x : Float). Multiple s x (a +ℤ b)) (sym r.2)
      (multiple_round s sl r.0 r.1 (down e * down d) (a +ℤ b) (mul-pos (down_pos e) (down_pos d))
      (ap (λ (z : ℤ). z *ℤ pos (2 ^ s)) (r.3 ∙ ap₂ ◌+ℤ◌ (signed_scale t (k * up e) (down d)) (signed_scale u (n * up d) (down e)))
      ∙ cross (signed t (k * up e)) (signed u (n * up d)) (pos (2 ^ s)) (pos (down e)) (pos (down d)) a b p q)
      h)
    where
      cross : (A B D E F a b : ℤ) → A *ℤ D ≡ a *ℤ E → B *ℤ D ≡ b *ℤ F → (A *ℤ F +ℤ B *ℤ E) *ℤ D ≡ (a +ℤ b) *ℤ (E *ℤ F)
      cross A B D E F a b p q =
          +ℤ-*ℤ (A *ℤ F) (B *ℤ E) D ∙ ap₂ ◌+ℤ◌ (common_first A B D E F a b p q) (common_second A B D E F a b p q) ∙ sym (+ℤ-*ℤ a b (E *ℤ F))

  -- ---- the negation and the difference
  pub multiple_neg : (x : Float) (a : ℤ) → Multiple s x a → Multiple s (neg x) (neg_ℤ a)
  unfolding neg
  multiple_neg nan a p = elim p [ ]
  multiple_neg (inf _) a p = elim p [ ]
  multiple_neg (fin t k e) a p =
      ap (λ (z : ℤ). z *ℤ pos (2 ^ s)) (signed-not t (k * up e)) ∙ negℤ_*ℤ (signed t (k * up e)) (pos (2 ^ s)) ∙ ap neg_ℤ p
      ∙ sym (negℤ_*ℤ a (pos (down e)))

  pub multiple_sub : (x y : Float) (a b : ℤ) → Multiple s x a → Multiple s y b → Small (a -ℤ b) → Multiple s (sub binary64 x y) (a -ℤ b)
  unfolding sub
  multiple_sub x y a b p q h = multiple_add x (neg y) a (neg_ℤ b) p (multiple_neg y b q) h

  -- ---- the quotient
  pub multiple_div : (x y : Float) (a b m : ℤ) → Multiple s x a → Multiple s y b → b ≢ pos 0 → m *ℤ b ≡ a *ℤ pos (2 ^ s) → Small m
      → Multiple s (div binary64 x y) m
  unfolding div
  multiple_div nan y a b m p q b0 r h = elim p [ ]
  multiple_div (inf _) y a b m p q b0 r h = elim p [ ]
  multiple_div (fin t k e) nan a b m p q b0 r h = elim q [ ]
  multiple_div (fin t k e) (inf _) a b m p q b0 r h = elim q [ ]
  multiple_div (fin t k e) (fin u n d) a b m p q b0 r h = go (eqb n 0) (eqb→eq n 0)
    where
      zero_product : n ≡ 0 → signed u (n * up d) ≡ pos 0
      zero_product z = ap (λ (x : ℕ). signed u (x * up d)) z ∙ ap (signed u) (zero-mul (up d)) ∙ signed_zero u

      n_not_zero : n ≡ 0 → ⊥
      n_not_zero z =
          b0 (*ℤ-zero-cancel b (pos (down d)) (down-nonzero d)
          (sym q ∙ ap (λ (x : ℤ). x *ℤ pos (2 ^ s)) (zero_product z) ∙ zero-*ℤ (pos (2 ^ s))))

      n_pos : (n : ℕ) → (n ≡ 0 → ⊥) → 0 < n
      n_pos zero f = absurd (f refl)
      n_pos (suc n) f = zero-lt-suc n

      -- the divisor's sign: 1 or -1
      σ : ℤ
      σ = signed u 1

      left : signed (unlike t u) (k * up e * down d) ≡ signed t (k * up e) *ℤ pos (down d) *ℤ σ
      left =
          ap (signed (unlike t u)) (sym (mul-one (k * up e * down d))) ∙ signed_* t u (k * up e * down d) 1
          ∙ ap (λ (x : ℤ). x *ℤ σ) (signed_scale t (k * up e) (down d))

      right : (u : Bool) (x : ℕ) → pos x ≡ signed u x *ℤ signed u 1
      right false x = ap pos (sym (mul-one x))
      right true x = ap pos (sym (mul-one x)) ∙ signed_* true true x 1

      cross : (A B D E F a b m : ℤ) → D ≢ pos 0 → A *ℤ D ≡ a *ℤ E → B *ℤ D ≡ b *ℤ F → m *ℤ b ≡ a *ℤ D → A *ℤ F *ℤ D ≡ m *ℤ (B *ℤ E)
      cross A B D E F a b m D0 p q r =
          *ℤ-cancel-r (A *ℤ F *ℤ D) (m *ℤ (B *ℤ E)) D D0
          (ap (λ (x : ℤ). x *ℤ D) (common_first A B D E F a b p q) ∙ *ℤ-right-comm a (E *ℤ F) D ∙ ap (λ (x : ℤ). x *ℤ (E *ℤ F)) (sym r)
          ∙ *ℤ-assoc m b (E *ℤ F) ∙ ap (λ (x : ℤ). m *ℤ x) (sym (common_second A B D E F a b p q)) ∙ sym (*ℤ-assoc m (B *ℤ E) D))

      whole : signed (unlike t u) (k * up e * down d) *ℤ pos (2 ^ s) ≡ m *ℤ pos (n * up d * down e)
      whole =
          ap (λ (x : ℤ). x *ℤ pos (2 ^ s)) left ∙ *ℤ-right-comm (signed t (k * up e) *ℤ pos (down d)) σ (pos (2 ^ s))
          ∙ ap (λ (x : ℤ). x *ℤ σ)
          (cross (signed t (k * up e)) (signed u (n * up d)) (pos (2 ^ s)) (pos (down e)) (pos (down d)) a b m (unit_nonzero s) p q r)
          ∙ *ℤ-assoc m (signed u (n * up d) *ℤ pos (down e)) σ
          ∙ ap (λ (x : ℤ). m *ℤ x)
          (*ℤ-right-comm (signed u (n * up d)) (pos (down e)) σ ∙ ap (λ (x : ℤ). x *ℤ pos (down e)) (sym (right u (n * up d))))

      go : (v : Bool) → (T v → n ≡ 0)
          → Multiple s (cond v (cond (eqb k 0) nan (inf (unlike t u))) (round binary64 (unlike t u) (k * up e * down d) (n * up d * down e))) m
      go true f = absurd (n_not_zero (f tt))
      go false f =
          multiple_round s sl (unlike t u) (k * up e * down d) (n * up d * down e) m
          (mul-pos (mul-pos (n_pos n n_not_zero) (up_pos d)) (down_pos e)) whole h

-- ---- one multiplier, and `==`
pub multiple_unique : (s : ℕ) (x : Float) (a b : ℤ) → Multiple s x a → Multiple s x b → a ≡ b
multiple_unique s nan a b p q = elim p [ ]
multiple_unique s (inf _) a b p q = elim p [ ]
multiple_unique s (fin t k e) a b p q = *ℤ-cancel-r a b (pos (down e)) (down-nonzero e) (sym p ∙ q)

size_same : (s t : Bool) (a b : ℕ) → signed s a ≡ signed t b → a ≡ b
size_same s t a b h = sym (nat_abs_signed s a) ∙ ap nat_abs h ∙ nat_abs_signed t b

opposite : (a : ℕ) → pos a ≡ neg_ℤ (pos a) → a ≡ 0
opposite zero h = refl
opposite (suc a) h = absurd (pos-ne-negsuc (suc a) a h)

zeros : (s t : Bool) (a b : ℕ) → a ≡ b → a ≡ 0 → signed s a ≡ signed t b
zeros s t a b e z = ap (signed s) z ∙ signed_zero s ∙ sym (ap (signed t) (sym e ∙ z) ∙ signed_zero t)

signed_level : (s t : Bool) (a b : ℕ) → signed s a ≡ signed t b → T (level s a t b)
signed_level false false a b h = and_i (eqb a b) true (eq→eqb (size_same false false a b h)) tt
signed_level true true a b h = and_i (eqb a b) true (eq→eqb (size_same true true a b h)) tt
signed_level false true a b h =
    let e = size_same false true a b h in
    and_i (eqb a b) (eqb a 0) (eq→eqb e) (eq→eqb (opposite a (h ∙ ap (λ (x : ℕ). neg_ℤ (pos x)) (sym e))))
signed_level true false a b h =
    let e = size_same true false a b h in
    and_i (eqb a b) (eqb a 0) (eq→eqb e) (eq→eqb (opposite a (ap pos e ∙ sym h)))

level_signed : (s t : Bool) (a b : ℕ) → T (level s a t b) → signed s a ≡ signed t b
level_signed false false a b h = ap pos (eqb→eq a b (and_l (eqb a b) true h))
level_signed true true a b h = ap (λ (x : ℕ). neg_ℤ (pos x)) (eqb→eq a b (and_l (eqb a b) true h))
level_signed false true a b h = zeros false true a b (eqb→eq a b (and_l (eqb a b) (eqb a 0) h)) (eqb→eq a 0 (and_r (eqb a b) (eqb a 0) h))
level_signed true false a b h = zeros true false a b (eqb→eq a b (and_l (eqb a b) (eqb a 0) h)) (eqb→eq a 0 (and_r (eqb a b) (eqb a 0) h))

-- floats of one value are equal
pub multiple_eq : (s : ℕ) (x y : Float) (m : ℤ) → Multiple s x m → Multiple s y m → T (eq x y)
unfolding eq
multiple_eq s nan y m p q = elim p [ ]
multiple_eq s (inf _) y m p q = elim p [ ]
multiple_eq s (fin t k e) nan m p q = elim q [ ]
multiple_eq s (fin t k e) (inf _) m p q = elim q [ ]
multiple_eq s (fin t k e) (fin u n d) m p q =
    signed_level t u (k * up e * down d) (n * up d * down e)
    (signed_scale t (k * up e) (down d)
    ∙ common_equal (signed t (k * up e)) (signed u (n * up d)) (pos (2 ^ s)) (pos (down e)) (pos (down d)) m m p q (unit_nonzero s) refl
    ∙ sym (signed_scale u (n * up d) (down e)))

-- equal floats have one value
pub eq_multiple : (s : ℕ) (x y : Float) (a b : ℤ) → Multiple s x a → Multiple s y b → T (eq x y) → a ≡ b
unfolding eq
eq_multiple s nan y a b p q h = elim p [ ]
eq_multiple s (inf _) y a b p q h = elim p [ ]
eq_multiple s (fin t k e) nan a b p q h = elim q [ ]
eq_multiple s (fin t k e) (inf _) a b p q h = elim q [ ]
eq_multiple s (fin t k e) (fin u n d) a b p q h =
    equal_common (signed t (k * up e)) (signed u (n * up d)) (pos (2 ^ s)) (pos (down e)) (pos (down d)) a b p q
    (*ℤ-nonzero (pos (down e)) (pos (down d)) (down-nonzero e) (down-nonzero d))
    (sym (signed_scale t (k * up e) (down d)) ∙ level_signed t u (k * up e * down d) (n * up d * down e) h ∙ signed_scale u (n * up d) (down e))
