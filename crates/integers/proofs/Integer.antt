-- Laws of specs/Integer.antt.
use Rattle.std.specs.Prelude.{◌≡◌, refl, Bool, true, false, not, ◌⊎◌, ◌≢◌, ℕ, zero, suc, ◌*◌, ◌-◌, ◌≤◌, ◌<◌, ℤ, pos, negsuc, neg_ℤ, nat_abs, ◌+ℤ◌, ◌-ℤ◌, ◌*ℤ◌}
use Rattle.std.proofs.Common.{sym, ◌∙◌, ap, ap₂, subst, inl, inr, sub-add_cancel, suc-ne-zero, eq-zero-or-pos, lt_irrefl, zero-mul}
use Rattle.std.proofs.Math.Nat.{eq_of_mul-eq-mul_right}
use Rattle.std.proofs.Math.IntN.{suc_ℤ, pred_ℤ, +ℤ_assoc, +ℤ_comm, +ℤ_idl, +ℤ_invr, +ℤ-neg_ℤ_cancel, neg_ℤ-+ℤ, neg_ℤ-neg_ℤ, suc_ℤ-*ℤ, pred_ℤ-*ℤ, suc_ℤ-+ℤ, pred_ℤ-+ℤ, *ℤ_comm, zero-*ℤ}
use Rattle.std.specs.Float.Ieee.{unlike}
use Rattle.integers.specs.Integer.{signed}

-- ---- sums
pub +ℤ-left-comm : (a b c : ℤ) → a +ℤ (b +ℤ c) ≡ b +ℤ (a +ℤ c)
+ℤ-left-comm a b c = sym (+ℤ_assoc a b c) ∙ ap (λ (x : ℤ). x +ℤ c) (+ℤ_comm a b) ∙ +ℤ_assoc b a c

pub +ℤ-right-comm : (a b c : ℤ) → a +ℤ b +ℤ c ≡ a +ℤ c +ℤ b
+ℤ-right-comm a b c = +ℤ_assoc a b c ∙ ap (λ (x : ℤ). a +ℤ x) (+ℤ_comm b c) ∙ sym (+ℤ_assoc a c b)

pub +ℤ-interchange : (a b c d : ℤ) → (a +ℤ b) +ℤ (c +ℤ d) ≡ (a +ℤ c) +ℤ (b +ℤ d)
+ℤ-interchange a b c d = +ℤ_assoc a b (c +ℤ d) ∙ ap (λ (x : ℤ). a +ℤ x) (+ℤ-left-comm b c d) ∙ sym (+ℤ_assoc a c (b +ℤ d))

pub +ℤ-cancel-r : (c : ℤ) {a b : ℤ} → a +ℤ c ≡ b +ℤ c → a ≡ b
+ℤ-cancel-r c {a} {b} e = sym (+ℤ-neg_ℤ_cancel a c) ∙ ap (λ (x : ℤ). x -ℤ c) e ∙ +ℤ-neg_ℤ_cancel b c

pub +ℤ-cancel-l : (c : ℤ) {a b : ℤ} → c +ℤ a ≡ c +ℤ b → a ≡ b
+ℤ-cancel-l c {a} {b} e = +ℤ-cancel-r c (+ℤ_comm a c ∙ e ∙ +ℤ_comm c b)

-- ---- a product distributes over a sum
pub +ℤ-*ℤ : (a b c : ℤ) → (a +ℤ b) *ℤ c ≡ a *ℤ c +ℤ b *ℤ c
+ℤ-*ℤ (pos zero) b c = ap (λ (x : ℤ). x *ℤ c) (+ℤ_idl b) ∙ sym (ap (λ (x : ℤ). x +ℤ b *ℤ c) (zero-*ℤ c) ∙ +ℤ_idl (b *ℤ c))
+ℤ-*ℤ (pos (suc n)) b c = up (pos n) b c (+ℤ-*ℤ (pos n) b c)
  where
    up : (a b c : ℤ) → (a +ℤ b) *ℤ c ≡ a *ℤ c +ℤ b *ℤ c → (suc_ℤ a +ℤ b) *ℤ c ≡ suc_ℤ a *ℤ c +ℤ b *ℤ c
    up a b c h =
        ap (λ (x : ℤ). x *ℤ c) (suc_ℤ-+ℤ a b) ∙ suc_ℤ-*ℤ (a +ℤ b) c ∙ ap (λ (x : ℤ). x +ℤ c) h
        ∙ +ℤ-right-comm (a *ℤ c) (b *ℤ c) c ∙ ap (λ (x : ℤ). x +ℤ b *ℤ c) (sym (suc_ℤ-*ℤ a c))
+ℤ-*ℤ (negsuc zero) b c =
    ap (λ (x : ℤ). x *ℤ c) (pred_ℤ-+ℤ (pos zero) b ∙ ap pred_ℤ (+ℤ_idl b)) ∙ pred_ℤ-*ℤ b c ∙ +ℤ_comm (b *ℤ c) (neg_ℤ c)
    ∙ ap (λ (x : ℤ). x +ℤ b *ℤ c) (sym (pred_ℤ-*ℤ (pos zero) c ∙ ap (λ (x : ℤ). x +ℤ neg_ℤ c) (zero-*ℤ c) ∙ +ℤ_idl (neg_ℤ c)))
+ℤ-*ℤ (negsuc (suc n)) b c = down (negsuc n) b c (+ℤ-*ℤ (negsuc n) b c)
  where
    down : (a b c : ℤ) → (a +ℤ b) *ℤ c ≡ a *ℤ c +ℤ b *ℤ c → (pred_ℤ a +ℤ b) *ℤ c ≡ pred_ℤ a *ℤ c +ℤ b *ℤ c
    down a b c h =
        ap (λ (x : ℤ). x *ℤ c) (pred_ℤ-+ℤ a b) ∙ pred_ℤ-*ℤ (a +ℤ b) c ∙ ap (λ (x : ℤ). x -ℤ c) h
        ∙ +ℤ-right-comm (a *ℤ c) (b *ℤ c) (neg_ℤ c) ∙ ap (λ (x : ℤ). x +ℤ b *ℤ c) (sym (pred_ℤ-*ℤ a c))

pub *ℤ-+ℤ : (a b c : ℤ) → a *ℤ (b +ℤ c) ≡ a *ℤ b +ℤ a *ℤ c
*ℤ-+ℤ a b c = *ℤ_comm a (b +ℤ c) ∙ +ℤ-*ℤ b c a ∙ ap₂ ◌+ℤ◌ (*ℤ_comm b a) (*ℤ_comm c a)

-- ---- negation, and a product of three
-- what is added to a to give 0 is -a
pub negℤ_unique : (a b : ℤ) → a +ℤ b ≡ pos zero → b ≡ neg_ℤ a
negℤ_unique a b e = +ℤ-cancel-l a (e ∙ sym (+ℤ_invr a))

pub negℤ_*ℤ : (a b : ℤ) → neg_ℤ a *ℤ b ≡ neg_ℤ (a *ℤ b)
negℤ_*ℤ a b = negℤ_unique (a *ℤ b) (neg_ℤ a *ℤ b) (sym (+ℤ-*ℤ a (neg_ℤ a) b) ∙ ap (λ (x : ℤ). x *ℤ b) (+ℤ_invr a) ∙ zero-*ℤ b)

pub *ℤ-negℤ : (a b : ℤ) → a *ℤ neg_ℤ b ≡ neg_ℤ (a *ℤ b)
*ℤ-negℤ a b = *ℤ_comm a (neg_ℤ b) ∙ negℤ_*ℤ b a ∙ ap neg_ℤ (*ℤ_comm b a)

pub *ℤ-idl : (a : ℤ) → pos 1 *ℤ a ≡ a
*ℤ-idl a = suc_ℤ-*ℤ (pos zero) a ∙ ap (λ (x : ℤ). x +ℤ a) (zero-*ℤ a) ∙ +ℤ_idl a

pub *ℤ-idr : (a : ℤ) → a *ℤ pos 1 ≡ a
*ℤ-idr a = *ℤ_comm a (pos 1) ∙ *ℤ-idl a

pub *ℤ-assoc : (a b c : ℤ) → a *ℤ b *ℤ c ≡ a *ℤ (b *ℤ c)
*ℤ-assoc (pos zero) b c = ap (λ (x : ℤ). x *ℤ c) (zero-*ℤ b) ∙ zero-*ℤ c ∙ sym (zero-*ℤ (b *ℤ c))
*ℤ-assoc (pos (suc n)) b c = up (pos n) b c (*ℤ-assoc (pos n) b c)
  where
    up : (a b c : ℤ) → a *ℤ b *ℤ c ≡ a *ℤ (b *ℤ c) → suc_ℤ a *ℤ b *ℤ c ≡ suc_ℤ a *ℤ (b *ℤ c)
    up a b c h = ap (λ (x : ℤ). x *ℤ c) (suc_ℤ-*ℤ a b) ∙ +ℤ-*ℤ (a *ℤ b) b c ∙ ap (λ (x : ℤ). x +ℤ b *ℤ c) h ∙ sym (suc_ℤ-*ℤ a (b *ℤ c))
*ℤ-assoc (negsuc zero) b c = ap (λ (x : ℤ). x *ℤ c) (minus b) ∙ negℤ_*ℤ b c ∙ sym (minus (b *ℤ c))
  where
    minus : (a : ℤ) → negsuc zero *ℤ a ≡ neg_ℤ a
    minus a = negℤ_*ℤ (pos 1) a ∙ ap neg_ℤ (*ℤ-idl a)
*ℤ-assoc (negsuc (suc n)) b c = down (negsuc n) b c (*ℤ-assoc (negsuc n) b c)
  where
    down : (a b c : ℤ) → a *ℤ b *ℤ c ≡ a *ℤ (b *ℤ c) → pred_ℤ a *ℤ b *ℤ c ≡ pred_ℤ a *ℤ (b *ℤ c)
    down a b c h =
        ap (λ (x : ℤ). x *ℤ c) (pred_ℤ-*ℤ a b) ∙ +ℤ-*ℤ (a *ℤ b) (neg_ℤ b) c
        ∙ ap₂ ◌+ℤ◌ h (negℤ_*ℤ b c) ∙ sym (pred_ℤ-*ℤ a (b *ℤ c))

pub *ℤ-left-comm : (a b c : ℤ) → a *ℤ (b *ℤ c) ≡ b *ℤ (a *ℤ c)
*ℤ-left-comm a b c = sym (*ℤ-assoc a b c) ∙ ap (λ (x : ℤ). x *ℤ c) (*ℤ_comm a b) ∙ *ℤ-assoc b a c

-- ---- the difference
-- a = c - b where c = a + b
pub minus-of_sum : (a b c : ℤ) → a +ℤ b ≡ c → a ≡ c -ℤ b
minus-of_sum a b c e = sym (+ℤ-neg_ℤ_cancel a b) ∙ ap (λ (x : ℤ). x -ℤ b) e

pub pos_minus_pos : (a b : ℕ) → b ≤ a → pos a -ℤ pos b ≡ pos (a - b)
pos_minus_pos a b h = sym (minus-of_sum (pos (a - b)) (pos b) (pos a) (ap pos (sub-add_cancel h)))

pub pos_minus-larger : (a b : ℕ) → a ≤ b → pos a -ℤ pos b ≡ neg_ℤ (pos (b - a))
pos_minus-larger a b h =
    sym (ap neg_ℤ (sym (pos_minus_pos b a h)) ∙ neg_ℤ-+ℤ (pos b) (neg_ℤ (pos a)) ∙ +ℤ_comm (neg_ℤ (pos b)) (neg_ℤ (neg_ℤ (pos a)))
    ∙ ap (λ (x : ℤ). x +ℤ neg_ℤ (pos b)) (neg_ℤ-neg_ℤ (pos a)))

-- ---- signs and sizes
pub signed_* : (s t : Bool) (a b : ℕ) → signed (unlike s t) (a * b) ≡ signed s a *ℤ signed t b
signed_* false false a b = refl
signed_* false true a b = sym (*ℤ-negℤ (pos a) (pos b))
signed_* true false a b = sym (negℤ_*ℤ (pos a) (pos b))
signed_* true true a b = sym (negℤ_*ℤ (pos a) (neg_ℤ (pos b)) ∙ ap neg_ℤ (*ℤ-negℤ (pos a) (pos b)) ∙ neg_ℤ-neg_ℤ (pos (a * b)))

pub signed-not : (s : Bool) (a : ℕ) → signed (not s) a ≡ neg_ℤ (signed s a)
signed-not false a = refl
signed-not true a = sym (neg_ℤ-neg_ℤ (pos a))

pub nat_abs_neg : (z : ℤ) → nat_abs (neg_ℤ z) ≡ nat_abs z
nat_abs_neg (pos zero) = refl
nat_abs_neg (pos (suc n)) = refl
nat_abs_neg (negsuc n) = refl

pub nat_abs_signed : (s : Bool) (a : ℕ) → nat_abs (signed s a) ≡ a
nat_abs_signed false a = refl
nat_abs_signed true a = nat_abs_neg (pos a)

pub nat_abs_* : (a b : ℤ) → nat_abs (a *ℤ b) ≡ nat_abs a * nat_abs b
nat_abs_* (pos a) (pos b) = refl
nat_abs_* (pos a) (negsuc b) = nat_abs_neg (pos (a * suc b))
nat_abs_* (negsuc a) (pos b) = nat_abs_neg (pos (suc a * b))
nat_abs_* (negsuc a) (negsuc b) = refl

-- a natural number with a sign, times one with none
pub signed_scale : (s : Bool) (a b : ℕ) → signed s (a * b) ≡ signed s a *ℤ pos b
signed_scale false a b = refl
signed_scale true a b = sym (negℤ_*ℤ (pos a) (pos b))

pub signed_zero : (s : Bool) → signed s 0 ≡ pos 0
signed_zero false = refl
signed_zero true = refl

-- ---- what is not zero can be cancelled
pub nat_abs_zero : (z : ℤ) → nat_abs z ≡ 0 → z ≡ pos 0
nat_abs_zero (pos n) e = ap pos e
nat_abs_zero (negsuc n) e = absurd (suc-ne-zero n e)

pub nat_abs_pos : (z : ℤ) → z ≢ pos 0 → 0 < nat_abs z
nat_abs_pos z h = go (eq-zero-or-pos (nat_abs z))
  where
    go : (nat_abs z ≡ 0) ⊎ (0 < nat_abs z) → 0 < nat_abs z
    go (inl e) = absurd (h (nat_abs_zero z e))
    go (inr p) = p

pub pos_nonzero : (n : ℕ) → 0 < n → pos n ≢ pos 0
pos_nonzero n h e = lt_irrefl 0 (subst (λ (x : ℕ). 0 < x) (ap nat_abs e) h)

pub *ℤ-zero-cancel : (a c : ℤ) → c ≢ pos 0 → a *ℤ c ≡ pos 0 → a ≡ pos 0
*ℤ-zero-cancel a c h e =
    nat_abs_zero a
    (eq_of_mul-eq-mul_right (nat_abs c) (nat_abs_pos c h) (nat_abs a) 0 (sym (nat_abs_* a c) ∙ ap nat_abs e ∙ sym (zero-mul (nat_abs c))))

pub *ℤ-cancel-r : (a b c : ℤ) → c ≢ pos 0 → a *ℤ c ≡ b *ℤ c → a ≡ b
*ℤ-cancel-r a b c h e =
    +ℤ-cancel-r (neg_ℤ b)
    (*ℤ-zero-cancel (a -ℤ b) c h (+ℤ-*ℤ a (neg_ℤ b) c ∙ ap₂ ◌+ℤ◌ e (negℤ_*ℤ b c) ∙ +ℤ_invr (b *ℤ c)) ∙ sym (+ℤ_invr b))

pub *ℤ-cancel-l : (a b c : ℤ) → c ≢ pos 0 → c *ℤ a ≡ c *ℤ b → a ≡ b
*ℤ-cancel-l a b c h e = *ℤ-cancel-r a b c h (*ℤ_comm a c ∙ e ∙ *ℤ_comm c b)

pub *ℤ-nonzero : (a b : ℤ) → a ≢ pos 0 → b ≢ pos 0 → a *ℤ b ≢ pos 0
*ℤ-nonzero a b p q e = p (*ℤ-zero-cancel a b q e)

-- products in one order: `simp products` sorts both sides alike
pub ruleset products = (*ℤ-assoc, *ℤ_comm, *ℤ-left-comm)

-- a few arrangements, for terms that compute
pub *ℤ-right-comm : (a b c : ℤ) → a *ℤ b *ℤ c ≡ a *ℤ c *ℤ b
*ℤ-right-comm a b c = simp products

pub *ℤ-interchange : (a b c d : ℤ) → (a *ℤ b) *ℤ (c *ℤ d) ≡ (a *ℤ c) *ℤ (b *ℤ d)
*ℤ-interchange a b c d = simp products
