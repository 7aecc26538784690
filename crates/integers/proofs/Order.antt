-- The order of whole numbers by differences: laws that the library lacks, with sums and products. Assumes nothing.
use Rattle.std.specs.Prelude.{ℕ, zero, suc, ◌+◌, ◌-◌, ◌*◌, ◌<◌, ◌≡◌, refl, Bool, true, false, cond, T, ltb, ℤ, pos, negsuc, neg_ℤ, nat_abs, ◌+ℤ◌, ◌*ℤ◌, ◌≤ℤ◌}
use Rattle.std.proofs.Common.{arith, mul-le-mul, sym, ap, ap₂, subst, ◌∙◌, true≢false, leb→le, le→leb, ltb-false, le-ltb, lt-ltb, leb-false}
use Rattle.std.proofs.Math.IntN.{+ℤ_assoc, +ℤ_idr, +ℤ_invl, neg_ℤ-+ℤ, neg_ℤ-neg_ℤ}
use Rattle.std.specs.Int.Signed.{le_z, lt_z, ≤ℤ_refl}
use Rattle.integers.proofs.Integer.{+ℤ-interchange, +ℤ-cancel-l, *ℤ-+ℤ, *ℤ-negℤ, negℤ_*ℤ}
use Rattle.integers.specs.Sum.{Σℤ}

-- ---- a number and one that is n larger
pub le_more : (a : ℤ) (n : ℕ) → a ≤ℤ (a +ℤ pos n)
le_more (pos m) n = record { le = le→leb m (m + n) (omega arith) }
le_more (negsuc m) n = record { le = go (ltb n (suc m)) }
  where
    go : (b : Bool) → T (le_z (negsuc m) (cond b (negsuc (suc m - suc n)) (pos (n - suc m))))
    go true = le→leb (suc m - suc n) m (omega arith)
    go false = tt

pub le_by : {a b : ℤ} (n : ℕ) → b ≡ a +ℤ pos n → a ≤ℤ b
le_by {a} {b} n e = subst (λ (x : ℤ). a ≤ℤ x) (sym e) (le_more a n)

gap : (a b : ℤ) → T (le_z a b) → (n : ℕ) × (b ≡ a +ℤ pos n)
gap (pos m) (pos n) h =
    let l = leb→le m n h in
    let q : n ≡ m + (n - m) = omega arith in
    (n - m, ap pos q)
gap (pos m) (negsuc n) h = absurd h
gap (negsuc m) (pos n) h =
    let q : n + suc m - suc m ≡ n = omega arith in
    (n + suc m, sym (ap (λ (b : Bool). cond b (negsuc (suc m - suc (n + suc m))) (pos (n + suc m - suc m))) (le-ltb (n + suc m) (suc m) (omega arith)) ∙ ap pos q))
gap (negsuc m) (negsuc n) h =
    let l = leb→le n m h in
    let q : suc m - suc (m - n) ≡ n = omega arith in
    (m - n, sym (ap (λ (b : Bool). cond b (negsuc (suc m - suc (m - n))) (pos (m - n - suc m))) (lt-ltb (m - n) (suc m) (omega arith)) ∙ ap negsuc q))

-- how much larger
pub difference : {a b : ℤ} → a ≤ℤ b → (n : ℕ) × (b ≡ a +ℤ pos n)
difference {a} {b} h = gap a b h.le

-- ---- an order
pub ≤ℤ-trans : {a b c : ℤ} → a ≤ℤ b → b ≤ℤ c → a ≤ℤ c
≤ℤ-trans {a} {b} {c} h k =
    let p = difference h in
    let q = difference k in
    le_by (p.0 + q.0) (q.1 ∙ ap (λ (x : ℤ). x +ℤ pos q.0) p.1 ∙ +ℤ_assoc a (pos p.0) (pos q.0))

pub ≤ℤ-antisym : {a b : ℤ} → a ≤ℤ b → b ≤ℤ a → a ≡ b
≤ℤ-antisym {a} {b} h k =
    let p = difference h in
    let q = difference k in
    let e : a +ℤ pos (p.0 + q.0) ≡ a +ℤ pos 0 =
    sym (q.1 ∙ ap (λ (x : ℤ). x +ℤ pos q.0) p.1 ∙ +ℤ_assoc a (pos p.0) (pos q.0)) ∙ sym (+ℤ_idr a) in
    let z : p.0 + q.0 ≡ 0 = ap nat_abs (+ℤ-cancel-l a e) in
    let z' : p.0 ≡ 0 = omega arith in
    sym (p.1 ∙ ap (λ (n : ℕ). a +ℤ pos n) z' ∙ +ℤ_idr a)

-- a test that passed, and one that failed
pub le_yes : {a b : ℤ} → le_z a b ≡ true → a ≤ℤ b
le_yes e = record { le = subst T (sym e) tt }

no : (a b : ℤ) → le_z a b ≡ false → T (le_z b a)
no (pos a) (pos b) e = le→leb b a (let l = leb-false a b e in omega arith)
no (pos a) (negsuc b) e = tt
no (negsuc a) (pos b) e = absurd (true≢false e)
no (negsuc a) (negsuc b) e = le→leb a b (let l = leb-false b a e in omega arith)

pub le_no : (a b : ℤ) → le_z a b ≡ false → b ≤ℤ a
le_no a b e = record { le = no a b e }

-- an order is a test that passes
pub le_test : {a b : ℤ} → a ≤ℤ b → le_z a b ≡ true
le_test {a} {b} h = go (le_z a b) h.le
  where
    go : (t : Bool) → T t → t ≡ true
    go true w = refl
    go false w = absurd w

-- not below is at least
pub not_below_lem : (a b : ℤ) → lt_z b a ≡ false → a ≤ℤ b
not_below_lem a b e = record { le = go a b e }
  where
    go : (a b : ℤ) → lt_z b a ≡ false → T (le_z a b)
    go (pos a) (pos b) e = le→leb a b (ltb-false b a e)
    go (pos a) (negsuc b) e = absurd (true≢false e)
    go (negsuc a) (pos b) e = tt
    go (negsuc a) (negsuc b) e = le→leb b a (ltb-false a b e)

pub zero_le_pos : (n : ℕ) → pos 0 ≤ℤ pos n
zero_le_pos n = record { le = le→leb 0 n (omega arith) }

-- ---- sums
pub add_le : {a b c d : ℤ} → a ≤ℤ b → c ≤ℤ d → (a +ℤ c) ≤ℤ (b +ℤ d)
add_le {a} {b} {c} {d} h k =
    let p = difference h in
    let q = difference k in
    le_by (p.0 + q.0) (ap₂ ◌+ℤ◌ p.1 q.1 ∙ +ℤ-interchange a (pos p.0) c (pos q.0))

pub sum_le : (n : ℕ) (f g : ℕ → ℤ) → ((k : ℕ) → k < n → f k ≤ℤ g k) → Σℤ n f ≤ℤ Σℤ n g
sum_le zero f g h = ≤ℤ_refl (pos 0)
sum_le (suc n) f g h = add_le (sum_le n f g (λ k l. h k (omega arith))) (h n (omega arith))

-- ---- negation and products
pub neg_le : {a b : ℤ} → a ≤ℤ b → neg_ℤ b ≤ℤ neg_ℤ a
neg_le {a} {b} h =
    let p = difference h in
    le_by p.0
    (sym (ap (λ (x : ℤ). neg_ℤ x +ℤ pos p.0) p.1 ∙ ap (λ (x : ℤ). x +ℤ pos p.0) (neg_ℤ-+ℤ a (pos p.0))
    ∙ +ℤ_assoc (neg_ℤ a) (neg_ℤ (pos p.0)) (pos p.0) ∙ ap (λ (x : ℤ). neg_ℤ a +ℤ x) (+ℤ_invl (pos p.0)) ∙ +ℤ_idr (neg_ℤ a)))

-- times a number that is not negative
pub scale_le : (k : ℕ) {a b : ℤ} → a ≤ℤ b → (pos k *ℤ a) ≤ℤ (pos k *ℤ b)
scale_le k {a} {b} h =
    let p = difference h in
    le_by (k * p.0) (ap (λ (x : ℤ). pos k *ℤ x) p.1 ∙ *ℤ-+ℤ (pos k) a (pos p.0))

-- times a negative one: the ends change places
pub turn_le : (k : ℕ) {a b : ℤ} → a ≤ℤ b → (negsuc k *ℤ b) ≤ℤ (negsuc k *ℤ a)
turn_le k {a} {b} h =
    subst (λ (x : ℤ). x ≤ℤ (negsuc k *ℤ a)) (sym (negℤ_*ℤ (pos (suc k)) b))
    (subst (λ (x : ℤ). neg_ℤ (pos (suc k) *ℤ b) ≤ℤ x) (sym (negℤ_*ℤ (pos (suc k)) a)) (neg_le (scale_le (suc k) h)))

-- ---- squares
pub neg_square : (a : ℤ) → neg_ℤ a *ℤ neg_ℤ a ≡ a *ℤ a
neg_square a = negℤ_*ℤ a (neg_ℤ a) ∙ ap neg_ℤ (*ℤ-negℤ a a) ∙ neg_ℤ-neg_ℤ (a *ℤ a)

squares : (a b : ℤ) → T (le_z (pos 0) a) → T (le_z a b) → T (le_z (a *ℤ a) (b *ℤ b))
squares (pos m) (pos n) z h = let l = leb→le m n h in le→leb (m * m) (n * n) (mul-le-mul l l)
squares (pos m) (negsuc n) z h = absurd h
squares (negsuc m) b z h = absurd z

-- they rise from 0 up and from 0 down
pub square_up : {a b : ℤ} → pos 0 ≤ℤ a → a ≤ℤ b → (a *ℤ a) ≤ℤ (b *ℤ b)
square_up {a} {b} z h = record { le = squares a b z.le h.le }

pub square_down : {a b : ℤ} → b ≤ℤ pos 0 → a ≤ℤ b → (b *ℤ b) ≤ℤ (a *ℤ a)
square_down {a} {b} z h =
    subst (λ (x : ℤ). (b *ℤ b) ≤ℤ x) (neg_square a) (subst (λ (x : ℤ). x ≤ℤ (neg_ℤ a *ℤ neg_ℤ a)) (neg_square b) (square_up (neg_le z) (neg_le h)))

pub square_positive : (a : ℤ) → pos 0 ≤ℤ (a *ℤ a)
square_positive (pos n) = zero_le_pos (n * n)
square_positive (negsuc n) = zero_le_pos (suc n * suc n)
