-- Laws of specs/Decimal.antt.
use Rattle.std.specs.Prelude.{ℕ, zero, suc, ◌+◌, ◌-◌, ◌/◌, ◌%◌, ◌≤◌, ◌<◌, ◌≡◌, refl, Bool, true, false, cond, List, [], ◌∷◌, ◌++◌, ltb, length, get_or}
use Rattle.std.proofs.Common.{arith, ap, ◌∙◌, length-append, ltb-true, ltb-false, lt-ltb, le-ltb, le-leb}
use Rattle.std.proofs.Math.ListN.{get_or-append}
use Rattle.lists.specs.Every.{every}
use Rattle.lists.specs.Test.{and_both}
use Rattle.matrix_market.specs.Text.{is_digit, numeral}
use Rattle.matrix_market.proofs.Text.{numeral_last}
use Rattle.matrix_market.proofs.Members.{every_both}
use Rattle.matrix_market.specs.Decimal.{digits_within, decimal}

-- ---- a digit, and a digit more
fuel_of : (b : Bool) (k m n : ℕ) → ltb n 10 ≡ b → (10 ≤ n → digits_within k (n / 10) ≡ digits_within m (n / 10))
    → cond b ((48 + n) ∷ []) (digits_within k (n / 10) ++ ((48 + n % 10) ∷ [])) ≡ cond b ((48 + n) ∷ []) (digits_within m (n / 10) ++ ((48 + n % 10) ∷ []))
fuel_of true k m n e h = refl
fuel_of false k m n e h = ap (λ (l : List ℕ). l ++ ((48 + n % 10) ∷ [])) (h (ltb-false n 10 e))

-- more room gives no other digits
fuel_same : (k m n : ℕ) → n < k → n < m → digits_within k n ≡ digits_within m n
unfolding digits_within
fuel_same zero m n h l = absurd (omega arith)
fuel_same (suc k) zero n h l = absurd (omega arith)
fuel_same (suc k) (suc m) n h l = fuel_of (ltb n 10) k m n refl (λ g. fuel_same k m (n / 10) (omega arith) (omega arith))

pub decimal_one : (n : ℕ) → n < 10 → decimal n ≡ (48 + n) ∷ []
unfolding decimal digits_within
decimal_one n h = rw (lt-ltb n 10 h)

pub decimal_more : (n : ℕ) → 10 ≤ n → decimal n ≡ decimal (n / 10) ++ ((48 + n % 10) ∷ [])
unfolding decimal digits_within
decimal_more n h =
    ap (λ (b : Bool). cond b ((48 + n) ∷ []) (digits_within n (n / 10) ++ ((48 + n % 10) ∷ []))) (le-ltb n 10 h)
    ∙ ap (λ (l : List ℕ). l ++ ((48 + n % 10) ∷ [])) (fuel_same n (suc (n / 10)) (n / 10) (omega arith) (omega arith))

-- ---- what a number has by its digits: said of numbers below 10, and of n if of n / 10
module _ (P : ℕ → Type 0) (few : (n : ℕ) → n < 10 → P n) (more : (n : ℕ) → 10 ≤ n → P (n / 10) → P n) where
  by_room : (k n : ℕ) → n < k → P n
  by_room zero n h = absurd (omega arith)
  by_room (suc k) n h = of (ltb n 10) refl (λ g. by_room k (n / 10) (omega arith))
    where
      of : (b : Bool) → ltb n 10 ≡ b → (10 ≤ n → P (n / 10)) → P n
      of true e r = few n (ltb-true n 10 e)
      of false e r = more n (ltb-false n 10 e) (r (ltb-false n 10 e))

  pub by_digits : (n : ℕ) → P n
  by_digits n = by_room (suc n) n (omega arith)

-- ---- laws
digit_byte : (d : ℕ) → d < 10 → is_digit (48 + d) ≡ true
unfolding is_digit
digit_byte d h = and_both _ _ (le-leb 48 (48 + d) (omega arith)) (le-leb (48 + d) 57 (omega arith))

-- they are digits
pub decimal_digits : (n : ℕ) → every is_digit (decimal n) ≡ true
unfolding every
decimal_digits =
    by_digits (λ n. every is_digit (decimal n) ≡ true)
    (λ n h. ap (every is_digit) (decimal_one n h) ∙ and_both _ _ (digit_byte n h) refl)
    (λ n h r. ap (every is_digit) (decimal_more n h) ∙ every_both is_digit (decimal (n / 10)) _ r (and_both _ _ (digit_byte (n % 10) (omega arith)) refl))

-- at least one
pub decimal_some : (n : ℕ) → 0 < length (decimal n)
decimal_some =
    by_digits (λ n. 0 < length (decimal n))
    (λ n h. omega (arith, ap length (decimal_one n h)))
    (λ n h r. omega (arith, ap length (decimal_more n h), length-append (decimal (n / 10)) ((48 + n % 10) ∷ [])))

-- and few
pub decimal_most : (n : ℕ) → length (decimal n) ≤ n + 1
decimal_most =
    by_digits (λ n. length (decimal n) ≤ n + 1)
    (λ n h. omega (arith, ap length (decimal_one n h)))
    (λ n h r. omega (arith, ap length (decimal_more n h), length-append (decimal (n / 10)) ((48 + n % 10) ∷ [])))

-- the reader's number of them is n
pub numeral-decimal : (n : ℕ) → numeral 0 (decimal n) ≡ n
unfolding numeral
numeral-decimal =
    by_digits (λ n. numeral 0 (decimal n) ≡ n)
    (λ n h. ap (numeral 0) (decimal_one n h) ∙ omega arith)
    (λ n h r. ap (numeral 0) (decimal_more n h) ∙ numeral_last (decimal (n / 10)) 0 (48 + n % 10) ∙ omega arith)

-- no leading zero: the first digit of a number above 0 is above that of 0
pub decimal_leads : (n : ℕ) → 0 < n → 48 < get_or (decimal n) 0 0
decimal_leads =
    by_digits (λ n. 0 < n → 48 < get_or (decimal n) 0 0)
    (λ n h l. omega (arith, ap (λ (d : List ℕ). get_or d 0 0) (decimal_one n h)))
    (λ n h r l.
    omega (
      arith,
      ap (λ (d : List ℕ). get_or d 0 0) (decimal_more n h),
      get_or-append (decimal (n / 10)) ((48 + n % 10) ∷ []) 0 0 (decimal_some (n / 10)),
      r (omega arith),
    ))

-- how many there are, digit by digit
pub decimal_short : (n : ℕ) → n < 10 → length (decimal n) ≡ 1
decimal_short n h = ap length (decimal_one n h)

pub decimal_longer : (n : ℕ) → 10 ≤ n → length (decimal n) ≡ length (decimal (n / 10)) + 1
decimal_longer n h = ap length (decimal_more n h) ∙ length-append (decimal (n / 10)) ((48 + n % 10) ∷ [])

-- a number from 10 on has no more digits than itself
pub decimal_less : (n : ℕ) → 10 ≤ n → length (decimal n) ≤ n
decimal_less n h = omega (arith, decimal_longer n h, decimal_most (n / 10))
