-- Laws of specs/Bits.antt.
use Rattle.std.specs.Prelude.{ℕ, zero, suc, ◌+◌, ◌-◌, ◌/◌, ◌%◌, ◌^◌, ◌≤◌, ◌<◌, ◌≡◌, refl, Bool, false, ◌||◌, ◌≢◌, List, eqb, length, get_or}
use Rattle.std.proofs.Common.{arith, div-one, one-mul, not-suc-le-zero, le_of_suc-le-suc, one-add, add-one, sym, ap, ap₂, subst, ◌∙◌, get_or-set_same, get_or-set_other, pow_pos, pow-add, shr-shr, shr_lt, eq-eqb, ne_eqb}
use Rattle.std.proofs.Math.Nat.{div-eq_of_lt}
use Rattle.std.proofs.Math.Decide.{ℕ_discrete, dec_lt}
use Rattle.std.proofs.Math.Bool.{or-true, or-false}
use Rattle.std.proofs.Math.Pow.{pow-lt}
use Rattle.std.proofs.lemmas.Nat.{shl-shr, or_shr, or_mod}
use Rattle.std.specs.Int.Count.{count_trailing_zeros, under}
use Rattle.std.specs.Int.Bits.{bit_or, or_zero_r, shifted_even}
use Rattle.bits.specs.Bits.{digit, bit_at, bit_words, with_bit, Lowest}

-- ---- a digit of a word in which one is set

power_same : (b : ℕ) → digit (2 ^ b) b ≡ 1
power_same b = ap (λ (x : ℕ). x / 2 ^ b % 2) (sym (one-mul (2 ^ b))) ∙ ap (λ (x : ℕ). x % 2) (shl-shr 1 b)

power_other : (a b : ℕ) → a ≢ b → digit (2 ^ b) a ≡ 0
power_other a b d = elim (dec_lt a b) [ yes l ↦ above l | no l ↦ below (omega arith) ]
  where
    below : b < a → digit (2 ^ b) a ≡ 0
    below l = ap (λ (x : ℕ). x % 2) (div-eq_of_lt (pow-lt l))

    above : a < b → digit (2 ^ b) a ≡ 0
    above l =
        let e : b ≡ suc (b - a - 1) + a = omega arith in
        ap (λ (x : ℕ). 2 ^ x / 2 ^ a % 2) e ∙ ap (λ (x : ℕ). x / 2 ^ a % 2) (pow-add 2 (suc (b - a - 1)) a)
        ∙ ap (λ (x : ℕ). x % 2) (shl-shr (2 ^ suc (b - a - 1)) a)
        ∙ ap (λ (x : ℕ). x % 2) (sym (one-mul (2 ^ suc (b - a - 1)))) ∙ shifted_even 1 (b - a - 1)

digit_or : (w v a : ℕ) → digit (bit_or w v) a ≡ bit_or (digit w a) (digit v a)
digit_or w v a = ap (λ (x : ℕ). x % 2) (or_shr w v a) ∙ or_mod (w / 2 ^ a) (v / 2 ^ a) 1

or_one : (x : ℕ) → x < 2 → bit_or x 1 ≡ 1
or_one zero h = refl
or_one (suc zero) h = refl
or_one (suc (suc x)) h = absurd (omega arith)

pub digit_same : (w b : ℕ) → digit (bit_or w (2 ^ b)) b ≡ 1
digit_same w b = digit_or w (2 ^ b) b ∙ ap (bit_or (digit w b)) (power_same b) ∙ or_one (digit w b) (omega arith)

pub digit_other : (w a b : ℕ) → a ≢ b → digit (bit_or w (2 ^ b)) a ≡ digit w a
digit_other w a b d = digit_or w (2 ^ b) a ∙ ap (bit_or (digit w a)) (power_other a b d) ∙ or_zero_r (digit w a)

-- ---- the digits of a shifted word, and the lowest that is 1

pub digit_zero : (b : ℕ) → digit 0 b ≡ 0
digit_zero b = ap (λ (x : ℕ). x % 2) (div-eq_of_lt (pow_pos b))

pub digit_shift : (w a b : ℕ) → digit (w / 2 ^ a) b ≡ digit w (a + b)
digit_shift w a b = ap (λ (x : ℕ). x % 2) (shr-shr w a b)

digit_first : (w : ℕ) → digit w 0 ≡ w % 2
digit_first w = ap (λ (x : ℕ). x % 2) (div-one w)

digit_next : (w b : ℕ) → digit w (suc b) ≡ digit (w / 2) b
digit_next w b = ap (digit w) (sym (one-add b)) ∙ sym (digit_shift w 1 b)

-- it stands behind the zeros at the word's end
pub trailing_lowest : (k w : ℕ) → 0 < w → w < 2 ^ k → Lowest k w (count_trailing_zeros k w)
unfolding count_trailing_zeros
trailing_lowest zero w h l = absurd (omega arith)
trailing_lowest (suc k) w h l = go (w % 2) refl (λ e. trailing_lowest k (w / 2) (omega arith) (shr_lt k 1 (subst (λ (x : ℕ). w < 2 ^ x) (sym (add-one k)) l)))
  where
    go : (r : ℕ) → w % 2 ≡ r → (w % 2 ≡ 0 → Lowest k (w / 2) (count_trailing_zeros k (w / 2))) → Lowest (suc k) w (under r (count_trailing_zeros k (w / 2)))
    go zero e rest = record {
      inside = omega (arith, (rest e).inside);
      is_one = digit_next w (count_trailing_zeros k (w / 2)) ∙ (rest e).is_one;
      below = low;
    }
      where
        low : (b : ℕ) → b < suc (count_trailing_zeros k (w / 2)) → digit w b ≡ 0
        low zero m = digit_first w ∙ e
        low (suc b) m = digit_next w b ∙ (rest e).below b (le_of_suc-le-suc m)
    go (suc r) e rest = record {
      inside = omega arith;
      is_one = digit_first w ∙ omega arith;
      below = λ b m. absurd (not-suc-le-zero m);
    }

-- ---- bits

-- a word that is 0 has no bit
pub bit-clear : (s : List ℕ) (p : ℕ) → get_or s (p / 32) 0 ≡ 0 → bit_at s p ≡ false
unfolding bit_at
bit-clear s p e = ap (λ (w : ℕ). eqb (digit w (p % 32)) 1) e ∙ ap (λ (x : ℕ). eqb x 1) (digit_zero (p % 32))

-- equal words have equal bits
pub bit_same : (s s' : List ℕ) (p : ℕ) → get_or s (p / 32) 0 ≡ get_or s' (p / 32) 0 → bit_at s p ≡ bit_at s' p
unfolding bit_at
bit_same s s' p e = ap (λ (w : ℕ). eqb (digit w (p % 32)) 1) e

-- the bits from p on in its word are the digits of the word shifted
pub bit_shifted : (s : List ℕ) (p i : ℕ) → p % 32 + i < 32 → eqb (digit (get_or s (p / 32) 0 / 2 ^ (p % 32)) i) 1 ≡ bit_at s (p + i)
unfolding bit_at
bit_shifted s p i l =
    let q : p / 32 ≡ (p + i) / 32 = omega arith in
    let m : p % 32 + i ≡ (p + i) % 32 = omega arith in
    ap (λ (x : ℕ). eqb x 1) (digit_shift (get_or s (p / 32) 0) (p % 32) i ∙ ap₂ (λ (k b : ℕ). digit (get_or s k 0) b) q m)

-- the word of a bit is among those that hold it
pub word_below : (p t : ℕ) → p < t → p / 32 < bit_words t
unfolding bit_words
word_below p t l = omega arith

pub bit_words_most : (t : ℕ) → bit_words t ≤ t
unfolding bit_words
bit_words_most t = omega arith

-- the bits of words in which bit p is set
pub bit_set : (s : List ℕ) (p : ℕ) → p / 32 < length s → (q : ℕ) → bit_at (with_bit s p) q ≡ (bit_at s q || eqb p q)
unfolding bit_at
bit_set s p l q = elim (ℕ_discrete p q) [ yes e ↦ same e | no d ↦ other d ]
  where
    new : ℕ
    new = bit_or (get_or s (p / 32) 0) (2 ^ (p % 32))

    same : p ≡ q → bit_at (with_bit s p) q ≡ (bit_at s q || eqb p q)
    same e =
        ap (bit_at (with_bit s p)) (sym e)
        ∙ ap (λ (w : ℕ). eqb (digit w (p % 32)) 1) (get_or-set_same s (p / 32) new 0 l)
        ∙ eq-eqb _ 1 (digit_same (get_or s (p / 32) 0) (p % 32))
        ∙ sym (or-true (bit_at s q)) ∙ ap (λ (b : Bool). bit_at s q || b) (sym (eq-eqb p q e))

    other : p ≢ q → bit_at (with_bit s p) q ≡ (bit_at s q || eqb p q)
    other d = kept ∙ sym (or-false (bit_at s q)) ∙ ap (λ (b : Bool). bit_at s q || b) (sym (ne_eqb p q d))
      where
        kept : bit_at (with_bit s p) q ≡ bit_at s q
        kept = elim (ℕ_discrete (q / 32) (p / 32)) [
          | yes e ↦
              ap (λ (w : ℕ). eqb (digit w (q % 32)) 1)
              (ap (λ (k : ℕ). get_or (with_bit s p) k 0) e ∙ get_or-set_same s (p / 32) new 0 l)
              ∙ ap (λ (x : ℕ). eqb x 1) (digit_other (get_or s (p / 32) 0) (q % 32) (p % 32) (λ f. d (omega arith)))
              ∙ ap (λ (k : ℕ). eqb (digit (get_or s k 0) (q % 32)) 1) (sym e)
          | no f ↦ ap (λ (w : ℕ). eqb (digit w (q % 32)) 1) (get_or-set_other s (p / 32) (q / 32) new 0 f)
        ]
