-- The ones of words are the bits that are set.
-- Assumes nothing.
use Prim.Native.Nat.{ℕ, zero, suc, ◌+◌, ◌-◌, ◌*◌, ◌/◌, ◌%◌, ◌^◌, ◌≤◌, ◌<◌}
use native.Mathlib.Omega.{arith}
use native.Mathlib.Numerals.{add-one, one-add}
use native.Mathlib.Nat.{div-one, zero-add}
use mathlib.Core.Path.{◌≡◌, refl, sym, ap, ap₂, subst, ◌∙◌}
use mathlib.Core.List.{List}
use lib.Dec.{eqb}
use lib.Count.{ones, ones_step, ones-le}
use lib.ListN.{get_or}
use lib.Pow.{shr_lt}
use Rattle.lists.specs.Sum.{bit, sum_to, sum_to_none, sum_to_add, sum_to_eq}
use Rattle.lists.specs.Select.{tally, tally_sum, tally_join, tally_none, tally_most}
use Rattle.bits.specs.Bits.{digit, bit_at, bit_words}
use Rattle.bits.proofs.Bits.{digit_shift, bit_shifted}
use Rattle.set_bits.specs.Counted.{digit_test}

single : (f : ℕ → ℕ) → sum_to f 1 ≡ f 0
unfolding sum_to
single f = zero-add (f 0)

-- the first of a sum, and the others
sum_front : (f : ℕ → ℕ) (k : ℕ) → sum_to f (suc k) ≡ f 0 + sum_to (λ i. f (suc i)) k
sum_front f k = ap (sum_to f) (sym (one-add k)) ∙ sum_to_add f 1 k ∙ ap₂ ◌+◌ (single f) (sum_to_eq _ _ k (λ i l. ap f (one-add i)))

-- the ones of a number of k digits are the sum of its digits
ones_sum : (k w : ℕ) → w < 2 ^ k → ones w ≡ sum_to (digit w) k
ones_sum zero w l =
    let z : ones w ≤ 0 = ones-le 0 w l in
    let e : ones w ≡ 0 = omega arith in
    e ∙ sym (sum_to_none (digit w))
ones_sum (suc k) w l =
    ones_step w
    ∙ ap₂ ◌+◌ (sym (ap (λ (x : ℕ). x % 2) (div-one w)))
    (ones_sum k (w / 2) (shr_lt k 1 (subst (λ (x : ℕ). w < 2 ^ x) (sym (add-one k)) l))
    ∙ sum_to_eq _ _ k (λ i m. digit_shift w 1 i ∙ ap (digit w) (one-add i)))
    ∙ sym (sum_front (digit w) k)

digit_bit : (d : ℕ) → d < 2 → d ≡ bit (eqb d 1)
digit_bit zero h = refl
digit_bit (suc zero) h = refl
digit_bit (suc (suc d)) h = absurd (omega arith)

-- those of a word shifted by k are its digits from k on
pub ones-shifted : (w k : ℕ) → k < 32 → w < 2 ^ 32 → ones (w / 2 ^ k) ≡ tally (digit_test w) k 32
ones-shifted w k l fits =
    let e : 32 - k + k ≡ 32 = omega arith in
    ones_sum (32 - k) (w / 2 ^ k) (shr_lt (32 - k) k (subst (λ (x : ℕ). w < 2 ^ x) (sym e) fits))
    ∙ sum_to_eq _ _ (32 - k) (λ i m. digit_shift w k i ∙ digit_bit (digit w (k + i)) (omega arith))
    ∙ sym (tally_sum (digit_test w) k 32)

-- the digits of a word are its bits
pub word_bits : (s : List ℕ) (w k : ℕ) → k ≤ 32 → tally (digit_test (get_or s w 0)) k 32 ≡ tally (bit_at s) (w * 32 + k) (w * 32 + 32)
word_bits s w k l =
    tally_sum (digit_test (get_or s w 0)) k 32
    ∙ sum_to_eq _ _ (32 - k) (λ i m. ap bit (same i m))
    ∙ sym (tally_sum (bit_at s) (w * 32 + k) (w * 32 + 32) ∙ ap (sum_to (λ i. bit (bit_at s (w * 32 + k + i)))) count)
  where
    count : w * 32 + 32 - (w * 32 + k) ≡ 32 - k
    count = omega arith

    same : (i : ℕ) → i < 32 - k → digit_test (get_or s w 0) (k + i) ≡ bit_at s (w * 32 + k + i)
    same i m =
        let q : w ≡ w * 32 / 32 = omega arith in
        let z : 0 ≡ w * 32 % 32 = omega arith in
        let at : w * 32 + (k + i) ≡ w * 32 + k + i = omega arith in
        ap (λ (x : ℕ). eqb (digit x (k + i)) 1) (sym (div-one (get_or s w 0)) ∙ ap₂ (λ (j b : ℕ). get_or s j 0 / 2 ^ b) q z)
        ∙ bit_shifted s (w * 32) (k + i) (omega arith) ∙ ap (bit_at s) at

-- one word more
pub ones_more : (s : List ℕ) (first w count : ℕ) → first ≤ w → count ≡ tally (bit_at s) (first * 32) (w * 32)
    → {m : ℕ} → m ≡ tally (digit_test (get_or s w 0)) 0 32 → count + m ≡ tally (bit_at s) (first * 32) ((w + 1) * 32)
ones_more s first w count l e {m} is =
    let z : w * 32 + 0 ≡ w * 32 = omega arith in
    let n : w * 32 + 32 ≡ (w + 1) * 32 = omega arith in
    ap₂ ◌+◌ e (is ∙ word_bits s w 0 (omega arith) ∙ ap₂ (tally (bit_at s)) z n)
    ∙ sym (tally_join (bit_at s) (first * 32) (w * 32) ((w + 1) * 32) (omega arith) (omega arith))

-- what is left of the word of p
pub rest_none : (s : List ℕ) (p : ℕ) → p % 32 ≡ 0 → 0 ≡ tally (bit_at s) p (bit_words p * 32)
unfolding bit_words
rest_none s p e =
    let q : p ≡ bit_words p * 32 = omega arith in
    sym (ap (tally (bit_at s) p) (sym q) ∙ tally_none (bit_at s) p)

pub rest_some : (s : List ℕ) (p : ℕ) → (p % 32 ≡ 0 → ⊥) → {m : ℕ} → m ≡ tally (digit_test (get_or s (p / 32) 0)) (p % 32) 32
    → m ≡ tally (bit_at s) p (bit_words p * 32)
unfolding bit_words
rest_some s p d {m} e =
    let q : p / 32 * 32 + p % 32 ≡ p = omega arith in
    let n : p / 32 * 32 + 32 ≡ bit_words p * 32 = omega (arith, d) in
    e ∙ word_bits s (p / 32) (p % 32) (omega arith) ∙ ap₂ (tally (bit_at s)) q n

-- the bits from p to below e: `left` are those of what is left of the word of p, `full` those of the words behind it up to that of e, `past` those from e on
module _ (s : List ℕ) (p e : ℕ) (l : p ≤ e) {left full : ℕ} (is-left : left ≡ tally (bit_at s) p (bit_words p * 32))
    (is-full : full ≡ tally (bit_at s) ((p + 31) / 32 * 32) ((e + 31) / 32 * 32)) where
  all : left + full ≡ tally (bit_at s) p e + tally (bit_at s) e (bit_words e * 32)
  unfolding bit_words
  all =
      ap₂ ◌+◌ is-left is-full ∙ sym (tally_join (bit_at s) p (bit_words p * 32) (bit_words e * 32) (omega arith) (omega arith))
      ∙ tally_join (bit_at s) p e (bit_words e * 32) l (omega arith)

  -- there are not too many
  pub count_most : left + full ≤ e + 31
  unfolding bit_words
  count_most = omega (arith, all, tally_most (bit_at s) p e, tally_most (bit_at s) e (bit_words e * 32))

  module _ {past : ℕ} (is-past : past ≡ tally (bit_at s) e (bit_words e * 32)) where
    pub count_past : past ≤ left + full
    count_past = omega (arith, all)

    pub count_is : left + full - past ≡ tally (bit_at s) p e
    count_is = omega (arith, all)
