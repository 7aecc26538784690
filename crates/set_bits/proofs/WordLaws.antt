-- A word's numbers, listed a digit at a time.
-- Assumes nothing.
use Prim.Native.Nat.{ℕ, ◌+◌, ◌-◌, ◌/◌, ◌^◌, ◌≤◌, ◌<◌}
use native.Mathlib.Omega.{arith}
use native.Mathlib.Nat.{div-one}
use mathlib.Core.Path.{◌≡◌, sym, ap, ◌∙◌}
use mathlib.Core.Bool.{Bool, true, false}
use mathlib.Core.List.{List}
use lib.Dec.{eqb}
use lib.ListN.{length, set}
use lib.Pow.{shr-shr}
use borrow.Author.Tests.{eq-eqb}
use Rattle.bits.specs.Bits.{digit, Lowest}
use Rattle.bits.proofs.Bits.{digit_zero, digit_shift}
use Rattle.set_bits.specs.Listed.{NumbersListed}
use Rattle.set_bits.proofs.ListedLaws.{listed_none, listed_gap, listed_room, listed_more}
use Rattle.set_bits.specs.WordNumbers.{word_test, ListWordInput}

-- the word is listed up to the number r, and w is what is left of it
pub record WordPart (word low e first : ℕ) (list₀ : List ℕ) (w r : ℕ) (list : List ℕ) (count : ℕ) : Type 0 where
  pub from : low ≤ r
  pub upto : r ≤ e
  pub left : w ≡ word / 2 ^ (r - low)
  pub listed : NumbersListed (word_test word low) low r first list₀ list count

pub word_none : {word low e first : ℕ} {list : List ℕ} → ListWordInput word low e first list → WordPart word low e first list word low list first
word_none {word} {low} {e} {first} {list} O =
    let z : low - low ≡ 0 = omega arith in
    record {
      from = omega arith;
      upto = O.within;
      left = sym (ap (λ (k : ℕ). word / 2 ^ k) z ∙ div-one word);
      listed = listed_none (word_test word low) low first list;
    }

module _ {word low e first : ℕ} {list₀ : List ℕ} {w r : ℕ} {list : List ℕ} {count : ℕ} (P : WordPart word low e first list₀ w r list count) where
  abbrev test : ℕ → Bool
  test = word_test word low

  -- the digits of what is left
  left_test : (k : ℕ) → r ≤ k → test k ≡ eqb (digit w (k - r)) 1
  left_test k h =
      let q : r - low + (k - r) ≡ k - low = omega (arith, P.from) in
      ap (λ (x : ℕ). eqb x 1) (sym (ap (λ (x : ℕ). digit x (k - r)) P.left ∙ digit_shift word (r - low) (k - r) ∙ ap (digit word) q))

  none_left : w ≡ 0 → (k : ℕ) → r ≤ k → test k ≡ false
  none_left z k h = left_test k h ∙ ap (λ (x : ℕ). eqb x 1) (ap (λ (x : ℕ). digit x (k - r)) z ∙ digit_zero (k - r))

  -- nothing is left
  pub word_end : w ≡ 0 → NumbersListed test low e first list₀ list count
  word_end z = listed_gap P.from P.listed e P.upto (λ k h l. none_left z k h)

  module _ {t : ℕ} (T : Lowest 32 w t) where
    gap : (k : ℕ) → r ≤ k → k < r + t → test k ≡ false
    gap k h l = left_test k h ∙ ap (λ (x : ℕ). eqb x 1) (T.below (k - r) (omega arith))

    -- nothing is left below e
    pub word_stop : e ≤ r + t → NumbersListed test low e first list₀ list count
    word_stop l = listed_gap P.from P.listed e P.upto (λ k h m. gap k h (omega arith))

    upto_next : NumbersListed test low (r + t) first list₀ list count
    upto_next = listed_gap P.from P.listed (r + t) (omega arith) gap

    next : test (r + t) ≡ true
    next =
        let q : r + t - r ≡ t = omega arith in
        left_test (r + t) (omega arith) ∙ eq-eqb _ 1 (ap (digit w) q ∙ T.is_one)

    -- the next number has room
    pub word_room : ListWordInput word low e first list₀ → r + t < e → count < length list₀
    word_room O l = listed_room (omega (arith, P.from)) upto_next l O.fits next

    -- and is listed
    pub word_more : r + t < e → count < length list₀ → WordPart word low e first list₀ (w / 2 ^ t / 2) (r + t + 1) (set list count (r + t)) (count + 1)
    word_more l room =
        let q : r - low + t + 1 ≡ r + t + 1 - low = omega (arith, P.from) in
        record {
          from = omega (arith, P.from);
          upto = omega arith;
          left =
              ap (λ (x : ℕ). x / 2 ^ t / 2) P.left ∙ ap (λ (x : ℕ). x / 2) (shr-shr word (r - low) t) ∙ shr-shr word (r - low + t) 1
              ∙ ap (λ (k : ℕ). word / 2 ^ k) q;
          listed = listed_more (omega (arith, P.from)) upto_next next room;
        }
