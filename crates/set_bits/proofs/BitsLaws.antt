-- The numbers of bits, listed a word at a time.
-- Assumes nothing.
use Prim.Native.Nat.{ℕ, ◌+◌, ◌-◌, ◌*◌, ◌/◌, ◌%◌, ◌^◌, ◌≤◌, ◌<◌, min}
use native.Mathlib.Omega.{arith}
use native.Mathlib.Nat.{div-one}
use mathlib.Core.Path.{◌≡◌, refl, sym, ap, ap₂, subst, ◌∙◌}
use mathlib.Core.Bool.{Bool}
use mathlib.Core.List.{List}
use lib.Dec.{eqb}
use lib.ListN.{length, get_or}
use Rattle.lists.specs.Select.{tally, select_cong, tally_join, tally_mono}
use Rattle.bits.specs.Bits.{digit, bit_at, bit_words}
use Rattle.bits.proofs.Bits.{bit-clear, bit_shifted}
use Rattle.set_bits.specs.Zeros.{Zeros}
use Rattle.set_bits.specs.Listed.{NumbersListed}
use Rattle.set_bits.proofs.ListedLaws.{listed_none, listed_cong, listed_gap, listed_join}
use Rattle.set_bits.specs.WordNumbers.{word_test, ListWordInput}
use Rattle.set_bits.specs.BitsListed.{bits_test, BitsRoom, ListBitsInput, ListWordsInput}

-- w has the bits of the numbers from r to below e, the first being bit q, as its lowest digits
pub record WordBits (s : List ℕ) (high q r e w : ℕ) : Type 0 where
  pub later : r ≤ e
  pub below : e ≤ high
  pub within : q % 32 + (e - r) ≤ 32
  pub word : w ≡ get_or s (q / 32) 0 / 2 ^ (q % 32)

module _ {high p low first : ℕ} {list₀ s : List ℕ} (O : BitsRoom high p low first list₀ s)
    {r : ℕ} {list : List ℕ} {count : ℕ} (h : low ≤ r) (L : NumbersListed (bits_test s p low) low r first list₀ list count) where
  abbrev bits : ℕ → Bool
  bits = bits_test s p low

  -- what is left has room, under any test that agrees
  pub bits_left : {test : ℕ → Bool} {e : ℕ} → r ≤ e → e ≤ high → ((k : ℕ) → r ≤ k → k < e → test k ≡ bits k)
      → length list ≡ length list₀ → count + tally test r e ≤ length list
  bits_left {test} {e} l m same long =
      omega (
        arith,
        long,
        O.fits,
        L.count_is,
        ap length (select_cong test bits r e same),
        tally_join bits low r e h l,
        tally_mono bits low e high (omega arith) m,
      )

  module _ {q e w : ℕ} (at : q ≡ p + (r - low)) (W : WordBits s high q r e w) where
    -- the word's digits are the bits
    same : (k : ℕ) → r ≤ k → k < e → word_test w r k ≡ bits k
    same k l m =
        let z : q + (k - r) ≡ p + (k - low) = omega (arith, at) in
        ap (λ (x : ℕ). eqb (digit x (k - r)) 1) W.word ∙ bit_shifted s q (k - r) (omega (arith, W.within)) ∙ ap (bit_at s) z

    -- room for a word's numbers
    pub bits_room : length list ≡ length list₀ → ListWordInput w r e count list
    bits_room long = record {
      within = W.later;
      small = omega (arith, W.below, O.small);
      fits = bits_left W.later W.below same long;
    }

    -- one word more
    pub bits_more : {list' : List ℕ} {count' : ℕ} → NumbersListed (word_test w r) r e count list list' count'
        → NumbersListed bits low e first list₀ list' count'
    bits_more R = listed_join h L W.later (omega (arith, O.fits)) (listed_cong same R)

-- the number of the lowest bit of the word w, and the end of the numbers of those before
abbrev pub word_low : ℕ → ℕ → ℕ → ℕ
word_low word low w = low + (w - word) * 32

abbrev pub numbers_before : ℕ → ℕ → ℕ → ℕ → ℕ
numbers_before high word low w = min high (word_low word low w)

-- the numbers of the words before w are listed
pub record WordsPart (high word low first : ℕ) (list₀ s : List ℕ) (w : ℕ) (list : List ℕ) (count : ℕ) : Type 0 where
  pub from : word ≤ w
  pub upto : w ≤ word + (high - low + 31) / 32
  pub listed : NumbersListed (bits_test s (word * 32) low) low (numbers_before high word low w) first list₀ list count

module _ {high word low first : ℕ} {list₀ s : List ℕ} (O : ListWordsInput high word low first list₀ s) where
  abbrev end : ℕ
  end = word + (high - low + 31) / 32

  abbrev marked : ℕ → Bool
  marked = bits_test s (word * 32) low

  pub words_none : WordsPart high word low first list₀ s word list₀ first
  words_none = record {
    from = omega arith;
    upto = omega arith;
    listed =
        let z : low ≡ numbers_before high word low word = omega (arith, O.room.within) in
        subst (λ (e : ℕ). NumbersListed marked low e first list₀ list₀ first) z (listed_none marked low first list₀);
  }

  module _ {w : ℕ} {list : List ℕ} {count : ℕ} (P : WordsPart high word low first list₀ s w list count) where
    -- all words
    pub words_end : end ≤ w → NumbersListed marked low high first list₀ list count
    words_end l =
        let z : numbers_before high word low w ≡ high = omega (arith, O.room.within) in
        subst (λ (e : ℕ). NumbersListed marked low e first list₀ list count) z P.listed

    -- words that are 0
    pub words_skip : {k : ℕ} → Zeros s w end k → WordsPart high word low first list₀ s k list count
    words_skip {k} Z = record {
      from = omega (arith, P.from, Z.from);
      upto = Z.upto;
      listed =
          listed_gap (omega (arith, O.room.within)) P.listed (numbers_before high word low k) (omega (arith, Z.from))
          (λ i lo hi. bit-clear s (word * 32 + (i - low)) (Z.zeros _ (omega (arith, P.from, O.room.within)) (omega (arith, P.from, O.room.within))));
    }

    module _ (l : w < end) where
      -- the number of the word's lowest bit
      pub words_low : word_low word low w < high
      words_low = omega (arith, P.from, O.room.within)

      before : numbers_before high word low w ≡ word_low word low w
      before = omega (arith, words_low)

      upto_here : NumbersListed marked low (word_low word low w) first list₀ list count
      upto_here = subst (λ (e : ℕ). NumbersListed marked low e first list₀ list count) before P.listed

      place : w * 32 ≡ word * 32 + (word_low word low w - low)
      place = omega (arith, P.from)

      module _ {e : ℕ} (is : e ≡ min high (word_low word low w + 32)) where
        word_bits : WordBits s high (w * 32) (word_low word low w) e (get_or s w 0)
        word_bits =
            let q : w ≡ w * 32 / 32 = omega arith in
            let m : 0 ≡ w * 32 % 32 = omega arith in
            record {
              later = omega (arith, words_low);
              below = omega arith;
              within = omega arith;
              word = sym (div-one (get_or s w 0)) ∙ ap₂ (λ (i b : ℕ). get_or s i 0 / 2 ^ b) q m;
            }

        -- room for its numbers
        pub words_room : length list ≡ length list₀ → ListWordInput (get_or s w 0) (word_low word low w) e count list
        words_room = bits_room O.room (omega arith) upto_here place word_bits

        -- one word more
        pub words_more : {list' : List ℕ} {count' : ℕ} → NumbersListed (word_test (get_or s w 0) (word_low word low w)) (word_low word low w) e count list list' count'
            → WordsPart high word low first list₀ s (w + 1) list' count'
        words_more {list'} {count'} R =
            let z : e ≡ numbers_before high word low (w + 1) = omega (arith, P.from) in
            record {
              from = omega (arith, P.from);
              upto = omega arith;
              listed =
                  subst (λ (x : ℕ). NumbersListed marked low x first list₀ list' count') z
                  (bits_more O.room (omega arith) upto_here place word_bits R);
            }

-- ---- the numbers from any bit on

module _ {high place low first : ℕ} {list₀ s : List ℕ} (O : ListBitsInput high place low first list₀ s) where
  abbrev marks : ℕ → Bool
  marks = bits_test s place low

  -- the word of the first bit is there
  pub word_inside : place / 32 < length s
  unfolding bit_words
  word_inside = omega (arith, O.stored, O.inside)

  module _ {e w : ℕ} (is : e ≡ min high (low + (32 - place % 32))) (word : w ≡ get_or s (place / 32) 0 / 2 ^ (place % 32)) where
    first_bits : WordBits s high place low e w
    first_bits = record { later = omega (arith, O.inside); below = omega arith; within = omega arith; word = word }

    none : NumbersListed marks low low first list₀ list₀ first
    none = listed_none marks low first list₀

    at : place ≡ place + (low - low)
    at = omega arith

    -- the first word's numbers have room
    pub list_room : ListWordInput w low e first list₀
    list_room = bits_room O.room (omega arith) none at first_bits refl

    module _ {list : List ℕ} {count : ℕ} (R : NumbersListed (word_test w low) low e first list₀ list count) where
      begun : NumbersListed marks low e first list₀ list count
      begun = bits_more O.room (omega arith) none at first_bits R

      -- the other words' bits are those behind the first word's
      rest : (k : ℕ) → e ≤ k → k < high → bits_test s ((place / 32 + 1) * 32) e k ≡ marks k
      rest k l m =
          let q : (place / 32 + 1) * 32 + (k - e) ≡ place + (k - low) = omega (arith, O.inside) in
          ap (bit_at s) q

      -- and their numbers have room
      pub list_rest : length list ≡ length list₀ → ListWordsInput high (place / 32 + 1) e count list s
      unfolding bit_words
      list_rest long = record {
        room = record {
          small = O.room.small;
          within = omega arith;
          fits = bits_left O.room (omega (arith, O.inside)) begun (omega arith) (omega arith) rest long;
        };
        stored = omega (arith, O.stored, O.inside);
      }

      -- all numbers
      pub list_all : {list' : List ℕ} {count' : ℕ} → NumbersListed (bits_test s ((place / 32 + 1) * 32) e) e high count list list' count'
          → NumbersListed marks low high first list₀ list' count'
      list_all T = listed_join (omega (arith, O.inside)) begun (omega arith) (omega (arith, O.room.fits)) (listed_cong rest T)
