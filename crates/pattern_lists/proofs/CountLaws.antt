-- The marks counted eight words at a time, runs of words that are 0 passed over.
-- Assumes nothing.
use Prim.Native.Nat.{ℕ, ◌+◌, ◌*◌, ◌/◌, ◌≤◌, min}
use native.Mathlib.Omega.{arith}
use mathlib.Core.Path.{◌≡◌, sym, ap, ap₂, ◌∙◌}
use mathlib.Core.List.{List}
use lib.ListN.{length}
use Rattle.lists.specs.Select.{tally, select_gap, tally_none, tally_join, tally_most}
use Rattle.bits.specs.Bits.{bit_at, bit_words}
use Rattle.bits.proofs.Bits.{bit-clear}
use Rattle.set_bits.specs.Zeros.{Zeros}
use Rattle.pattern_lists.specs.Listing.{CountInput}

-- the words that hold fewer bits are there
pub stored_less : {end : ℕ} {marks : List ℕ} → CountInput end marks → (e : ℕ) → e ≤ end → bit_words e ≤ length marks
unfolding bit_words
stored_less I e h = omega (arith, I.stored)

-- none behind the end
pub count_past : (end p k : ℕ) (marks : List ℕ) → end ≤ p → 0 ≡ tally (bit_at marks) (min end p) (min end (p + k))
count_past end p k marks h =
    let q : end ≡ min end p = omega arith in
    let e : end ≡ min end (p + k) = omega arith in
    sym (tally_none (bit_at marks) end) ∙ ap₂ (tally (bit_at marks)) q e

module _ (end : ℕ) (marks : List ℕ) where
  -- the bits below `end` of the words before w
  abbrev pub before : ℕ → ℕ
  before w = tally (bit_at marks) 0 (min end (w * 32))

  pub count_none : 0 ≡ before 0
  count_none =
      let q : 0 ≡ min end 0 = omega arith in
      sym (tally_none (bit_at marks) 0) ∙ ap (tally (bit_at marks) 0) q

  -- words that are 0
  count_skip : {w k : ℕ} → Zeros marks w (length marks) k → before k ≡ before w
  count_skip {w} {k} Z =
      ap length
      (select_gap (bit_at marks) 0 (min end (w * 32)) (min end (k * 32)) (omega arith) (omega (arith, Z.from))
      (λ p lo hi. bit-clear marks p (Z.zeros (p / 32) (omega arith) (omega arith))))

  -- and eight words more
  pub count_more : {w k count m : ℕ} → Zeros marks w (length marks) k → count ≡ before w → m ≡ tally (bit_at marks) (min end (k * 32)) (min end (k * 32 + 256))
      → count + m ≡ before (k + 8)
  count_more {w} {k} Z e is =
      let q : min end (k * 32 + 256) ≡ min end ((k + 8) * 32) = omega arith in
      ap₂ ◌+◌ (e ∙ sym (count_skip Z)) is
      ∙ sym (tally_join (bit_at marks) 0 (min end (k * 32)) (min end (k * 32 + 256)) (omega arith) (omega arith))
      ∙ ap (tally (bit_at marks) 0) q

  pub count_most : (w : ℕ) → before w ≤ end
  count_most w = omega (arith, tally_most (bit_at marks) 0 (min end (w * 32)))

  -- all words
  pub count_all : CountInput end marks → (w : ℕ) → length marks ≤ w → before w ≡ tally (bit_at marks) 0 end
  unfolding bit_words
  count_all I w h =
      let q : min end (w * 32) ≡ end = omega (arith, I.stored) in
      ap (tally (bit_at marks) 0) q
