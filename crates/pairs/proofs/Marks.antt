-- Laws of specs/Marks.antt.
use Rattle.std.specs.Prelude.{ℕ, ◌+◌, ◌-◌, ◌/◌, ◌≤◌, ◌<◌, ◌≡◌, refl, Bool, false, ◌||◌, List, eqb, length, get_or}
use Rattle.std.proofs.Common.{arith, sym, ap, ap₂, ◌∙◌, length-set, eqb-true, eq-eqb}
use Rattle.std.proofs.Math.Bool.{or-false, or_assoc}
use Rattle.lists.specs.Test.{and_left, and_right, and_both, same_truth}
use Rattle.lists.specs.Sum.{bit, sum_to, sum_to_eq}
use Rattle.lists.specs.Select.{tally, tally_sum}
use Rattle.bits.specs.Bits.{bit_at, with_bit}
use Rattle.bits.proofs.Bits.{bit-clear, bit_set, word_below}
use Rattle.pairs.specs.Pair.{pair_total, row_place, pair_count}
use Rattle.pairs.proofs.Pair.{row_place_below, row_place_same, pair_count_sum}
use Rattle.pairs.specs.Scratch.{mark_words}
use Rattle.pairs.specs.Marks.{marking, HasMark, either, single, Agree, Added, MarkPairInput}

-- ---- the marks of all pairs of n columns

module _ (n : ℕ) (s : List ℕ) where
  pub pair_marked : length s ≡ mark_words n → (r c : ℕ) → c ≤ r → r < n → HasMark s r c
  pair_marked e r c h l = omega (arith, word_below (row_place r c) (pair_total n) (row_place_below r c n h l))

  -- the bits that are set are as many as the pairs of the set
  pub marks_count : tally (bit_at s) 0 (pair_total n) ≡ pair_count n (marking s)
  marks_count =
      let z : pair_total n - 0 ≡ pair_total n = omega arith in
      tally_sum (bit_at s) 0 (pair_total n) ∙ ap (sum_to (λ i. bit (bit_at s (0 + i)))) z
      ∙ sum_to_eq _ _ (pair_total n) (λ i _. let q : 0 + i ≡ i = omega arith in ap (λ (k : ℕ). bit (bit_at s k)) q)
      ∙ sym (pair_count_sum n (marking s) (λ p. bit (bit_at s p)) (λ r c h l. refl))

-- words that are 0 mark no pair
pub marking_none : (s : List ℕ) → ((p : ℕ) → p < length s → get_or s p 0 ≡ 0) → (r c : ℕ) → HasMark s r c → marking s r c ≡ false
marking_none s z r c l = bit-clear s (row_place r c) (z (row_place r c / 32) l)

-- ---- sets of pairs, added one after the other

pub added_none : (s : List ℕ) (new : ℕ → ℕ → Bool) → Agree new (λ r c. false) → Added new s s
added_none s new none = record {
  sets = λ r c h. sym (ap (λ (b : Bool). marking s r c || b) (none r c h) ∙ or-false (marking s r c));
  long = refl;
}

pub added_also : {A B new : ℕ → ℕ → Bool} {s s' s'' : List ℕ} → Added A s s' → Added B s' s'' → Agree new (either A B) → Added new s s''
added_also {A} {B} {new} {s} {s'} {s''} P Q e = record {
  sets = λ r c h.
      Q.sets r c h ∙ ap (λ (b : Bool). b || B r c) (P.sets r c h) ∙ or_assoc (marking s r c) (A r c) (B r c)
      ∙ ap (λ (b : Bool). marking s r c || b) (sym (e r c h));
  long = Q.long ∙ P.long;
}

pub added_agree : {A new : ℕ → ℕ → Bool} {s s' : List ℕ} → Added A s s' → Agree new A → Added new s s'
added_agree {A} {new} {s} P e = record {
  sets = λ r c h. P.sets r c h ∙ ap (λ (b : Bool). marking s r c || b) (sym (e r c h));
  long = P.long;
}

-- a place is one pair's
place_single : (a b r c : ℕ) → b ≤ a → c ≤ r → eqb (row_place a b) (row_place r c) ≡ single a b r c
place_single a b r c h l =
    same_truth _ _
    (λ e.
    let q = row_place_same a b r c h l (eqb-true _ _ e) in
    and_both _ _ (eq-eqb a r q.0) (eq-eqb b c q.1))
    (λ e. eq-eqb _ _ (ap₂ row_place (eqb-true _ _ (and_left (eqb a r) _ e)) (eqb-true _ _ (and_right (eqb a r) (eqb b c) e))))

-- what setting the bit at the pair's place does
pub added_pair : {a b : ℕ} {s : List ℕ} → MarkPairInput a b s → Added (single a b) s (with_bit s (row_place a b))
added_pair {a} {b} {s} I = record {
  sets = λ r c h.
      bit_set s (row_place a b) I.inside (row_place r c)
      ∙ ap (λ (x : Bool). marking s r c || x) (place_single a b r c I.ordered h);
  long = length-set s (row_place a b / 32) _;
}
