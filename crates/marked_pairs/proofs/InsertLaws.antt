-- A pair inserted into the marks and the queue, and words that mark no pair.
-- Assumes nothing.
use Prim.Native.Nat.{ℕ, ◌+◌, ◌/◌, ◌≤◌, ◌<◌, min, max}
use native.Mathlib.Omega.{arith}
use native.Mathlib.Nat.{not-suc-le-zero, eq-or-lt_of_le, le_of_suc-le-suc}
use native.Mathlib.Numerals.{add-one}
use mathlib.Core.Path.{◌≡◌, refl, sym, ap, ap₂, subst, subst₂, ◌∙◌}
use mathlib.Core.Bool.{Bool, true, false, ◌&&◌, ◌||◌, or-false, false≢true}
use mathlib.Core.Logic.{⊎_elim}
use mathlib.Core.List.{List}
use lib.Dec.{eqb}
use lib.ListN.{length, get_or, set, drop, length-set}
use lib.Seq.{get_or-set_same, get_or-set_other, drop-set-lt}
use borrow.Author.Tests.{eqb-true, eq-eqb, ne_eqb}
use Rattle.lists.specs.Test.{same_truth, and_left, and_right, and_both, or_cases, or_left, or_right}
use Rattle.lists.specs.Sum.{bit, sum_to_zero, sum_to_one}
use Rattle.lists.specs.Overwrite.{cleared, filled_at, filled-length, filled_later}
use Rattle.bits.specs.Bits.{bit_at, bit_words, with_bit}
use Rattle.bits.proofs.Bits.{bit-clear, bit_same, bit_set, word_below}
use Rattle.refusal.specs.Bounds.{max_dimension}
use Rattle.pairs.specs.Pair.{pair_total, ordered}
use Rattle.pairs.proofs.Pair.{ordered_turned}
use Rattle.pairs.specs.Scratch.{queue_start, packed, row_of, column_of}
use Rattle.pairs.proofs.Scratch.{queue_start_words, queue_start_mark}
use Rattle.pairs.specs.ColumnOrder.{column_place, column_marking, set_size}
use Rattle.pairs.proofs.ColumnOrder.{column_place_below, column_place_same, set_size_sum, set_size_cong, set_size_most}
use Rattle.marked_pairs.specs.MarkedPairs.{queue_word, Queued, Marked, Gained, MarkedPairs, Inserted, also_cong}

-- ---- one pair

module _ (n a b : ℕ) (h : b ≤ a) (l : a < n) where
  -- its place is that of no other pair
  place_test : (r c : ℕ) → c ≤ r → r < n → eqb (column_place n a b) (column_place n r c) ≡ (eqb a r && eqb b c)
  place_test r c k m =
      same_truth _ _
      (λ e. let q = column_place_same n a b r c h l k m (eqb-true _ _ e) in and_both _ _ (eq-eqb a r q.0) (eq-eqb b c q.1))
      (λ e.
      eq-eqb _ _
      (ap₂ (column_place n) (eqb-true a r (and_left (eqb a r) _ e)) (eqb-true b c (and_right (eqb a r) _ e))))

  module _ (s : List ℕ) (room : queue_start n + pair_total n ≤ length s) {p : ℕ} (e : p ≡ column_place n a b) where
    pub place_word : p / 32 < length s
    place_word = omega (arith, queue_start_mark n p (omega (arith, column_place_below n a b h l)))

    -- the pair is marked
    pub gained_pair : Gained n (λ r c. eqb a r && eqb b c) s (with_bit s p)
    gained_pair = record {
      long = length-set s (p / 32) _;
      marks = λ r c k m.
          bit_set s p place_word (column_place n r c)
          ∙ ap (λ (x : Bool). column_marking n s r c || x) (ap (λ (q : ℕ). eqb q (column_place n r c)) e ∙ place_test r c k m);
      later =
          drop-set-lt (queue_start n + pair_total n) s (p / 32) _
          (omega (arith, queue_start_mark n p (omega (arith, column_place_below n a b h l))));
    }

    -- and is one more, if it was not
    pub pair_new : bit_at s p ≡ false → set_size n (column_marking n (with_bit s p)) ≡ set_size n (column_marking n s) + 1
    pair_new new =
        set_size_sum n (column_marking n (with_bit s p)) (λ q. bit (bit_at (with_bit s p) q)) (λ r c k m. refl)
        ∙ sum_to_one (λ q. bit (bit_at s q)) (λ q. bit (bit_at (with_bit s p) q)) (pair_total n) p (omega (arith, column_place_below n a b h l))
        (ap bit new)
        (ap bit (bit_set s p place_word p ∙ or_right (bit_at s p) (eqb p p) (eq-eqb p p refl)))
        (λ q m d. ap bit (bit_set s p place_word q ∙ ap (λ (x : Bool). bit_at s q || x) (ne_eqb p q (λ f. d (sym f))) ∙ or-false (bit_at s q)))
        ∙ ap (λ (k : ℕ). k + 1) (sym (set_size_sum n (column_marking n s) (λ q. bit (bit_at s q)) (λ r c k m. refl)))

-- the same for a pair given in either order
module _ (n a b : ℕ) {r c : ℕ} (high : max a b ≡ r) (low : min a b ≡ c) where
  ordered_pair : (x y : ℕ) → ordered a b x y ≡ (eqb r x && eqb c y)
  ordered_pair x y = ap₂ (λ (p q : ℕ). eqb p x && eqb q y) high low

  -- a marked pair is inserted again
  pub insert_old : {s : List ℕ} {count : ℕ} → c ≤ r → r < n → Marked n s count → bit_at s (column_place n r c) ≡ true → Inserted n a b s count s count
  insert_old {s} {count} h l M old = record {
    also = record {
      gained = record {
        long = refl;
        marks = λ x y k m. held x y (eqb r x && eqb c y) refl ∙ ap (λ (t : Bool). column_marking n s x y || t) (sym (ordered_pair x y));
        later = refl;
      };
      marked = M;
    };
    words = λ j m. refl;
    more = omega arith;
    most = omega arith;
    last = λ j. absurd (omega arith);
  }
    where
      or_same : (u v : Bool) → u ≡ true → u ≡ (u || v)
      or_same true v q = refl
      or_same false v q = absurd (false≢true q)

      held : (x y : ℕ) (t : Bool) → (eqb r x && eqb c y) ≡ t → column_marking n s x y ≡ (column_marking n s x y || (eqb r x && eqb c y))
      held x y true q =
          or_same (column_marking n s x y) _
          (ap₂ (column_marking n s) (sym (eqb-true r x (and_left (eqb r x) _ q))) (sym (eqb-true c y (and_right (eqb r x) _ q))) ∙ old)
      held x y false q = sym (or-false (column_marking n s x y)) ∙ ap (λ (t : Bool). column_marking n s x y || t) (sym q)

  -- one that is not marked is inserted: its bit and its word are written
  module _ {s : List ℕ} {count p : ℕ} (small : n ≤ max_dimension) (h : c ≤ r) (l : r < n) (M : Marked n s count) (e : p ≡ column_place n r c) (new : bit_at s p ≡ false) where
    abbrev end : ℕ
    end = queue_start n + count

    abbrev s' : List ℕ
    s' = set (with_bit s p) end (packed r c)

    G : Gained n (λ x y. eqb r x && eqb c y) s (with_bit s p)
    G = gained_pair n r c h l s M.room e

    grows : set_size n (column_marking n (with_bit s p)) ≡ set_size n (column_marking n s) + 1
    grows = pair_new n r c h l s M.room e new

    -- there is a word left
    pub end_room : count < pair_total n
    end_room = omega (arith, M.size, grows, set_size_most n (column_marking n (with_bit s p)))

    place_below : p < pair_total n
    place_below = omega (arith, column_place_below n r c h l)

    word_first : p / 32 < queue_start n
    word_first = queue_start_mark n p place_below

    -- the queue is behind the marks
    same_mark : (x y : ℕ) → y ≤ x → x < n → column_marking n s' x y ≡ column_marking n (with_bit s p) x y
    same_mark x y k m =
        let w = queue_start_mark n (column_place n x y) (column_place_below n x y k m) in
        bit_same s' (with_bit s p) (column_place n x y)
        (get_or-set_other (with_bit s p) end (column_place n x y / 32) (packed r c) 0 (omega arith))

    marks' : (x y : ℕ) → y ≤ x → x < n → column_marking n s' x y ≡ (column_marking n s x y || (eqb r x && eqb c y))
    marks' x y k m = same_mark x y k m ∙ G.marks x y k m

    words' : (j : ℕ) → j < count → queue_word n s' j ≡ queue_word n s j
    words' j m =
        get_or-set_other (with_bit s p) end (queue_start n + j) (packed r c) 0 (omega arith)
        ∙ get_or-set_other s (p / 32) (queue_start n + j) _ 0 (omega (arith, word_first))

    last_word : queue_word n s' count ≡ packed r c
    last_word = get_or-set_same (with_bit s p) end (packed r c) 0 (simp length-set (omega (arith, end_room, M.room)))

    kept : (x y : ℕ) → y ≤ x → x < n → column_marking n s x y ≡ true → column_marking n s' x y ≡ true
    kept x y k m t = marks' x y k m ∙ or_left (column_marking n s x y) _ t

    here : column_marking n s' r c ≡ true
    here = marks' r c h l ∙ or_right (column_marking n s r c) _ (and_both _ _ (eq-eqb r r refl) (eq-eqb c c refl))

    long' : length s' ≡ length s
    long' = length-set (with_bit s p) end (packed r c) ∙ G.long

    queued' : (j : ℕ) → j < count + 1 → Queued n s' (queue_word n s' j)
    queued' j m =
        ⊎_elim
        (λ q. subst (λ (i : ℕ). Queued n s' (queue_word n s' i)) (sym q) (subst (λ (w : ℕ). Queued n s' w) (sym last_word) last))
        (λ q. let Q = M.queued j q in
        subst (λ (w : ℕ). Queued n s' w) (sym (words' j q))
        (record { ordered = Q.ordered; inside = Q.inside; marked = kept _ _ Q.ordered Q.inside Q.marked }))
        (eq-or-lt_of_le (le_of_suc-le-suc (rw add-one at m)))
      where
        last : Queued n s' (packed r c)
        last =
            let q₁ : row_of (packed r c) ≡ r = omega arith in
            let q₂ : column_of (packed r c) ≡ c = omega arith in
            record { ordered = omega arith; inside = omega arith; marked = subst₂ (λ (x y : ℕ). column_marking n s' x y ≡ true) (sym q₁) (sym q₂) here }

    found' : (x y : ℕ) → y ≤ x → x < n → column_marking n s' x y ≡ true → (j : ℕ) × (j < count + 1) × (queue_word n s' j ≡ packed x y)
    found' x y k m t =
        ⊎_elim
        (λ q. let f = M.found x y k m q in (f.0, omega (arith, f.1), words' f.0 f.1 ∙ f.2))
        (λ q. (count, omega arith, last_word ∙ ap₂ packed (eqb-true r x (and_left (eqb r x) _ q)) (eqb-true c y (and_right (eqb r x) _ q))))
        (or_cases (column_marking n s x y) _ (sym (marks' x y k m) ∙ t))

    pub insert_new : Inserted n a b s count s' (count + 1)
    insert_new = record {
      also = record {
        gained = record {
          long = long';
          marks = λ x y k m. marks' x y k m ∙ ap (λ (t : Bool). column_marking n s x y || t) (sym (ordered_pair x y));
          later = drop-set-lt (queue_start n + pair_total n) (with_bit s p) end (packed r c) (omega (arith, end_room)) ∙ G.later;
        };
        marked = record {
          room = omega (arith, M.room, long');
          size = omega (arith, M.size, grows, set_size_cong n (column_marking n s') (column_marking n (with_bit s p)) same_mark);
          queued = queued';
          found = found';
        };
      };
      words = words';
      more = omega arith;
      most = omega arith;
      last = λ j. last_word ∙ sym (ap₂ packed high low);
    }

-- cleared words mark none
pub pairs_none : {n : ℕ} {s₀ s : List ℕ} → queue_start n + pair_total n ≤ length s₀ → s ≡ cleared (bit_words (pair_total n)) s₀
    → MarkedPairs n (λ r c. false) s₀ s 0
pairs_none {n} {s₀} {s} room z = record {
  long = long;
  marked = record {
    room = omega (arith, long);
    size = sym (set_size_sum n (column_marking n s) (λ q. bit (bit_at s q)) (λ r c k m. refl) ∙ sum_to_zero _ (pair_total n) (λ q l. ap bit (clear q l)));
    queued = λ j l. absurd (not-suc-le-zero l);
    found = λ r c h l t. absurd (false≢true (sym (clear (column_place n r c) (column_place_below n r c h l)) ∙ t));
  };
  marks = λ r c h l. clear (column_place n r c) (column_place_below n r c h l);
  later = ap (drop (queue_start n + pair_total n)) z ∙ filled_later (λ _. 0) words (queue_start n + pair_total n) s₀ (omega (arith, queue_start_words n));
}
  where
    words : ℕ
    words = bit_words (pair_total n)

    long : length s ≡ length s₀
    long = ap length z ∙ filled-length (λ _. 0) words s₀ (omega (arith, queue_start_words n))

    clear : (q : ℕ) → q < pair_total n → bit_at s q ≡ false
    clear q l = bit-clear s q (ap (λ (x : List ℕ). get_or x (q / 32) 0) z ∙ filled_at (λ _. 0) words s₀ (q / 32) 0 (word_below q (pair_total n) l))

-- a pair inserted the other way round
pub inserted_turned : {n a b : ℕ} {s : List ℕ} {count : ℕ} {s' : List ℕ} {count' : ℕ} → Inserted n a b s count s' count' → Inserted n b a s count s' count'
inserted_turned {n} {a} {b} I =
    let e₁ : max a b ≡ max b a = omega arith in
    let e₂ : min a b ≡ min b a = omega arith in
    record {
      also = also_cong (λ r c h l. ordered_turned a b r c) I.also;
      words = I.words;
      more = I.more;
      most = I.most;
      last = λ h. I.last h ∙ ap₂ packed e₁ e₂;
    }
