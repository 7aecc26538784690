-- Words that hold a level for each pair, 0 for none, column by column, and behind them a queue of the pairs that have one.
-- Assumes nothing.
use Rattle.std.specs.Prelude.{ℕ, ◌+◌, ◌≤◌, ◌<◌, ◌≡◌, refl, Bool, true, false, cond, ◌||◌, List, ltb, length, get_or, drop}
use Rattle.std.proofs.Common.{arith, sym, ap, ◌∙◌, lt-ltb, le-ltb}
use Rattle.std.proofs.Math.Decide.{dec_lt}
use Rattle.lists.specs.Test.{any, any_in, any_next, any_in_next}
use Rattle.refusal.specs.Bounds.{max_dimension}
use Rattle.pairs.specs.Pair.{pair_total}
use Rattle.pairs.specs.Scratch.{packed, row_of, column_of}
use Rattle.pairs.specs.ColumnOrder.{column_place, set_size}
use Rattle.pairs.proofs.ColumnOrder.{set_size_most}

-- the level of (r, c), 0 for none
abbrev pub level_word : ℕ → List ℕ → ℕ → ℕ → ℕ
level_word n s r c = get_or s (column_place n r c) 0

-- it has one
abbrev pub levelled : ℕ → List ℕ → ℕ → ℕ → Bool
levelled n s r c = ltb 0 (level_word n s r c)

-- word j of the queue
abbrev pub level_queue : ℕ → List ℕ → ℕ → ℕ
level_queue n s j = get_or s (pair_total n + j) 0

-- the word is that of a pair with a level
pub record QueuedLevel (n : ℕ) (s : List ℕ) (w : ℕ) : Type 0 where
  pub ordered : column_of w ≤ row_of w
  pub inside : row_of w < n
  pub placed : 0 < level_word n s (row_of w) (column_of w)

-- `count` pairs have a level, and the queue has a word for each
pub record Levelled (n : ℕ) (s : List ℕ) (count : ℕ) : Type 0 where
  pub room : pair_total n + pair_total n ≤ length s
  pub size : count ≡ set_size n (levelled n s)
  pub queued : (j : ℕ) → j < count → QueuedLevel n s (level_queue n s j)
  pub found : (r c : ℕ) → c ≤ r → r < n → 0 < level_word n s r c → (j : ℕ) × (j < count) × (level_queue n s j ≡ packed r c)

-- a level for the pairs of a set that have none yet
abbrev pub raised : ℕ → (ℕ → ℕ → Bool) → (ℕ → ℕ → ℕ) → ℕ → ℕ → ℕ
raised level S W r c = cond (ltb 0 (W r c)) (W r c) (cond (S r c) level 0)

-- the words s' are the words s with the level for the pairs of a set; the queue's words stay, and those added are of pairs at the level
pub record Raised (n level : ℕ) (S : ℕ → ℕ → Bool) (s : List ℕ) (count : ℕ) (s' : List ℕ) (count' : ℕ) : Type 0 where
  pub long : length s' ≡ length s
  pub words : (r c : ℕ) → c ≤ r → r < n → level_word n s' r c ≡ raised level S (level_word n s) r c
  pub levels : Levelled n s' count'
  pub queue : (j : ℕ) → j < count → level_queue n s' j ≡ level_queue n s j
  pub more : count ≤ count'
  pub new : (j : ℕ) → count ≤ j → j < count' → level_word n s' (row_of (level_queue n s' j)) (column_of (level_queue n s' j)) ≡ level
  pub later : drop (pair_total n + pair_total n) s' ≡ drop (pair_total n + pair_total n) s

-- a pair, the level it is given, and the words that it is inserted into
pub record InsertLevelInput (n a b level : ℕ) (s : List ℕ) (count : ℕ) : Type 0 where
  pub small : n ≤ max_dimension
  pub first : a < n
  pub second : b < n
  pub positive : 0 < level
  pub levels : Levelled n s count

-- there are at most as many pairs with a level as pairs
pub levelled_most : {n : ℕ} {s : List ℕ} {count : ℕ} → Levelled n s count → count ≤ pair_total n
levelled_most {n} {s} L = omega (arith, L.size, set_size_most n (levelled n s))

-- ---- raising

module _ (level : ℕ) (W : ℕ → ℕ → ℕ) (r c : ℕ) where
  -- a pair with a level keeps it
  pub raised_stays : (S : ℕ → ℕ → Bool) → 0 < W r c → raised level S W r c ≡ W r c
  raised_stays S h = rw (lt-ltb 0 (W r c) h) refl

  -- one without is given it if it is in the set
  pub raised_in : (S : ℕ → ℕ → Bool) → W r c ≡ 0 → S r c ≡ true → raised level S W r c ≡ level
  raised_in S h e = let q : ltb 0 (W r c) ≡ false = le-ltb 0 (W r c) (omega arith) in rw (q, e) refl

  pub raised_out : (S : ℕ → ℕ → Bool) → W r c ≡ 0 → S r c ≡ false → raised level S W r c ≡ 0
  raised_out S h e = let q : ltb 0 (W r c) ≡ false = le-ltb 0 (W r c) (omega arith) in rw (q, e) refl

  -- one outside the set stays as it is
  pub raised_other : (S : ℕ → ℕ → Bool) → S r c ≡ false → raised level S W r c ≡ W r c
  raised_other S e = elim (dec_lt 0 (W r c)) [
    | yes h ↦ raised_stays S h
    | no h ↦ raised_out S (omega arith) e ∙ omega arith
  ]

-- two sets, one after the other
raised-twice : (level w : ℕ) (a b : Bool) → 0 < level
    → cond (ltb 0 (cond (ltb 0 w) w (cond a level 0))) (cond (ltb 0 w) w (cond a level 0)) (cond b level 0) ≡ cond (ltb 0 w) w (cond (a || b) level 0)
raised-twice level w a b h = go (ltb 0 w) a refl
  where
    go : (x y : Bool) → ltb 0 w ≡ x → cond (ltb 0 (cond x w (cond y level 0))) (cond x w (cond y level 0)) (cond b level 0) ≡ cond x w (cond (y || b) level 0)
    go true y e = rw e refl
    go false true e = rw (lt-ltb 0 level h) refl
    go false false e = refl

-- none
pub raised_none : {n level : ℕ} (S : ℕ → ℕ → Bool) {s : List ℕ} {count : ℕ} → ((r c : ℕ) → S r c ≡ false) → Levelled n s count → Raised n level S s count s count
raised_none {n} {level} S {s} {count} none L = record {
  long = refl;
  words = λ r c h l. sym (raised_other level (level_word n s) r c S (none r c));
  levels = L;
  queue = λ j h. refl;
  more = omega arith;
  new = λ j h l. absurd (omega arith);
  later = refl;
}

-- the pairs of two sets, one after the other
pub raised_both : {n level : ℕ} {S R : ℕ → ℕ → Bool} {s s' s'' : List ℕ} {k m count : ℕ} → 0 < level → Raised n level S s k s' m → Raised n level R s' m s'' count
    → Raised n level (λ r c. S r c || R r c) s k s'' count
raised_both {n} {level} {S} {R} {s} {s'} {s''} {k} {m} {count} h A B = record {
  long = B.long ∙ A.long;
  words = λ r c o l.
      B.words r c o l
      ∙ ap (λ (w : ℕ). cond (ltb 0 w) w (cond (R r c) level 0)) (A.words r c o l)
      ∙ raised-twice level (level_word n s r c) (S r c) (R r c) h;
  levels = B.levels;
  queue = λ j l. B.queue j (omega (arith, A.more)) ∙ A.queue j l;
  more = omega (arith, A.more, B.more);
  new = λ j lo hi. elim (dec_lt j m) [
    | yes l ↦
        let q = B.queue j l in
        let Q = A.levels.queued j l in
        let x = row_of (level_queue n s' j) in
        let y = column_of (level_queue n s' j) in
        ap (λ (w : ℕ). level_word n s'' (row_of w) (column_of w)) q
        ∙ B.words x y Q.ordered Q.inside
        ∙ raised_stays level (level_word n s') x y R Q.placed
        ∙ A.new j lo l
    | no l ↦ B.new j (omega arith) hi
  ];
  later = B.later ∙ A.later;
}

-- sets that agree
pub raised_cong : {n level : ℕ} {S S' : ℕ → ℕ → Bool} {s s' : List ℕ} {k count : ℕ} → ((r c : ℕ) → c ≤ r → r < n → S r c ≡ S' r c)
    → Raised n level S s k s' count
    → Raised n level S' s k s' count
raised_cong {n} {level} {S} {S'} {s} e A = record {
  long = A.long;
  words = λ r c h l. A.words r c h l ∙ ap (λ (b : Bool). cond (ltb 0 (level_word n s r c)) (level_word n s r c) (cond b level 0)) (e r c h l);
  levels = A.levels;
  queue = A.queue;
  more = A.more;
  new = A.new;
  later = A.later;
}

-- one number more: the pairs of its set too
module _ {n level : ℕ} {s s' s'' : List ℕ} {k m count : ℕ} (positive : 0 < level) (test : ℕ → ℕ → ℕ → Bool) (j : ℕ) where
  -- between two ends
  pub raised_next : (e : ℕ) → e ≤ j → Raised n level (λ r c. any_in (λ p. test p r c) e j) s k s' m → Raised n level (test j) s' m s'' count
      → Raised n level (λ r c. any_in (λ p. test p r c) e (j + 1)) s k s'' count
  raised_next e h A B = raised_cong (λ r c o l. sym (any_in_next (λ p. test p r c) e j h)) (raised_both positive A B)

  -- below an end
  pub raised_more : Raised n level (λ r c. any (λ p. test p r c) j) s k s' m → Raised n level (test j) s' m s'' count
      → Raised n level (λ r c. any (λ p. test p r c) (j + 1)) s k s'' count
  raised_more A B = raised_cong (λ r c o l. sym (any_next (λ p. test p r c) j)) (raised_both positive A B)
