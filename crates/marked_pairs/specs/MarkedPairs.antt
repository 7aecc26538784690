-- Marked pairs and a queue of them: words that mark more pairs than before, and words that mark exactly the pairs of a set.
-- Assumes nothing.
use Rattle.std.specs.Prelude.{ℕ, ◌+◌, ◌≤◌, ◌<◌, min, max, ◌≡◌, refl, Bool, true, false, ◌||◌, List, length, get_or, drop}
use Rattle.std.proofs.Common.{arith, sym, ap, ◌∙◌}
use Rattle.std.proofs.Math.Bool.{or-false, or_assoc}
use Rattle.lists.specs.Test.{any, any_in, any_next, any_in_next}
use Rattle.refusal.specs.Bounds.{max_dimension}
use Rattle.pairs.specs.Pair.{pair_total, ordered}
use Rattle.pairs.specs.Scratch.{queue_start, packed, row_of, column_of}
use Rattle.pairs.specs.ColumnOrder.{column_marking, set_size}
use Rattle.pairs.proofs.ColumnOrder.{set_size_most}

-- word j of the queue
abbrev pub queue_word : ℕ → List ℕ → ℕ → ℕ
queue_word n s j = get_or s (queue_start n + j) 0

-- the word is that of a marked pair
pub record Queued (n : ℕ) (s : List ℕ) (w : ℕ) : Type 0 where
  pub ordered : column_of w ≤ row_of w
  pub inside : row_of w < n
  pub marked : column_marking n s (row_of w) (column_of w) ≡ true

-- `count` pairs are marked, and the queue has a word for each
pub record Marked (n : ℕ) (s : List ℕ) (count : ℕ) : Type 0 where
  pub room : queue_start n + pair_total n ≤ length s
  pub size : count ≡ set_size n (column_marking n s)
  pub queued : (j : ℕ) → j < count → Queued n s (queue_word n s j)
  pub found : (r c : ℕ) → c ≤ r → r < n → column_marking n s r c ≡ true → (j : ℕ) × (j < count) × (queue_word n s j ≡ packed r c)

-- closing reached each column that a marked pair is in: its number in the list is not 0
abbrev pub ColumnsReached : ℕ → List ℕ → List ℕ → Type 0
ColumnsReached n s reached = (r c : ℕ) → c ≤ r → r < n → column_marking n s r c ≡ true → 0 < get_or reached c 0

-- the words s' mark what s marks and the pairs of a set; the words behind the queue are as they were
pub record Gained (n : ℕ) (S : ℕ → ℕ → Bool) (s s' : List ℕ) : Type 0 where
  pub long : length s' ≡ length s
  pub marks : (r c : ℕ) → c ≤ r → r < n → column_marking n s' r c ≡ (column_marking n s r c || S r c)
  pub later : drop (queue_start n + pair_total n) s' ≡ drop (queue_start n + pair_total n) s

-- the words s, made of the words s₀, mark exactly the pairs of a set
pub record MarkedPairs (n : ℕ) (S : ℕ → ℕ → Bool) (s₀ s : List ℕ) (count : ℕ) : Type 0 where
  pub long : length s ≡ length s₀
  pub marked : Marked n s count
  pub marks : (r c : ℕ) → c ≤ r → r < n → column_marking n s r c ≡ S r c
  pub later : drop (queue_start n + pair_total n) s ≡ drop (queue_start n + pair_total n) s₀

-- the words w' mark what w marks and the pairs of a set, `count` in all
pub record AlsoMarked (n : ℕ) (S : ℕ → ℕ → Bool) (w w' : List ℕ) (count : ℕ) : Type 0 where
  pub gained : Gained n S w w'
  pub marked : Marked n w' count

-- a pair and the words that it is inserted into
pub record InsertInput (n a b : ℕ) (s : List ℕ) (count : ℕ) : Type 0 where
  pub small : n ≤ max_dimension
  pub first : a < n
  pub second : b < n
  pub marked : Marked n s count

-- what inserting the pair of a and b, put in order, leaves: the queue's words stay, and at most that pair's is added
pub record Inserted (n a b : ℕ) (s : List ℕ) (count : ℕ) (s' : List ℕ) (count' : ℕ) : Type 0 where
  pub also : AlsoMarked n (ordered a b) s s' count'
  pub words : (j : ℕ) → j < count → queue_word n s' j ≡ queue_word n s j
  pub more : count ≤ count'
  pub most : count' ≤ count + 1
  pub last : count < count' → queue_word n s' count ≡ packed (max a b) (min a b)

-- there are at most as many marked pairs as pairs
pub count_most : {n : ℕ} {s : List ℕ} {count : ℕ} → Marked n s count → count ≤ pair_total n
count_most {n} {s} M = omega (arith, M.size, set_size_most n (column_marking n s))

-- ---- words that mark more

-- none more
pub gained_none : (n : ℕ) (S : ℕ → ℕ → Bool) (s : List ℕ) → ((r c : ℕ) → S r c ≡ false) → Gained n S s s
gained_none n S s e = record {
  long = refl;
  marks = λ r c h l. sym (or-false (column_marking n s r c)) ∙ ap (λ (b : Bool). column_marking n s r c || b) (sym (e r c));
  later = refl;
}

-- the pairs of two sets, one after the other
pub gained_both : {n : ℕ} {S R : ℕ → ℕ → Bool} {s s' s'' : List ℕ} → Gained n S s s' → Gained n R s' s'' → Gained n (λ r c. S r c || R r c) s s''
gained_both {n} {S} {R} {s} G H = record {
  long = H.long ∙ G.long;
  marks = λ r c h l. H.marks r c h l ∙ ap (λ (b : Bool). b || R r c) (G.marks r c h l) ∙ or_assoc (column_marking n s r c) (S r c) (R r c);
  later = H.later ∙ G.later;
}

-- sets that agree
pub gained_cong : {n : ℕ} {S S' : ℕ → ℕ → Bool} {s s' : List ℕ} → ((r c : ℕ) → c ≤ r → r < n → S r c ≡ S' r c) → Gained n S s s' → Gained n S' s s'
gained_cong {n} {S} {S'} {s} e G = record {
  long = G.long;
  marks = λ r c h l. G.marks r c h l ∙ ap (λ (b : Bool). column_marking n s r c || b) (e r c h l);
  later = G.later;
}

-- ---- the pairs of a set

-- the pairs of one more set
pub pairs_also : {n : ℕ} {S R : ℕ → ℕ → Bool} {s₀ s s' : List ℕ} {k count : ℕ} → MarkedPairs n S s₀ s k → AlsoMarked n R s s' count
    → MarkedPairs n (λ r c. S r c || R r c) s₀ s' count
pairs_also {n} {S} {R} M A = record {
  long = A.gained.long ∙ M.long;
  marked = A.marked;
  marks = λ r c h l. A.gained.marks r c h l ∙ ap (λ (b : Bool). b || R r c) (M.marks r c h l);
  later = A.gained.later ∙ M.later;
}

-- sets that agree
pub pairs_cong : {n : ℕ} {S S' : ℕ → ℕ → Bool} {s₀ s : List ℕ} {count : ℕ} → ((r c : ℕ) → c ≤ r → r < n → S r c ≡ S' r c) → MarkedPairs n S s₀ s count
    → MarkedPairs n S' s₀ s count
pairs_cong e M = record { long = M.long; marked = M.marked; marks = λ r c h l. M.marks r c h l ∙ e r c h l; later = M.later }

-- none more
pub also_none : {n : ℕ} {w : List ℕ} {count : ℕ} (S : ℕ → ℕ → Bool) → ((r c : ℕ) → S r c ≡ false) → Marked n w count → AlsoMarked n S w w count
also_none {n} {w} S e M = record { gained = gained_none n S w e; marked = M }

-- the pairs of two sets, one after the other
pub also_both : {n : ℕ} {S R : ℕ → ℕ → Bool} {w w' w'' : List ℕ} {k count : ℕ} → AlsoMarked n S w w' k → AlsoMarked n R w' w'' count
    → AlsoMarked n (λ r c. S r c || R r c) w w'' count
also_both A B = record { gained = gained_both A.gained B.gained; marked = B.marked }

-- sets that agree
pub also_cong : {n : ℕ} {S S' : ℕ → ℕ → Bool} {w w' : List ℕ} {count : ℕ} → ((r c : ℕ) → c ≤ r → r < n → S r c ≡ S' r c) → AlsoMarked n S w w' count
    → AlsoMarked n S' w w' count
also_cong e A = record { gained = gained_cong e A.gained; marked = A.marked }

-- one number more: the pairs of its set are marked too
module _ {n : ℕ} {w w' w'' : List ℕ} {k m : ℕ} (test : ℕ → ℕ → ℕ → Bool) (j : ℕ) where
  -- between two ends
  pub also_next : (s : ℕ) → s ≤ j → AlsoMarked n (λ r c. any_in (λ p. test p r c) s j) w w' k → AlsoMarked n (test j) w' w'' m
      → AlsoMarked n (λ r c. any_in (λ p. test p r c) s (j + 1)) w w'' m
  also_next s h A B = also_cong (λ r c o l. sym (any_in_next (λ p. test p r c) s j h)) (also_both A B)

  -- below an end
  pub also_more : AlsoMarked n (λ r c. any (λ p. test p r c) j) w w' k → AlsoMarked n (test j) w' w'' m
      → AlsoMarked n (λ r c. any (λ p. test p r c) (j + 1)) w w'' m
  also_more A B = also_cong (λ r c o l. sym (any_next (λ p. test p r c) j)) (also_both A B)
