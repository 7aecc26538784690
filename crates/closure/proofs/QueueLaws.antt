-- Closing the queue's pairs: a pair taken from the queue, the stored entries of its column, and the end.
-- Assumes nothing.
use Prim.Native.Nat.{ℕ, zero, suc, ◌+◌, ◌-◌, ◌≤◌, ◌<◌, min, max}
use native.Mathlib.Omega.{arith}
use native.Mathlib.Nat.{not-suc-le-zero, eq-or-lt_of_le, le_of_suc-le-suc}
use native.Mathlib.Numerals.{add-one}
use native.Mathlib.Decide.{dec_le, ℕ_discrete}
use mathlib.Core.Path.{◌≡◌, refl, sym, ap, subst, subst₂, ◌∙◌}
use mathlib.Core.Bool.{Bool, true, false, ◌&&◌, cond, true≢false}
use mathlib.Core.Logic.{◌⊎◌, inl, inr, ⊎_elim}
use mathlib.Core.List.{List}
use lib.Dec.{ltb, eqb}
use lib.ListN.{length, get_or, set, length-set}
use lib.Seq.{get_or-set_same, get_or-set_other}
use borrow.Author.Tests.{le-ltb, lt-ltb, ltb-true, eqb-true}
use Rattle.lists.specs.Test.{and_left, and_both, or_cases, or_left, or_right}
use Rattle.refusal.specs.Bounds.{max_dimension}
use Rattle.pairs.specs.Pair.{pair_total}
use Rattle.pairs.proofs.Pair.{ordered_is, is_ordered}
use Rattle.pairs.specs.Scratch.{queue_start, packed, row_of, column_of}
use Rattle.pairs.specs.ColumnOrder.{column_marking}
use Rattle.columns.specs.Columns.{start, row}
use Rattle.columns.specs.Kept.{kept_below, pattern}
use Rattle.columns.specs.Factor.{Factor}
use Rattle.columns.proofs.Factor.{starts_end}
use Rattle.closed_set.specs.ClosedSet.{Closed, Pattern, descends}
use Rattle.closure.specs.Nested.{Nested, Stop, StopFound}
use Rattle.marked_pairs.specs.MarkedPairs.{queue_word, Queued, Marked, InsertInput, Inserted, count_most}
use Rattle.closure.specs.Queue.{MarkedWithin, Grown, QueueInput, ColumnEndInput, EndOf, after_span, EndColumnInput, ColumnEnded, QueueClosed}
use Rattle.closed_set.proofs.FactorPattern.{factor_pattern, entry_descends, descends_entry}

-- ---- words that grow

grown_none : (n : ℕ) (s : List ℕ) (count : ℕ) → Grown n s count s count
grown_none n s count = record { long = refl; more = omega arith; marks = λ r c h l e. e; words = λ j l. refl; later = refl }

grown_trans : {n : ℕ} {s : List ℕ} {a : ℕ} {s' : List ℕ} {b : ℕ} {s'' : List ℕ} {d : ℕ} → Grown n s a s' b → Grown n s' b s'' d → Grown n s a s'' d
grown_trans G H = record {
  long = H.long ∙ G.long;
  more = omega (arith, G.more, H.more);
  marks = λ r c h l e. H.marks r c h l (G.marks r c h l e);
  words = λ j l. H.words j (omega (arith, G.more)) ∙ G.words j l;
  later = H.later ∙ G.later;
}

-- inserting a pair
module _ {n a b : ℕ} {s : List ℕ} {count : ℕ} {s' : List ℕ} {count' : ℕ} (I : Inserted n a b s count s' count') where
  pub inserted_grown : Grown n s count s' count'
  inserted_grown = record {
    long = I.also.gained.long;
    more = I.more;
    marks = λ r c h l e. I.also.gained.marks r c h l ∙ or_left (column_marking n s r c) _ e;
    words = I.words;
    later = I.also.gained.later;
  }

  inserted_here : a < n → b < n → column_marking n s' (max a b) (min a b) ≡ true
  inserted_here l m =
      I.also.gained.marks (max a b) (min a b) (omega arith) (omega arith)
      ∙ or_right (column_marking n s (max a b) (min a b)) _ (is_ordered a b (max a b) (min a b) refl refl)

  inserted_within : (S : ℕ → ℕ → Bool) → S (max a b) (min a b) ≡ true → MarkedWithin n S s → MarkedWithin n S s'
  inserted_within S q W r c h l e =
      ⊎_elim (W r c h l)
      (λ p. let o = ordered_is a b r c p in subst₂ (λ (x y : ℕ). S x y ≡ true) (sym o.0) (sym o.1) q)
      (or_cases (column_marking n s r c) _ (sym (I.also.gained.marks r c h l) ∙ e))

-- the same number under another name
pub inserted_equal : {n a b : ℕ} {s : List ℕ} {count : ℕ} {s' : List ℕ} {count' : ℕ} → a ≡ b → Inserted n a a s count s' count' → Inserted n b b s count s' count'
inserted_equal {n} {s = s} {count = count} {s' = s'} {count' = count'} = subst (λ (x : ℕ). Inserted n x x s count s' count')

-- ---- dependencies that are marked

-- those of (r, c) by the stored entries before p
abbrev pub DepsTo : ℕ → List ℕ → List ℕ → (ℕ → Bool) → List ℕ → ℕ → ℕ → ℕ → Type 0
DepsTo n starts rows nz s r c p =
    (q : ℕ) → start starts c ≤ q → q < p → kept_below rows nz c q ≡ true → column_marking n s (max r (row rows q)) (min r (row rows q)) ≡ true

-- the dependency by a descendant of which every other descendant of c is a descendant
pub record Reduced (n : ℕ) (starts rows : List ℕ) (nz : ℕ → Bool) (s : List ℕ) (r c : ℕ) : Type 0 where
  pub place : ℕ
  pub nested : Nested starts rows nz c place
  pub above : row rows place ≤ r
  pub marked : column_marking n s r (row rows place) ≡ true

-- the diagonal of such a descendant, where r itself is a descendant of c
pub record Shared (n : ℕ) (starts rows : List ℕ) (nz : ℕ → Bool) (s : List ℕ) (r c : ℕ) : Type 0 where
  pub place : ℕ
  pub nested : Nested starts rows nz c place
  pub below : descends (pattern starts rows nz) c r ≡ true
  pub marked : column_marking n s (row rows place) (row rows place) ≡ true

-- all those of the pair (r, c), or one of these two
abbrev pub PairDone : ℕ → List ℕ → List ℕ → (ℕ → Bool) → List ℕ → ℕ → ℕ → Type 0
PairDone n starts rows nz s r c = DepsTo n starts rows nz s r c (start starts (c + 1)) ⊎ (Reduced n starts rows nz s r c ⊎ Shared n starts rows nz s r c)

-- so for the pair of a word
abbrev pub WordDone : ℕ → List ℕ → List ℕ → (ℕ → Bool) → List ℕ → ℕ → Type 0
WordDone n starts rows nz s w = PairDone n starts rows nz s (row_of w) (column_of w)

-- so for the queue's words before head
abbrev pub Done : ℕ → List ℕ → List ℕ → (ℕ → Bool) → List ℕ → ℕ → Type 0
Done n starts rows nz s head =
    (j : ℕ) → j < head → WordDone n starts rows nz s (queue_word n s j)

module _ {n : ℕ} {starts rows : List ℕ} {values : ℕ} (nz : ℕ → Bool) (F : Factor n starts rows values) where
  deps_grown : {s : List ℕ} {a : ℕ} {s' : List ℕ} {b : ℕ} (r c p : ℕ) → c ≤ r → r < n → p ≤ start starts (c + 1) → Grown n s a s' b
      → DepsTo n starts rows nz s r c p → DepsTo n starts rows nz s' r c p
  deps_grown r c p h l g G D q lo hi t =
      let d< = F.rows_ascend.inside q (omega (arith, starts_end F.starts_rise (c + 1) (omega arith))) in
      G.marks (max r (row rows q)) (min r (row rows q)) (omega arith) (omega arith) (D q lo hi t)

  deps_more : (s : List ℕ) (r c p : ℕ) → (kept_below rows nz c p ≡ true → column_marking n s (max r (row rows p)) (min r (row rows p)) ≡ true)
      → DepsTo n starts rows nz s r c p → DepsTo n starts rows nz s r c (p + 1)
  deps_more s r c p e D q lo hi t =
      ⊎_elim
      (λ m. subst (λ (j : ℕ). column_marking n s (max r (row rows j)) (min r (row rows j)) ≡ true) (sym m) (e (subst (λ (j : ℕ). kept_below rows nz c j ≡ true) m t)))
      (λ m. D q lo m t)
      (eq-or-lt_of_le (le_of_suc-le-suc (rw add-one at hi)))

  -- the row of a descendant's place is within the dimension
  nested_inside : {c place : ℕ} → c < n → Nested starts rows nz c place → row rows place < n
  nested_inside {c} {place} h N = F.rows_ascend.inside place (omega (arith, N.below, starts_end F.starts_rise (c + 1) (omega arith)))

  shared_grown : {s : List ℕ} {a : ℕ} {s' : List ℕ} {b : ℕ} {r c : ℕ} → c < n → Grown n s a s' b → Shared n starts rows nz s r c → Shared n starts rows nz s' r c
  shared_grown h G e = record {
    place = e.place;
    nested = e.nested;
    below = e.below;
    marked = G.marks _ _ (omega arith) (nested_inside h e.nested) e.marked;
  }

  done_grown : {s : List ℕ} {a : ℕ} {s' : List ℕ} {b : ℕ} (head : ℕ) → head ≤ a → Marked n s a → Grown n s a s' b → Done n starts rows nz s head
      → Done n starts rows nz s' head
  done_grown {s} {a} {s'} {b} head h M G D j l =
      let Q = M.queued j (omega arith) in
      let w = queue_word n s j in
      subst (λ (x : ℕ). WordDone n starts rows nz s' x) (sym (G.words j (omega arith)))
      (⊎_elim
      (λ e. inl (deps_grown (row_of w) (column_of w) (start starts (column_of w + 1)) Q.ordered Q.inside (omega arith) G e))
      (λ d. inr
      (⊎_elim
      (λ e. inl (record { place = e.place; nested = e.nested; above = e.above; marked = G.marks _ _ e.above Q.inside e.marked }))
      (λ e. inr (shared_grown (omega (arith, Q.ordered, Q.inside)) G e))
      d))
      (D j l))

  done_more : (s : List ℕ) (head : ℕ)
      → WordDone n starts rows nz s (queue_word n s head) → Done n starts rows nz s head → Done n starts rows nz s (head + 1)
  done_more s head e D j l =
      ⊎_elim
      (λ q. subst (λ (i : ℕ). WordDone n starts rows nz s (queue_word n s i)) (sym q) e)
      (λ q. D j q)
      (eq-or-lt_of_le (le_of_suc-le-suc (rw add-one at l)))

  -- the marked pairs of the columns after c are closed
  abbrev ClosedAfter : List ℕ → ℕ → Type 0
  ClosedAfter s c =
      (r a d : ℕ) → a ≤ r → r < n → descends (pattern starts rows nz) a d ≡ true → c < a → column_marking n s r a ≡ true
      → column_marking n s (max r d) (min r d) ≡ true

  -- once every word is done the marked pairs are closed: columns from the last
  done_closed : (s : List ℕ) (count : ℕ) → n ≤ max_dimension → Marked n s count → Done n starts rows nz s count
      → Closed n (pattern starts rows nz) (column_marking n s)
  done_closed s count small M D r c d h l i e = go n r c d (omega arith) h l i e
    where
      P : Pattern n (pattern starts rows nz)
      P = factor_pattern nz F

      go : (k r c d : ℕ) → n ≤ k + c → c ≤ r → r < n → descends (pattern starts rows nz) c d ≡ true → column_marking n s r c ≡ true
          → column_marking n s (max r d) (min r d) ≡ true
      go zero r c d b h l i e = absurd (omega arith)
      go (suc k) r c d b h l i e =
          let f = M.found r c h l e in
          let w = queue_word n s f.0 in
          let q₁ : row_of w ≡ r = omega (arith, f.2) in
          let q₂ : column_of w ≡ c = omega (arith, f.2) in
          next (λ r' a d' x y z o t. go k r' a d' (omega arith) x y z t) (subst₂ (PairDone n starts rows nz s) q₁ q₂ (D f.0 f.1))
        where
          nested_lower : {place : ℕ} → Nested starts rows nz c place → c < row rows place
          nested_lower {place} N = P.below c (row rows place) (omega arith) (entry_descends nz F c (omega arith) place N.from N.below N.kept)

          -- once the dependency by the nested descendant is marked
          by_nested : ClosedAfter s c → {place : ℕ} → Nested starts rows nz c place → row rows place ≤ r → column_marking n s r (row rows place) ≡ true
              → column_marking n s (max r d) (min r d) ≡ true
          by_nested before {place} N above m =
              elim (ℕ_discrete d (row rows place)) [
                | yes q ↦
                    let e₁ : max r d ≡ r = omega arith in
                    let e₂ : min r d ≡ row rows place = omega arith in
                    subst₂ (λ (x y : ℕ). column_marking n s x y ≡ true) (sym e₁) (sym e₂) m
                | no q ↦ before r (row rows place) d above l (N.rest d i q) (nested_lower N) m
              ]

          next : ClosedAfter s c → PairDone n starts rows nz s r c → column_marking n s (max r d) (min r d) ≡ true
          next before (inl D') =
              let g = descends_entry nz F c (omega arith) d i in
              subst (λ (x : ℕ). column_marking n s (max r x) (min r x) ≡ true) g.4 (D' g.0 g.1 g.2 g.3)
          next before (inr (inl R)) = by_nested before R.nested R.above R.marked
          next before (inr (inr R)) =
              let p = row rows R.place in
              let lower = nested_lower R.nested in
              elim (ℕ_discrete r p) [
                | yes q ↦ by_nested before R.nested (omega arith) (subst (λ (x : ℕ). column_marking n s x p ≡ true) (sym q) R.marked)
                | no q ↦
                    let t = R.nested.rest r R.below q in
                    let inside = nested_inside (omega arith) R.nested in
                    let a = P.below p r inside t in
                    let e₁ : max p r ≡ r = omega arith in
                    let e₂ : min p r ≡ p = omega arith in
                    let m = before p p r (omega arith) inside t lower R.marked in
                    by_nested before R.nested (omega arith) (subst₂ (λ (x y : ℕ). column_marking n s x y ≡ true) e₁ e₂ m)
              ]

-- ---- the loops

-- the words before head are done, and each pair added is in every closed set that holds those marked before
pub record Serving (n : ℕ) (starts rows : List ℕ) (nz : ℕ → Bool) (limit : ℕ) (s₀ : List ℕ) (first : ℕ) (s : List ℕ) (head count : ℕ) : Type 0 where
  pub marked : Marked n s count
  pub grown : Grown n s₀ first s count
  pub within : (S : ℕ → ℕ → Bool) → Closed n (pattern starts rows nz) S → MarkedWithin n S s₀ → MarkedWithin n S s
  pub done : Done n starts rows nz s head
  pub behind : head ≤ count
  pub most : count ≤ limit + 1

-- a pair that is in every closed set that holds those marked is inserted
pub serving_insert : {n : ℕ} {starts rows : List ℕ} {values limit : ℕ} (nz : ℕ → Bool) → Factor n starts rows values → {s₀ : List ℕ} {first : ℕ} {s : List ℕ}
    {head count a b : ℕ} {t : List ℕ} {count' : ℕ} → Serving n starts rows nz limit s₀ first s head count → count ≤ limit → Inserted n a b s count t count'
    → ((S : ℕ → ℕ → Bool) → Closed n (pattern starts rows nz) S → MarkedWithin n S s → S (max a b) (min a b) ≡ true)
    → Serving n starts rows nz limit s₀ first t head count'
serving_insert nz F {head = head} U low J h = record {
  marked = J.also.marked;
  grown = grown_trans U.grown (inserted_grown J);
  within = λ S C W. let W₁ = U.within S C W in inserted_within J S (h S C W₁) W₁;
  done = done_grown nz F head U.behind U.marked (inserted_grown J) U.done;
  behind = omega (arith, U.behind, J.more);
  most = omega (arith, J.most);
}

-- the columns of the queue's words before head are listed
abbrev pub ReachedTo : ℕ → List ℕ → List ℕ → ℕ → Type 0
ReachedTo n s stops head = (j : ℕ) → j < head → 0 < get_or stops (column_of (queue_word n s j)) 0

-- the queue's words from `first` to below `end` are pairs of column a that its diagonal added, and its stop is listed
pub record Span (n : ℕ) (starts rows : List ℕ) (nz : ℕ → Bool) (stops s : List ℕ) (count a first end : ℕ) : Type 0 where
  pub upto : end ≤ count
  pub words : (j : ℕ) → first ≤ j → j < end → (column_of (queue_word n s j) ≡ a) × Shared n starts rows nz s (row_of (queue_word n s j)) a
  pub reached : first < end → 0 < get_or stops a 0

-- so for each column
abbrev pub Spans : ℕ → List ℕ → List ℕ → (ℕ → Bool) → List ℕ → List ℕ → List ℕ → List ℕ → ℕ → Type 0
Spans n starts rows nz stops spanStarts spanEnds s count = (a : ℕ) → a < n → Span n starts rows nz stops s count a (get_or spanStarts a 0) (get_or spanEnds a 0)

-- the outer loop
pub record QueueLoop (n : ℕ) (starts rows : List ℕ) (nz : ℕ → Bool) (limit : ℕ) (s₀ : List ℕ) (first : ℕ) (stops spanStarts spanEnds s : List ℕ) (head count : ℕ) : Type 0 where
  pub serving : Serving n starts rows nz limit s₀ first s head count
  pub reached : ReachedTo n s stops head
  pub spans : Spans n starts rows nz stops spanStarts spanEnds s count
  pub span_starts_fit : n ≤ length spanStarts
  pub span_ends_fit : n ≤ length spanEnds

module _ {n : ℕ} {starts rows : List ℕ} {values : ℕ} (nz : ℕ → Bool) (F : Factor n starts rows values) where
  -- words that grow, and stops that are listed
  span_grown : {stops s : List ℕ} {count : ℕ} {stops' s' : List ℕ} {count' a first end : ℕ} → a < n → (0 < get_or stops a 0 → 0 < get_or stops' a 0)
      → Grown n s count s' count' → Span n starts rows nz stops s count a first end → Span n starts rows nz stops' s' count' a first end
  span_grown {s' = s'} {a = a} l kept G P = record {
    upto = omega (arith, P.upto, G.more);
    words = λ j lo hi.
        let o = P.words j lo hi in
        subst (λ (x : ℕ). (column_of x ≡ a) × Shared n starts rows nz s' (row_of x) a) (sym (G.words j (omega (arith, P.upto))))
        (o.0, shared_grown nz F l G o.1);
    reached = λ h. kept (P.reached h);
  }

  -- one more column's
  spans_more : (spanStarts spanEnds : List ℕ) {stops s : List ℕ} {count c first end : ℕ} → c < n → n ≤ length spanStarts → n ≤ length spanEnds
      → Spans n starts rows nz stops spanStarts spanEnds s count → Span n starts rows nz stops s count c first end
      → Spans n starts rows nz stops (set spanStarts c first) (set spanEnds c end) s count
  spans_more spanStarts spanEnds {stops} {s} {count} {c} {first} {end} l f e A P a h =
      elim (ℕ_discrete a c) [
        | yes q ↦
            let v : get_or (set spanStarts c first) a 0 ≡ first = ap (λ (y : ℕ). get_or (set spanStarts c first) y 0) q ∙ get_or-set_same spanStarts c first 0 (omega arith) in
            let u : get_or (set spanEnds c end) a 0 ≡ end = ap (λ (y : ℕ). get_or (set spanEnds c end) y 0) q ∙ get_or-set_same spanEnds c end 0 (omega arith) in
            subst₂ (Span n starts rows nz stops s count a) (sym v) (sym u) (subst (λ (y : ℕ). Span n starts rows nz stops s count y first end) (sym q) P)
        | no m ↦
            subst₂ (Span n starts rows nz stops s count a) (sym (get_or-set_other spanStarts c a first 0 m)) (sym (get_or-set_other spanEnds c a end 0 m)) (A a h)
      ]

-- the word at head is w, and its dependencies by the entries before p are marked
pub record Taken (n : ℕ) (starts rows : List ℕ) (nz : ℕ → Bool) (s : List ℕ) (head w p : ℕ) : Type 0 where
  pub here : queue_word n s head ≡ w
  pub from : start starts (column_of w) ≤ p
  pub deps : DepsTo n starts rows nz s (row_of w) (column_of w) p

-- the inner loop, which speaks of the words where it began; of a diagonal it adds pairs of its column and descendants
pub record QueueColumn (n : ℕ) (starts rows : List ℕ) (nz : ℕ → Bool) (limit : ℕ) (s₀ : List ℕ) (first head w : ℕ) (s : List ℕ) (count p : ℕ) : Type 0 where
  pub ahead : head < count
  pub low : count ≤ limit
  pub serving : Serving n starts rows nz limit s₀ first s head count
  pub taken : Taken n starts rows nz s head w p
  pub added : row_of w ≡ column_of w → (j : ℕ) → first ≤ j → j < count
      → (column_of (queue_word n s j) ≡ column_of w) × (descends (pattern starts rows nz) (column_of w) (row_of (queue_word n s j)) ≡ true)

-- the word is that of a marked pair
column_word : {n : ℕ} {starts rows : List ℕ} {nz : ℕ → Bool} {limit : ℕ} {s₀ : List ℕ} {first head w : ℕ} {s : List ℕ} {count p : ℕ}
    → QueueColumn n starts rows nz limit s₀ first head w s count p → Queued n s w
column_word {n} {head = head} {s = s} K = subst (λ (x : ℕ). Queued n s x) K.taken.here (K.serving.marked.queued head K.ahead)

module _ {n : ℕ} {starts rows : List ℕ} {values limit : ℕ} (nz : ℕ → Bool) {stops spanStarts spanEnds s₀ : List ℕ} {first : ℕ}
    (I : QueueInput n starts rows values nz stops spanStarts spanEnds limit s₀ first) where
  pub serving_none : Serving n starts rows nz limit s₀ first s₀ 0 first
  serving_none = record {
    marked = I.marked;
    grown = grown_none n s₀ first;
    within = λ S C W. W;
    done = λ j l. absurd (not-suc-le-zero l);
    behind = omega arith;
    most = omega (arith, I.low);
  }

  module _ {s : List ℕ} {head count : ℕ} (U₀ : Serving n starts rows nz limit s₀ first s head count) where
    -- the place of the word at head
    pub head_words : head < count → queue_start n + head < length s
    head_words l = omega (arith, U₀.marked.room, count_most U₀.marked)

    pub head_pairs : head < count → head < pair_total n
    head_pairs l = omega (arith, count_most U₀.marked)

    -- that word, as the code reads it
    pub word_queued : {w : ℕ} → head < count → w ≡ queue_word n s head → Queued n s w
    word_queued {w} l e = subst (λ (x : ℕ). Queued n s x) (sym e) (U₀.marked.queued head l)

    -- its column and the next are within the starts
    pub word_starts : {w : ℕ} → head < count → w ≡ queue_word n s head → column_of w + 1 < length starts
    word_starts l e = let Q = word_queued l e in omega (arith, I.factor.starts_rise.columns, Q.ordered, Q.inside)

    -- its column is one of the factor's
    pub word_inside : {w : ℕ} → head < count → w ≡ queue_word n s head → column_of w < n
    word_inside l e = let Q = word_queued l e in omega (arith, Q.ordered, Q.inside)

    -- its stop is stored
    pub word_end : {w stop : ℕ} → head < count → w ≡ queue_word n s head → Stop starts rows nz (column_of w) stop → ColumnEndInput (column_of w) stop starts rows
    word_end l e T =
        record { next = word_starts l e; stored = starts_end I.factor.starts_rise _ (omega (arith, word_inside l e)); after = T.after }

    -- the words at hand are those where the inner loop begins
    pub column_none : {w p : ℕ} → head < count → count ≤ limit → w ≡ queue_word n s head → p ≡ start starts (column_of w)
        → QueueColumn n starts rows nz limit s count head w s count p
    column_none {w} {p} l low e q = record {
      ahead = l;
      low = low;
      serving = record {
        marked = U₀.marked;
        grown = grown_none n s count;
        within = λ S C W. W;
        done = U₀.done;
        behind = U₀.behind;
        most = U₀.most;
      };
      taken = record {
        here = sym e;
        from = omega arith;
        deps = λ k lo hi t. absurd (omega arith);
      };
      added = λ q j lo hi. absurd (omega arith);
    }

    -- what the inner loop serves, the outer one does
    pub column_serving : {t : List ℕ} {head' count' : ℕ} → Serving n starts rows nz limit s count t head' count'
        → Serving n starts rows nz limit s₀ first t head' count'
    column_serving U = record {
      marked = U.marked;
      grown = grown_trans U₀.grown U.grown;
      within = λ S C W. U.within S C (U₀.within S C W);
      done = U.done;
      behind = U.behind;
      most = U.most;
    }

    module _ {w : ℕ} {t : List ℕ} {count' p : ℕ} (K : QueueColumn n starts rows nz limit s count head w t count' p) where
      -- the word is done
      pub serving_next : {stop e : ℕ} → Stop starts rows nz (column_of w) stop → EndOf starts rows stop (row_of w) (column_of w) e → e ≤ p
          → Serving n starts rows nz limit s₀ first t (head + 1) count'
      serving_next {stop} {e} T E h = column_serving (record {
        marked = K.serving.marked;
        grown = K.serving.grown;
        within = K.serving.within;
        done =
            done_more nz I.factor t head
            (subst (λ (x : ℕ). WordDone n starts rows nz t x) (sym K.taken.here) (word_done E))
            K.serving.done;
        behind = omega (arith, K.ahead);
        most = K.serving.most;
      })
        where
          word_done : EndOf starts rows stop (row_of w) (column_of w) e → WordDone n starts rows nz t w
          word_done (inl q) = inl (λ i lo hi. K.taken.deps i lo (omega arith))
          word_done (inr q) =
              let N = T.nested q.0 in
              let d = stop - 1 in
              let m = K.taken.deps d N.from (omega (arith, q.1, T.after q.0)) N.kept in
              let e₁ : max (row_of w) (row rows d) ≡ row_of w = omega (arith, q.2) in
              let e₂ : min (row_of w) (row rows d) ≡ row rows d = omega (arith, q.2) in
              inr (inl (record { place = d; nested = N; above = q.2; marked = subst₂ (λ (x y : ℕ). column_marking n t x y ≡ true) e₁ e₂ m }))

      -- and its column is listed
      pub listed_next : {stops₀ stops₁ : List ℕ} {stop : ℕ} → StopFound n (column_of w) starts rows nz stops₀ stops₁ stop → ReachedTo n s stops₀ head
          → ReachedTo n t stops₁ (head + 1)
      listed_next {stops₀} {stops₁} F L j l =
          ⊎_elim
          (λ q.
          let Q = column_word K in
          subst (λ (x : ℕ). 0 < get_or stops₁ (column_of x) 0) (sym (ap (queue_word n t) q ∙ K.taken.here))
          F.here)
          (λ q.
          subst (λ (x : ℕ). 0 < get_or stops₁ (column_of x) 0) (sym (K.serving.grown.words j (omega (arith, U₀.behind)))) (F.kept _ (L j q)))
          (eq-or-lt_of_le (le_of_suc-le-suc (rw add-one at l)))

    -- the queue is done
    pub finished : {stops₁ : List ℕ} → ReachedTo n s stops₁ head → count ≤ head → QueueClosed n starts rows nz limit s₀ first stops₁ s count
    finished {stops₁} L h = record {
      marked = U₀.marked;
      grown = U₀.grown;
      within = U₀.within;
      closed = λ low. done_closed nz I.factor s count I.small U₀.marked (λ j l. U₀.done j (omega arith));
      reached = λ low r c a b m.
          let f = U₀.marked.found r c a b m in
          let q : column_of (queue_word n s f.0) ≡ c = omega (arith, f.2, I.small) in
          subst (λ (x : ℕ). 0 < get_or stops₁ x 0) q (L f.0 (omega (arith, f.1)));
      most = U₀.most;
    }

-- ---- the outer loop

module _ {n : ℕ} {starts rows : List ℕ} {values limit : ℕ} (nz : ℕ → Bool) {stops spanStarts spanEnds s₀ : List ℕ} {first : ℕ}
    (I : QueueInput n starts rows values nz stops spanStarts spanEnds limit s₀ first) where
  pub ready_none : QueueLoop n starts rows nz limit s₀ first stops spanStarts spanEnds s₀ 0 first
  ready_none = record {
    serving = serving_none nz I;
    reached = λ j l. absurd (not-suc-le-zero l);
    spans = λ a l.
        let u = I.unset a l in
        record { upto = omega arith; words = λ j lo hi. absurd (omega arith); reached = λ h. absurd (omega arith) };
    span_starts_fit = I.span_starts_fit;
    span_ends_fit = I.span_ends_fit;
  }

  -- the limit is passed
  pub finished_past : {stops₁ s : List ℕ} {head count : ℕ} → limit < count → Serving n starts rows nz limit s₀ first s head count
      → QueueClosed n starts rows nz limit s₀ first stops₁ s count
  finished_past l U = record {
    marked = U.marked;
    grown = U.grown;
    within = U.within;
    closed = λ low. absurd (omega arith);
    reached = λ low. absurd (omega arith);
    most = U.most;
  }

  module _ {stops₁ spanStarts₁ spanEnds₁ s : List ℕ} {head count : ℕ} (R : QueueLoop n starts rows nz limit s₀ first stops₁ spanStarts₁ spanEnds₁ s head count) where
    -- the pairs that a diagonal added are passed over
    pub ready_skip : {c next : ℕ} → c < n → next ≡ after_span spanStarts₁ spanEnds₁ head c → head < next
        → QueueLoop n starts rows nz limit s₀ first stops₁ spanStarts₁ spanEnds₁ s next count
    ready_skip {c} {next} l e h = go (eqb (get_or spanStarts₁ c 0) head) refl e
      where
        P : Span n starts rows nz stops₁ s count c (get_or spanStarts₁ c 0) (get_or spanEnds₁ c 0)
        P = R.spans c l

        go : (b : Bool) → eqb (get_or spanStarts₁ c 0) head ≡ b → next ≡ cond b (get_or spanEnds₁ c 0) head
            → QueueLoop n starts rows nz limit s₀ first stops₁ spanStarts₁ spanEnds₁ s next count
        go true q m =
            let f = eqb-true (get_or spanStarts₁ c 0) head q in
            record {
              serving = record {
                marked = R.serving.marked;
                grown = R.serving.grown;
                within = R.serving.within;
                done = λ j b.
                    elim (dec_le head j) [
                      | yes x ↦
                          let o = P.words j (omega arith) (omega arith) in
                          inr (inr (subst (Shared n starts rows nz s (row_of (queue_word n s j))) (sym o.0) o.1))
                      | no x ↦ R.serving.done j (omega arith)
                    ];
                behind = omega (arith, P.upto);
                most = R.serving.most;
              };
              reached = λ j b.
                  elim (dec_le head j) [
                    | yes x ↦ subst (λ (y : ℕ). 0 < get_or stops₁ y 0) (sym (P.words j (omega arith) (omega arith)).0) (P.reached (omega arith))
                    | no x ↦ R.reached j (omega arith)
                  ];
              spans = R.spans;
              span_starts_fit = R.span_starts_fit;
              span_ends_fit = R.span_ends_fit;
            }
        go false q m = absurd (omega arith)

    module _ {w : ℕ} {t : List ℕ} {count' p : ℕ} (K : QueueColumn n starts rows nz limit s count head w t count' p) where
      word : Queued n t w
      word = column_word K

      -- what the end of a column asks
      pub column_done : {stop : ℕ} → Stop starts rows nz (column_of w) stop → EndColumnInput n (column_of w) stop count count' starts rows spanStarts₁ spanEnds₁ t
      column_done T =
          let c< : column_of w < n = omega (arith, word.ordered, word.inside) in
          record {
            small = I.small;
            inside = c<;
            next = omega (arith, I.factor.starts_rise.columns);
            stored = starts_end I.factor.starts_rise (column_of w + 1) (omega arith);
            rows_inside = I.factor.rows_ascend.inside;
            after = T.after;
            span_starts_fit = R.span_starts_fit;
            span_ends_fit = R.span_ends_fit;
            order = K.serving.grown.more;
            marked = K.serving.marked;
          }

      -- the word is done
      module _ {stops₂ : List ℕ} {stop e : ℕ} (F : StopFound n (column_of w) starts rows nz stops₁ stops₂ stop)
          (E : EndOf starts rows stop (row_of w) (column_of w) e) (h : e ≤ p) where
        ready_column : QueueLoop n starts rows nz limit s₀ first stops₂ spanStarts₁ spanEnds₁ t (head + 1) count'
        ready_column = record {
          serving = serving_next nz I R.serving K F.stop E h;
          reached = listed_next nz I R.serving K F R.reached;
          spans = λ a l. span_grown nz I.factor l (F.kept a) K.serving.grown (R.spans a l);
          span_starts_fit = R.span_starts_fit;
          span_ends_fit = R.span_ends_fit;
        }

        -- and so are those that a diagonal added, once the nested nested-descends's diagonal is inserted
        module _ (same : row_of w ≡ column_of w) (before : stop < start starts (column_of w + 1)) {t' : List ℕ} {m : ℕ}
            (J : Inserted n (row rows (stop - 1)) (row rows (stop - 1)) t count' t' m) where
          abbrev col : ℕ
          col = column_of w

          abbrev dia : ℕ
          dia = row rows (stop - 1)

          c< : col < n
          c< = omega (arith, word.ordered, word.inside)

          N : Nested starts rows nz col (stop - 1)
          N = F.stop.nested before

          d< : dia < n
          d< = nested_inside nz I.factor c< N

          nested_descends : descends (pattern starts rows nz) col dia ≡ true
          nested_descends = entry_descends nz I.factor col c< (stop - 1) N.from N.below N.kept

          lower : col < dia
          lower = (factor_pattern nz I.factor).below col dia c< nested_descends

          in_closed : (S : ℕ → ℕ → Bool) → Closed n (pattern starts rows nz) S → MarkedWithin n S t → S (max dia dia) (min dia dia) ≡ true
          in_closed S C W =
              let e₁ : max (row_of w) dia ≡ dia = omega (arith, lower) in
              let e₂ : min (row_of w) dia ≡ col = omega (arith, lower) in
              let x = C (row_of w) col dia word.ordered word.inside nested_descends (W (row_of w) col word.ordered word.inside word.marked) in
              C dia col dia (omega (arith, lower)) d< nested_descends (subst₂ (λ (y z : ℕ). S y z ≡ true) e₁ e₂ x)

          span : Span n starts rows nz stops₂ t' m col count count'
          span = record {
            upto = J.more;
            words = λ j lo hi.
                let a = K.added same j lo hi in
                let e₁ : max dia dia ≡ dia = omega arith in
                let e₂ : min dia dia ≡ dia = omega arith in
                subst (λ (x : ℕ). (column_of x ≡ col) × Shared n starts rows nz t' (row_of x) col) (sym (J.words j hi)) (
                  a.0,
                  record {
                    place = stop - 1;
                    nested = N;
                    below = a.1;
                    marked = subst₂ (λ (y z : ℕ). column_marking n t' y z ≡ true) e₁ e₂ (inserted_here J d< d<);
                  },
                );
            reached = λ b. F.here;
          }

          ready_diagonal : QueueLoop n starts rows nz limit s₀ first stops₂ (set spanStarts₁ col count) (set spanEnds₁ col count') t' (head + 1) m
          ready_diagonal = record {
            serving = serving_insert nz I.factor ready_column.serving K.low J in_closed;
            reached = λ j l.
                subst (λ (x : ℕ). 0 < get_or stops₂ (column_of x) 0) (sym (J.words j (omega (arith, K.ahead)))) (ready_column.reached j l);
            spans =
                spans_more nz I.factor spanStarts₁ spanEnds₁ c< R.span_starts_fit R.span_ends_fit
                (λ a l. span_grown nz I.factor l (λ x. x) (inserted_grown J) (ready_column.spans a l)) span;
            span_starts_fit = rw length-set R.span_starts_fit;
            span_ends_fit = rw length-set R.span_ends_fit;
          }

        pub ready_next : {spanStarts₂ spanEnds₂ t' : List ℕ} {m : ℕ}
            → ColumnEnded n (row_of w) (column_of w) stop count count' starts rows spanStarts₁ spanEnds₁ t spanStarts₂ spanEnds₂ t' m
            → QueueLoop n starts rows nz limit s₀ first stops₂ spanStarts₂ spanEnds₂ t' (head + 1) m
        ready_next {spanStarts₂} {spanEnds₂} {t'} (inl q) =
            subst₂ (λ (x : List ℕ) (y : ℕ). QueueLoop n starts rows nz limit s₀ first stops₂ spanStarts₂ spanEnds₂ x (head + 1) y) (sym q.3) (sym q.4)
            (subst₂ (λ (x y : List ℕ). QueueLoop n starts rows nz limit s₀ first stops₂ x y t (head + 1) count') (sym q.1) (sym q.2) ready_column)
        ready_next {spanStarts₂} {spanEnds₂} {t'} {m} (inr q) =
            subst₂ (λ (x y : List ℕ). QueueLoop n starts rows nz limit s₀ first stops₂ x y t' (head + 1) m) (sym q.2) (sym q.3)
            (ready_diagonal q.0 q.1 q.4)

-- ---- one stored entry

module _ {n : ℕ} {starts rows : List ℕ} {values limit : ℕ} (nz : ℕ → Bool) {stops spanStarts spanEnds s₀ : List ℕ} {first : ℕ}
    (I : QueueInput n starts rows values nz stops spanStarts spanEnds limit s₀ first) {s₁ : List ℕ} {first₁ head w : ℕ} {s : List ℕ} {count p : ℕ}
    (K : QueueColumn n starts rows nz limit s₁ first₁ head w s count p) where
  abbrev r : ℕ
  r = row_of w

  abbrev c : ℕ
  c = column_of w

  pub entry_word : Queued n s w
  entry_word = column_word K

  module _ (hi : p < start starts (column_of w + 1)) where
    -- it is within the rows and the values
    pub entry_rows_lem : p < length rows
    entry_rows_lem = let Q = entry_word in omega (arith, starts_end I.factor.starts_rise (c + 1) (omega (arith, Q.ordered, Q.inside)))

    entry_values_lem : p < values
    entry_values_lem = omega (arith, entry_rows_lem, I.factor.valued)

    -- one that is not kept below the diagonal is passed over
    pub column_skip : kept_below rows nz c p ≡ false → QueueColumn n starts rows nz limit s₁ first₁ head w s count (p + 1)
    column_skip e = record {
      ahead = K.ahead;
      low = K.low;
      serving = K.serving;
      taken = record {
        here = K.taken.here;
        from = omega (arith, K.taken.from);
        deps = deps_more nz I.factor s r c p (λ t. absurd (true≢false (sym t ∙ e))) K.taken.deps;
      };
      added = K.added;
    }

    module _ {k : ℕ} (e : k ≡ row rows p) where
      -- the dependency by it can be inserted
      pub entry_insert : InsertInput n (row_of w) k s count
      entry_insert =
          let Q = entry_word in
          record {
            small = I.small;
            first = Q.inside;
            second = omega (arith, I.factor.rows_ascend.inside p entry_rows_lem);
            marked = K.serving.marked;
          }

      module _ (b : kept_below rows nz (column_of w) p ≡ true) {t : List ℕ} {count' : ℕ} (J : Inserted n (row_of w) k s count t count') where
        descendant : descends (pattern starts rows nz) c (row rows p) ≡ true
        descendant = let Q = entry_word in entry_descends nz I.factor c (omega (arith, Q.ordered, Q.inside)) p K.taken.from hi b

        pub serving_more : Serving n starts rows nz limit s₁ first₁ t head count'
        serving_more =
            let Q = entry_word in
            serving_insert nz I.factor K.serving K.low J
            (λ S C W.
            subst (λ (x : ℕ). S (max r x) (min r x) ≡ true) (sym e)
            (C r c (row rows p) Q.ordered Q.inside descendant (W r c Q.ordered Q.inside Q.marked)))

        -- of a diagonal a pair of its column and a descendant is added
        added_more : r ≡ c → (j : ℕ) → first₁ ≤ j → j < count'
            → (column_of (queue_word n t j) ≡ c) × (descends (pattern starts rows nz) c (row_of (queue_word n t j)) ≡ true)
        added_more q j lo l =
            elim (dec_le count j) [
              | yes m ↦
                  let Q = entry_word in
                  let x : j ≡ count = omega (arith, J.most) in
                  let v : queue_word n t j ≡ packed (max r k) (min r k) = ap (queue_word n t) x ∙ J.last (omega arith) in
                  let lower = ltb-true c (row rows p) (and_left (ltb c (row rows p)) (nz p) b) in
                  let below = I.factor.rows_ascend.inside p entry_rows_lem in
                  let e₁ : column_of (queue_word n t j) ≡ c = omega (arith, Q.inside, I.small) in
                  let e₂ : row_of (queue_word n t j) ≡ row rows p = omega (arith, Q.inside, I.small) in
                  (e₁, subst (λ (y : ℕ). descends (pattern starts rows nz) c y ≡ true) (sym e₂) descendant)
              | no m ↦
                  subst (λ (y : ℕ). (column_of y ≡ c) × (descends (pattern starts rows nz) c (row_of y) ≡ true)) (sym (J.words j (omega arith)))
                  (K.added q j lo (omega arith))
            ]

        pub column_more : count' ≤ limit → QueueColumn n starts rows nz limit s₁ first₁ head w t count' (p + 1)
        column_more low =
            let Q = entry_word in
            record {
              ahead = omega (arith, K.ahead, J.more);
              low = low;
              serving = serving_more;
              taken = record {
                here = J.words head K.ahead ∙ K.taken.here;
                from = omega (arith, K.taken.from);
                deps =
                    deps_more nz I.factor t r c p (λ _. subst (λ (x : ℕ). column_marking n t (max r x) (min r x) ≡ true) e (inserted_here J Q.inside (omega (arith, I.factor.rows_ascend.inside p entry_rows_lem))))
                    (deps_grown nz I.factor r c p Q.ordered Q.inside (omega arith) (inserted_grown J) K.taken.deps);
              };
              added = added_more;
            }

-- closing a word's pair ends within its column
pub word_most : (starts rows : List ℕ) (w : ℕ) {stop e : ℕ} → EndOf starts rows stop (row_of w) (column_of w) e → e ≤ start starts (column_of w + 1)
word_most starts rows w (inl q) = omega arith
word_most starts rows w (inr q) = omega (arith, q.0, q.1)

-- an entry is passed over for its row or for its value
pub above_dropped : (rows : List ℕ) (nz : ℕ → Bool) (c p : ℕ) {k : ℕ} → k ≡ row rows p → k ≤ c → kept_below rows nz c p ≡ false
above_dropped rows nz c p e h = ap (λ (b : Bool). b && nz p) (le-ltb c (row rows p) (omega arith))

pub zero_dropped : (rows : List ℕ) (nz : ℕ → Bool) (c p : ℕ) → nz p ≡ false → kept_below rows nz c p ≡ false
zero_dropped rows nz c p e = go (ltb c (row rows p))
  where
    go : (b : Bool) → (b && nz p) ≡ false
    go true = e
    go false = refl

pub entry_kept : (rows : List ℕ) (nz : ℕ → Bool) (c p : ℕ) {k : ℕ} → k ≡ row rows p → c < k → nz p ≡ true → kept_below rows nz c p ≡ true
entry_kept rows nz c p e h t = and_both (ltb c (row rows p)) (nz p) (lt-ltb c (row rows p) (omega arith)) t
