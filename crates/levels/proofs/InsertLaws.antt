-- A pair given a level and put at the queue's end, and words without a level.
-- Assumes nothing.
use Prim.Native.Nat.{ℕ, ◌+◌, ◌≤◌, ◌<◌, min, max}
use native.Mathlib.Omega.{arith}
use native.Mathlib.Nat.{not-suc-le-zero, eq-or-lt_of_le, le_of_suc-le-suc}
use native.Mathlib.Numerals.{add-one}
use mathlib.Core.Path.{◌≡◌, refl, sym, ap, ap₂, subst, subst₂, ◌∙◌}
use mathlib.Core.Bool.{Bool, true, false}
use mathlib.Core.Logic.{⊎_elim}
use mathlib.Core.List.{List}
use lib.Dec.{eqb, ltb}
use lib.ListN.{length, get_or, set, drop, length-set}
use lib.Seq.{get_or-set_same, get_or-set_other, drop-set-lt}
use borrow.Author.Tests.{eqb-true, eq-eqb, lt-ltb, le-ltb}
use Rattle.lists.specs.Test.{and_left, and_right, and_both}
use Rattle.lists.specs.Sum.{bit, sum_to_zero, sum_to_one}
use Rattle.lists.specs.Overwrite.{cleared, filled_at, filled-length, filled_later}
use Rattle.refusal.specs.Bounds.{max_dimension}
use Rattle.pairs.specs.Pair.{pair_total, ordered}
use Rattle.pairs.specs.Scratch.{packed, row_of, column_of}
use Rattle.pairs.specs.ColumnOrder.{column_place, set_size}
use Rattle.pairs.proofs.ColumnOrder.{column_place_below, column_place_same, set_size_sum, set_size_cong, set_size_most}
use Rattle.levels.specs.Levels.{level_word, levelled, level_queue, raised, QueuedLevel, Levelled, Raised, raised_stays, raised_in, raised_other}

module _ (n r c level : ℕ) (h : c ≤ r) (l : r < n) where
  high : max r c ≡ r
  high = omega arith

  low : min r c ≡ c
  low = omega arith

  -- the pair alone is the one
  one_pair : (x y : ℕ) → ordered r c x y ≡ true → (r ≡ x) × (c ≡ y)
  one_pair x y e = (sym high ∙ eqb-true (max r c) x (and_left _ _ e), sym low ∙ eqb-true (min r c) y (and_right (eqb (max r c) x) _ e))

  pair_one : ordered r c r c ≡ true
  pair_one = and_both _ _ (eq-eqb (max r c) r high) (eq-eqb (min r c) c low)

  -- a pair that has a level keeps it
  pub insert_old : {s : List ℕ} {count : ℕ} → Levelled n s count → 0 < level_word n s r c → Raised n level (ordered r c) s count s count
  insert_old {s} {count} L old = record {
    long = refl;
    words = λ x y k m. held x y (ordered r c x y) refl;
    levels = L;
    queue = λ j m. refl;
    more = omega arith;
    new = λ j a b. absurd (omega arith);
    later = refl;
  }
    where
      held : (x y : ℕ) (t : Bool) → ordered r c x y ≡ t → level_word n s x y ≡ raised level (ordered r c) (level_word n s) x y
      held x y true e =
          let q = one_pair x y e in
          sym (raised_stays level (level_word n s) x y (ordered r c) (subst₂ (λ (a b : ℕ). 0 < level_word n s a b) q.0 q.1 old))
      held x y false e = sym (raised_other level (level_word n s) x y (ordered r c) e)

  -- one without is given it: its word, and one of the queue, are written
  module _ {s : List ℕ} {count : ℕ} (small : n ≤ max_dimension) (positive : 0 < level) (L : Levelled n s count) (new : level_word n s r c ≡ 0) where
    abbrev place : ℕ
    place = column_place n r c

    abbrev end : ℕ
    end = pair_total n + count

    abbrev mid : List ℕ
    mid = set s place level

    abbrev s' : List ℕ
    s' = set mid end (packed r c)

    below : place < pair_total n
    below = column_place_below n r c h l

    mid_here : level_word n mid r c ≡ level
    mid_here = get_or-set_same s place level 0 (omega (arith, below, L.room))

    grows : set_size n (levelled n mid) ≡ set_size n (levelled n s) + 1
    grows =
        set_size_sum n (levelled n mid) (λ q. bit (ltb 0 (get_or mid q 0))) (λ x y k m. refl)
        ∙ sum_to_one (λ q. bit (ltb 0 (get_or s q 0))) (λ q. bit (ltb 0 (get_or mid q 0))) (pair_total n) place below
        (ap bit (le-ltb 0 (level_word n s r c) (omega (arith, new))))
        (ap bit (lt-ltb 0 (level_word n mid r c) (omega (arith, mid_here))))
        (λ q m d. ap (λ (w : ℕ). bit (ltb 0 w)) (get_or-set_other s place q level 0 d))
        ∙ ap (λ (k : ℕ). k + 1) (sym (set_size_sum n (levelled n s) (λ q. bit (ltb 0 (get_or s q 0))) (λ x y k m. refl)))

    -- there is a word left
    pub end_room : count < pair_total n
    end_room = omega (arith, L.size, grows, set_size_most n (levelled n mid))

    same_word : (x y : ℕ) → y ≤ x → x < n → level_word n s' x y ≡ level_word n mid x y
    same_word x y k m = get_or-set_other mid end (column_place n x y) (packed r c) 0 (omega (arith, column_place_below n x y k m))

    words' : (x y : ℕ) → y ≤ x → x < n → level_word n s' x y ≡ raised level (ordered r c) (level_word n s) x y
    words' x y k m = same_word x y k m ∙ of (ordered r c x y) refl
      where
        of : (t : Bool) → ordered r c x y ≡ t → level_word n mid x y ≡ raised level (ordered r c) (level_word n s) x y
        of true e =
            let q = one_pair x y e in
            ap₂ (level_word n mid) (sym q.0) (sym q.1)
            ∙ mid_here
            ∙ sym (raised_in level (level_word n s) x y (ordered r c) (ap₂ (level_word n s) (sym q.0) (sym q.1) ∙ new) e)
        of false e = get_or-set_other s place (column_place n x y) level 0 apart ∙ sym (raised_other level (level_word n s) x y (ordered r c) e)
          where
            apart : column_place n x y ≡ place → ⊥
            apart q =
                let w = column_place_same n r c x y h l k m (sym q) in
                let u : ordered r c x y ≡ true = and_both _ _ (eq-eqb (max r c) x (high ∙ w.0)) (eq-eqb (min r c) y (low ∙ w.1)) in
                let z : ◌≡◌ {A = ℕ} 0 1 = ap bit (sym e ∙ u) in
                omega arith

    queue' : (j : ℕ) → j < count → level_queue n s' j ≡ level_queue n s j
    queue' j m =
        get_or-set_other mid end (pair_total n + j) (packed r c) 0 (omega arith)
        ∙ get_or-set_other s place (pair_total n + j) level 0 (omega (arith, below))

    last_word : level_queue n s' count ≡ packed r c
    last_word = get_or-set_same mid end (packed r c) 0 (simp length-set (omega (arith, end_room, L.room)))

    long' : length s' ≡ length s
    long' = length-set mid end (packed r c) ∙ length-set s place level

    kept : (x y : ℕ) → y ≤ x → x < n → 0 < level_word n s x y → 0 < level_word n s' x y
    kept x y k m t = omega (arith, words' x y k m, raised_stays level (level_word n s) x y (ordered r c) t)

    here : level_word n s' r c ≡ level
    here = same_word r c h l ∙ mid_here

    row_of_lem : row_of (packed r c) ≡ r
    row_of_lem = omega arith

    column_of_lem : column_of (packed r c) ≡ c
    column_of_lem = omega arith

    queued' : (j : ℕ) → j < count + 1 → QueuedLevel n s' (level_queue n s' j)
    queued' j m =
        ⊎_elim
        (λ q. subst (λ (i : ℕ). QueuedLevel n s' (level_queue n s' i)) (sym q) (subst (λ (w : ℕ). QueuedLevel n s' w) (sym last_word) last))
        (λ q. let Q = L.queued j q in
        subst (λ (w : ℕ). QueuedLevel n s' w) (sym (queue' j q))
        (record { ordered = Q.ordered; inside = Q.inside; placed = kept _ _ Q.ordered Q.inside Q.placed }))
        (eq-or-lt_of_le (le_of_suc-le-suc (rw add-one at m)))
      where
        last : QueuedLevel n s' (packed r c)
        last = record {
          ordered = omega (arith, row_of_lem, column_of_lem);
          inside = omega (arith, row_of_lem);
          placed = subst₂ (λ (x y : ℕ). 0 < level_word n s' x y) (sym row_of_lem) (sym column_of_lem) (omega (arith, here));
        }

    found' : (x y : ℕ) → y ≤ x → x < n → 0 < level_word n s' x y → (j : ℕ) × (j < count + 1) × (level_queue n s' j ≡ packed x y)
    found' x y k m t = of (ordered r c x y) refl
      where
        of : (b : Bool) → ordered r c x y ≡ b → (j : ℕ) × (j < count + 1) × (level_queue n s' j ≡ packed x y)
        of true e = let q = one_pair x y e in (count, omega arith, last_word ∙ ap₂ packed q.0 q.1)
        of false e =
            let w : 0 < level_word n s x y = omega (arith, t, words' x y k m, raised_other level (level_word n s) x y (ordered r c) e) in
            let f = L.found x y k m w in
            (f.0, omega (arith, f.1), queue' f.0 f.1 ∙ f.2)

    pub insert_new : Raised n level (ordered r c) s count s' (count + 1)
    insert_new = record {
      long = long';
      words = words';
      levels = record {
        room = omega (arith, L.room, long');
        size = omega (arith, L.size, grows, set_size_cong n (levelled n s') (levelled n mid) (λ x y k m. ap (ltb 0) (same_word x y k m)));
        queued = queued';
        found = found';
      };
      queue = queue';
      more = omega arith;
      new = λ j lo hi.
          let q : j ≡ count = omega arith in
          let e : level_queue n s' j ≡ packed r c = ap (level_queue n s') q ∙ last_word in
          ap (λ (w : ℕ). level_word n s' (row_of w) (column_of w)) e ∙ ap₂ (level_word n s') row_of_lem column_of_lem ∙ here;
      later =
          drop-set-lt (pair_total n + pair_total n) mid end (packed r c) (omega (arith, end_room))
          ∙ drop-set-lt (pair_total n + pair_total n) s place level (omega (arith, below));
    }

-- words without a level, made of the words s₀
pub record NoLevels (n : ℕ) (s₀ s : List ℕ) : Type 0 where
  pub levels : Levelled n s 0
  pub words : (r c : ℕ) → c ≤ r → r < n → level_word n s r c ≡ 0
  pub long : length s ≡ length s₀
  pub later : drop (pair_total n + pair_total n) s ≡ drop (pair_total n + pair_total n) s₀

-- cleared words have none
pub levels_none : (n : ℕ) (s₀ s : List ℕ) → pair_total n + pair_total n ≤ length s₀ → s ≡ cleared (pair_total n) s₀ → NoLevels n s₀ s
levels_none n s₀ s room z = record {
  levels = record {
    room = omega (arith, long);
    size =
        sym
        (set_size_sum n (levelled n s) (λ q. bit (ltb 0 (get_or s q 0))) (λ r c k m. refl)
        ∙ sum_to_zero _ (pair_total n) (λ q l. ap (λ (w : ℕ). bit (ltb 0 w)) (clear q l)));
    queued = λ j l. absurd (not-suc-le-zero l);
    found = λ r c h l t. absurd (omega (arith, t, clear (column_place n r c) (column_place_below n r c h l)));
  };
  words = λ r c h l. clear (column_place n r c) (column_place_below n r c h l);
  long = long;
  later = ap (drop (pair_total n + pair_total n)) z ∙ filled_later (λ _. 0) (pair_total n) (pair_total n + pair_total n) s₀ (omega arith);
}
  where
    long : length s ≡ length s₀
    long = ap length z ∙ filled-length (λ _. 0) (pair_total n) s₀ (omega arith)

    clear : (q : ℕ) → q < pair_total n → get_or s q 0 ≡ 0
    clear q l = ap (λ (x : List ℕ). get_or x q 0) z ∙ filled_at (λ _. 0) (pair_total n) s₀ q 0 l
