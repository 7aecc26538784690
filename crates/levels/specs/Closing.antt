-- Closing level by level: the dependencies of the pairs at one level are given the next.
-- Assumes nothing.
use Prim.Native.Nat.{ℕ, suc, ◌+◌, ◌*◌, ◌≤◌, ◌<◌, min, max}
use native.Mathlib.Omega.{arith}
use Rattle.std.proofs.Math.Decide.{dec_lt}
use Rattle.std.specs.Prelude.{◌≡◌, Bool, ◌&&◌, List, length, get_or, drop}
use Rattle.std.proofs.Math.Path.{refl, ap}
use Rattle.std.proofs.Common.{sym, ap₂, subst₂, ◌∙◌, ⊎_elim}
use Rattle.std.proofs.Math.Bool.{true, false, cond}
use Rattle.std.proofs.lemmas.Bool.{false≢true}
use Rattle.lists.specs.Test.{any, any_in, any-hit, any_found, any_in-hit, any_in_found, same_truth, and_left, and_right, and_both, not_so}
use Rattle.refusal.specs.Bounds.{max_dimension}
use Rattle.pairs.specs.Pair.{pair_total, ordered}
use Rattle.pairs.proofs.Pair.{ordered_is, is_ordered}
use Rattle.pairs.specs.Scratch.{row_of, column_of, packed}
use Rattle.pairs.proofs.Scratch.{row_packed, column_packed}
use Rattle.columns.specs.Columns.{start, row}
use Rattle.columns.specs.Kept.{kept_below, pattern}
use Rattle.columns.specs.Factor.{Factor}
use Rattle.closed_set.specs.ClosedSet.{reach, member, Pattern, Ranged, Needed, Leads}
use Rattle.closed_set.proofs.ClosedSet.{descends_at, descends_found, needed_range}
use Rattle.closed_set.proofs.FactorPattern.{entry_descends, descends_entry}
use Rattle.closed_set.specs.Requests.{Requests}
use Rattle.chains.specs.Distance.{distance}
use Rattle.chains.proofs.Distance.{reach-distance, distance-request}
use Rattle.chains.specs.Levels.{level_at, After}
use Rattle.chains.proofs.Levels.{reach_level, level_last, level_at_own, level_at_stays, level_at_new}
use Rattle.levels.specs.Levels.{level_word, level_queue, Levelled, raised, Raised, raised_stays, raised_in, raised_out}

-- (x, y) is a dependency of (a, b)
unfoldable pub depends : (ℕ → List ℕ) → ℕ → ℕ → ℕ → ℕ → Bool
depends desc a b x y = any (λ k. ordered a (get_or (desc b) k 0) x y) (length (desc b))

-- (x, y) is a dependency of the pair of a word
abbrev pub word_depends : (ℕ → List ℕ) → ℕ → ℕ → ℕ → Bool
word_depends desc w x y = depends desc (row_of w) (column_of w) x y

-- a factor, a pair of the closed set, the level of its dependencies, and the words that they are inserted into
pub record ClosePairInput (n : ℕ) (starts rows : List ℕ) (values r c level : ℕ) (s : List ℕ) (count : ℕ) : Type 0 where
  pub small : n ≤ max_dimension
  pub factor : Factor n starts rows values
  pub ordered : c ≤ r
  pub inside : r < n
  pub positive : 0 < level
  pub levels : Levelled n s count

-- an entry of a factor's column c, a pair of that column, the level of its dependency, and the words that it is inserted into
pub record CloseEntryInput (n : ℕ) (rows : List ℕ) (values r c p level : ℕ) (s : List ℕ) (count : ℕ) : Type 0 where
  pub small : n ≤ max_dimension
  pub stored : p < length rows
  pub weighed : p < values
  pub row_inside : row rows p < n
  pub inside : r < n
  pub positive : 0 < level
  pub levels : Levelled n s count

-- a factor, the next level, and the words whose queue it is taken from, up to hi
pub record CloseLevelInput (n : ℕ) (starts rows : List ℕ) (values lo hi level : ℕ) (s : List ℕ) : Type 0 where
  pub small : n ≤ max_dimension
  pub factor : Factor n starts rows values
  pub rises : lo ≤ hi
  pub positive : 0 < level
  pub levels : Levelled n s hi

-- the requested pairs have level 1, and no other pair has one
pub record LevelOne (n : ℕ) (req : ℕ → ℕ → Bool) (s₀ s : List ℕ) (count : ℕ) : Type 0 where
  pub long : length s ≡ length s₀
  pub words : (r c : ℕ) → c ≤ r → r < n → level_word n s r c ≡ cond (req r c) 1 0
  pub levels : Levelled n s count
  pub later : drop (pair_total n + pair_total n) s ≡ drop (pair_total n + pair_total n) s₀

-- the pairs within k dependencies have their levels, 1 more than their distance; those at distance k stand in the queue from lo to below hi
pub record AtLevel (n : ℕ) (desc : ℕ → List ℕ) (req : ℕ → ℕ → Bool) (k : ℕ) (s : List ℕ) (lo hi : ℕ) : Type 0 where
  pub levels : Levelled n s hi
  pub rises : lo ≤ hi
  pub words : (r c : ℕ) → c ≤ r → r < n → level_word n s r c ≡ level_at n desc req k r c
  pub own : (j : ℕ) → lo ≤ j → j < hi → level_word n s (row_of (level_queue n s j)) (column_of (level_queue n s j)) ≡ suc k
  pub all : (r c : ℕ) → c ≤ r → r < n → level_word n s r c ≡ suc k → (j : ℕ) × (lo ≤ j) × (j < hi) × (level_queue n s j ≡ packed r c)

-- requests, and words for the levels of their pairs
pub record MarkLevelsInput (n : ℕ) (rs cs s : List ℕ) : Type 0 where
  pub small : n ≤ max_dimension
  pub requests : Requests n rs cs
  pub room : pair_total n + pair_total n ≤ length s

-- a factor and requests, and words for the levels of the pairs of their closed set
pub record LevelPairsInput (n : ℕ) (starts rows : List ℕ) (values : ℕ) (rs cs s : List ℕ) : Type 0 where
  pub factor : Factor n starts rows values
  pub marks : MarkLevelsInput n rs cs s

-- every pair of the closed set has a level, 1 more than its distance from the requested pairs, and no other pair has one
pub record AllLevels (n : ℕ) (desc : ℕ → List ℕ) (req : ℕ → ℕ → Bool) (s₀ s : List ℕ) : Type 0 where
  pub long : length s ≡ length s₀
  pub words : (r c : ℕ) → c ≤ r → r < n → level_word n s r c ≡ level_at n desc req (2 * n) r c
  pub later : drop (pair_total n + pair_total n) s ≡ drop (pair_total n + pair_total n) s₀

-- ---- dependencies

module _ (desc : ℕ → List ℕ) (a b x y : ℕ) where
  pub depends_leads : depends desc a b x y ≡ true → Leads desc a b x y
  unfolding depends
  depends_leads e =
      let f = any_found (λ k. ordered a (get_or (desc b) k 0) x y) (length (desc b)) e in
      let o = ordered_is a (get_or (desc b) f.0 0) x y f.2 in
      (get_or (desc b) f.0 0, descends_at desc b f.0 f.1, o.0, o.1)

  pub leads_depends : Leads desc a b x y → depends desc a b x y ≡ true
  unfolding depends
  leads_depends (d, m, p, q) =
      let f = descends_found desc b d m in
      any-hit (λ k. ordered a (get_or (desc b) k 0) x y) (length (desc b)) f.0 f.1
      (is_ordered a (get_or (desc b) f.0 0) x y (p ∙ ap (max a) (sym f.2)) (q ∙ ap (min a) (sym f.2)))

-- the dependencies of (r, c) are its row with those of the entries kept below the diagonal of column c
pub column_depends : {n : ℕ} {starts rows : List ℕ} {values : ℕ} (nz : ℕ → Bool) → Factor n starts rows values → (r c : ℕ) → c < n → (x y : ℕ)
    → any_in (λ p. kept_below rows nz c p && ordered r (row rows p) x y) (start starts c) (start starts (c + 1)) ≡ depends (pattern starts rows nz) r c x y
column_depends {n} {starts} {rows} nz F r c h x y =
    same_truth _ _
    (λ e.
    let f = any_in_found (λ p. kept_below rows nz c p && ordered r (row rows p) x y) (start starts c) (start starts (c + 1)) e in
    let o = ordered_is r (row rows f.0) x y (and_right (kept_below rows nz c f.0) _ f.3) in
    leads_depends (pattern starts rows nz) r c x y (row rows f.0, entry_descends nz F c h f.0 f.1 f.2 (and_left _ _ f.3), o.0, o.1))
    (λ e.
    let w = depends_leads (pattern starts rows nz) r c x y e in
    let g = descends_entry nz F c h w.0 w.1 in
    any_in-hit (λ p. kept_below rows nz c p && ordered r (row rows p) x y) (start starts c) (start starts (c + 1)) g.0 g.1 g.2
    (and_both _ _ g.3 (is_ordered r (row rows g.0) x y (w.2 ∙ ap (max r) (sym g.4)) (w.3 ∙ ap (min r) (sym g.4)))))

-- ---- from level to level

module _ (n : ℕ) (desc : ℕ → List ℕ) (req : ℕ → ℕ → Bool) (k r c : ℕ) where
  level_at_some : reach desc req k r c ≡ true → 0 < level_at n desc req k r c
  unfolding level_at
  level_at_some e = rw e (omega arith)

  level_at_none : reach desc req k r c ≡ false → level_at n desc req k r c ≡ 0
  unfolding level_at
  level_at_none e = rw e refl

  level_at_most : level_at n desc req k r c ≤ suc k
  unfolding level_at
  level_at_most = go (reach desc req k r c) refl
    where
      go : (b : Bool) → reach desc req k r c ≡ b → cond b (suc (distance n desc req r c)) 0 ≤ suc k
      go true e = omega (arith, reach-distance n desc req k r c e)
      go false e = omega arith

module _ (n : ℕ) (desc : ℕ → List ℕ) (req : ℕ → ℕ → Bool) (P : Pattern n desc) (R : Ranged n req) where
  -- requested pairs are those at distance 0
  level_one : (r c : ℕ) → cond (req r c) 1 0 ≡ level_at n desc req 0 r c
  unfolding level_at reach
  level_one r c = go (req r c) refl
    where
      go : (b : Bool) → req r c ≡ b → cond b 1 0 ≡ cond b (suc (distance n desc req r c)) 0
      go true e = ap suc (sym ((distance-request n desc req P R (Needed.request e)).1 e))
      go false e = refl

  pub one_level : {s₀ s : List ℕ} {count : ℕ} → LevelOne n req s₀ s count → AtLevel n desc req 0 s 0 count
  one_level {s₀} {s} {count} L = record {
    levels = L.levels;
    rises = omega arith;
    words = λ r c h l. L.words r c h l ∙ level_one r c;
    own = λ j lo hi.
        let Q = L.levels.queued j hi in
        small (req (row_of (level_queue n s j)) (column_of (level_queue n s j))) (L.words _ _ Q.ordered Q.inside) Q.placed;
    all = λ r c h l e.
        let f = L.levels.found r c h l (omega (arith, e)) in
        (f.0, omega arith, f.1, f.2);
  }
    where
      small : {w : ℕ} (b : Bool) → w ≡ cond b 1 0 → 0 < w → w ≡ 1
      small true e h = e
      small false e h = absurd (omega (arith, e))

  -- the words with the next level for the dependencies of the queue's pairs from lo to below hi
  module _ {k : ℕ} {s s' : List ℕ} {lo hi count : ℕ} (A : AtLevel n desc req k s lo hi)
      (B : Raised n (suc (suc k)) (λ x y. any_in (λ j. word_depends desc (level_queue n s j) x y) lo hi) s hi s' count) where
    abbrev test : ℕ → ℕ → ℕ → Bool
    test x y j = word_depends desc (level_queue n s j) x y

    -- a pair that the test holds of is a dependency of one at distance k
    after : (x y : ℕ) → any_in (test x y) lo hi ≡ true → After n desc req P R k x y
    after x y e =
        let f = any_in_found (test x y) lo hi e in
        let j = f.0 in
        let w = level_queue n s j in
        let Q = A.levels.queued j f.2 in
        let o = (level_at_own n desc req P R k (row_of w) (column_of w) Q.ordered).0 (sym (A.words _ _ Q.ordered Q.inside) ∙ A.own j f.1 f.2) in
        (row_of w, column_of w, o.0, depends_leads desc (row_of w) (column_of w) x y f.3, o.1)

    -- and such a pair passes it
    before : n ≤ max_dimension → (x y : ℕ) → After n desc req P R k x y → any_in (test x y) lo hi ≡ true
    before small x y (a, b, s₁, w, e) =
        let g = needed_range desc req n P R s₁ in
        let u : level_word n s a b ≡ suc k = A.words a b g.0 g.1 ∙ (level_at_own n desc req P R k a b g.0).1 (s₁, e) in
        let f = A.all a b g.0 g.1 u in
        let p : row_of (level_queue n s f.0) ≡ a = ap row_of f.3 ∙ row_packed a b (omega (arith, g)) in
        let q : column_of (level_queue n s f.0) ≡ b = ap column_of f.3 ∙ column_packed a b (omega (arith, g)) in
        any_in-hit (test x y) lo hi f.0 f.1 f.2 (ap₂ (λ (i j : ℕ). depends desc i j x y) p q ∙ leads_depends desc a b x y w)

    next_word : n ≤ max_dimension → (x y : ℕ) → y ≤ x → x < n → level_word n s' x y ≡ level_at n desc req (suc k) x y
    next_word small x y h l = B.words x y h l ∙ of (reach desc req k x y) refl
      where
        of : (b : Bool) → reach desc req k x y ≡ b
            → raised (suc (suc k)) (λ r c. any_in (test r c) lo hi) (level_word n s) x y ≡ level_at n desc req (suc k) x y
        of true e =
            raised_stays (suc (suc k)) (level_word n s) x y (λ r c. any_in (test r c) lo hi) (omega (arith, A.words x y h l, level_at_some n desc req k x y e))
            ∙ A.words x y h l
            ∙ sym (level_at_stays n desc req P R k x y e)
        of false e = go (any_in (test x y) lo hi) refl
          where
            none : level_word n s x y ≡ 0
            none = A.words x y h l ∙ level_at_none n desc req k x y e

            go : (b : Bool) → any_in (test x y) lo hi ≡ b → raised (suc (suc k)) (λ r c. any_in (test r c) lo hi) (level_word n s) x y ≡ level_at n desc req (suc k) x y
            go true t =
                raised_in (suc (suc k)) (level_word n s) x y (λ r c. any_in (test r c) lo hi) none t
                ∙ sym (level_at_new n desc req P R k x y h e (after x y t))
            go false t =
                raised_out (suc (suc k)) (level_word n s) x y (λ r c. any_in (test r c) lo hi) none t
                ∙ sym (level_at_none n desc req (suc k) x y
                (not_so _ (λ u. ⊎_elim
                (λ v. false≢true (sym e ∙ v))
                (λ v. false≢true (sym t ∙ before small x y v))
                ((reach_level n desc req P R k x y h).0 u))))

    pub level_next : n ≤ max_dimension → AtLevel n desc req (suc k) s' hi count
    level_next small = record {
      levels = B.levels;
      rises = B.more;
      words = next_word small;
      own = B.new;
      all = λ r c h l e.
          let f = B.levels.found r c h l (omega (arith, e)) in
          elim (dec_lt f.0 hi) [
            | yes u ↦ absurd (old r c h l e f.0 u (sym (B.queue f.0 u) ∙ f.2))
            | no u ↦ (f.0, omega arith, f.1, f.2)
          ];
    }
      where
        -- a pair of the queue before has a lower level, and keeps it
        old : (r c : ℕ) → c ≤ r → r < n → level_word n s' r c ≡ suc (suc k) → (j : ℕ) → j < hi → level_queue n s j ≡ packed r c → ⊥
        old r c h l e j u q =
            let Q = A.levels.queued j u in
            let p : row_of (level_queue n s j) ≡ r = ap row_of q ∙ row_packed r c (omega arith) in
            let t : column_of (level_queue n s j) ≡ c = ap column_of q ∙ column_packed r c (omega arith) in
            let w : 0 < level_word n s r c = subst₂ (λ (x y : ℕ). 0 < level_word n s x y) p t Q.placed in
            let z = B.words r c h l ∙ raised_stays (suc (suc k)) (level_word n s) r c (λ x y. any_in (test x y) lo hi) w in
            omega (arith, e, z, A.words r c h l, level_at_most n desc req k r c)

  -- once a level has no pair, every pair of the closed set has its level
  pub level_end : {k : ℕ} {s₀ s : List ℕ} {lo : ℕ} → AtLevel n desc req k s lo lo → length s ≡ length s₀
      → drop (pair_total n + pair_total n) s ≡ drop (pair_total n + pair_total n) s₀
      → AllLevels n desc req s₀ s
  unfolding level_at member
  level_end {k} {s₀} {s} {lo} A long later = record {
    long = long;
    words = λ r c h l. A.words r c h l ∙ ap (λ (b : Bool). cond b (suc (distance n desc req r c)) 0) (level_last n desc req P R k none r c h l);
    later = later;
  }
    where
      none : (a b : ℕ) → Needed desc req a b → distance n desc req a b ≡ k → ⊥
      none a b s₁ e =
          let g = needed_range desc req n P R s₁ in
          let f = A.all a b g.0 g.1 (A.words a b g.0 g.1 ∙ (level_at_own n desc req P R k a b g.0).1 (s₁, e)) in
          omega (arith, f.1, f.2)
