-- Whether the entries after a column's first descendant have their rows kept in that descendant's column: what each step asks and gives.
-- Assumes nothing.
use Rattle.std.specs.Prelude.{ℕ, ◌+◌, ◌-◌, ◌≤◌, ◌<◌, max, ◌≡◌, Bool, true, false, not, List, ltb, eqb, length, get_or, set, replicate}
use Rattle.std.proofs.Common.{arith, sym, ap, subst, ◌∙◌, length-set, get_or-set_same, get_or-set_other, lt-ltb, eqb-true}
use Rattle.std.proofs.Math.Decide.{dec_le, ℕ_discrete}
use Rattle.std.proofs.lemmas.Bool.{false≢true, not-false}
use Rattle.std.proofs.lemmas.List.{length-replicate, get_or-replicate}
use Rattle.lists.specs.Test.{any_in, any_in_below, and_right, and_both}
use Rattle.refusal.specs.Bounds.{max_dimension}
use Rattle.columns.specs.Columns.{start, row}
use Rattle.columns.specs.Kept.{kept_below, pattern}
use Rattle.columns.specs.Factor.{Factor}
use Rattle.columns.proofs.Factor.{factor_column}
use Rattle.closed_set.specs.ClosedSet.{descends}
use Rattle.closed_set.proofs.FactorPattern.{entry_descends, descends_entry}
use Rattle.closure.specs.Nested.{Nested, Stop, Stops, Unlisted, StopFound}

-- q is the first place from s to below e that is kept below the diagonal of column c, e if none
pub record FirstKept (c s e : ℕ) (rows : List ℕ) (nz : ℕ → Bool) (q : ℕ) : Type 0 where
  pub from : s ≤ q
  pub upto : q ≤ e
  pub before : any_in (kept_below rows nz c) s q ≡ false
  pub kept : q < e → kept_below rows nz c q ≡ true

-- places up to e, of which i and those from j on are stored
pub record PlaceInput (rows : List ℕ) (values i j e : ℕ) : Type 0 where
  pub entry : i < length rows
  pub weighed : i < values
  pub ordered : j ≤ e
  pub stored : e ≤ length rows
  pub valued : e ≤ values

-- k is a place from j to below e that has the row of i and is not 0, if i is not 0; or e
pub record Place (rows : List ℕ) (nz : ℕ → Bool) (i j e k : ℕ) : Type 0 where
  pub from : j ≤ k
  pub upto : k ≤ e
  pub kept : k < e → nz i ≡ true → nz k ≡ true
  pub same : k < e → nz i ≡ true → row rows k ≡ row rows i

-- places from a to below b and from s to below e are stored
pub record CoveredInput (rows : List ℕ) (values a b s e : ℕ) : Type 0 where
  pub ordered : a ≤ b
  pub stored : b ≤ length rows
  pub weighed : b ≤ values
  pub ordered' : s ≤ e
  pub stored' : e ≤ length rows
  pub weighed' : e ≤ values

-- each place from a to below b that is not 0 has its row at a place from s to below e that is not 0
pub record Covered (rows : List ℕ) (nz : ℕ → Bool) (a b s e : ℕ) : Type 0 where
  pub found : (i : ℕ) → a ≤ i → i < b → nz i ≡ true → (j : ℕ) × (s ≤ j) × (j < e) × (nz j ≡ true) × (row rows j ≡ row rows i)

-- the row at i, of those from a on, is another than the one as far from j on
abbrev pub other_row : List ℕ → ℕ → ℕ → ℕ → Bool
other_row rows a j i = not (eqb (row rows i) (row rows (j + (i - a))))

-- ---- one entry

-- it is 0, and there is nothing to find
pub place_zero : {rows : List ℕ} {nz : ℕ → Bool} (i j : ℕ) {e : ℕ} → j ≤ e → nz i ≡ false → Place rows nz i j e j
place_zero i j h z = record {
  from = omega arith;
  upto = h;
  kept = λ l t. absurd (false≢true (sym z ∙ t));
  same = λ l t. absurd (false≢true (sym z ∙ t));
}

-- its row is not there
pub place_none : {rows : List ℕ} {nz : ℕ → Bool} {i j e : ℕ} → j ≤ e → Place rows nz i j e e
place_none h = record { from = h; upto = omega arith; kept = λ l t. absurd (omega arith); same = λ l t. absurd (omega arith) }

-- ---- the walk

module _ {rows : List ℕ} {nz : ℕ → Bool} {a s e : ℕ} where
  pub covered_none : Covered rows nz a a s e
  covered_none = record { found = λ i lo hi t. absurd (omega arith) }

  -- one entry more
  pub covered_more : {i j k : ℕ} → s ≤ j → Covered rows nz a i s e → Place rows nz i j e k → k < e → Covered rows nz a (i + 1) s e
  covered_more {i} {j} {k} lo C P l = record {
    found = λ x from below t.
        elim (dec_le i x) [
          | yes m ↦
              (let q : i ≡ x = omega arith in
              subst (λ (y : ℕ). (j : ℕ) × (s ≤ j) × (j < e) × (nz j ≡ true) × (row rows j ≡ row rows y)) q
              (let u : nz i ≡ true = ap nz q ∙ t in (k, omega (arith, P.from), l, P.kept l u, P.same l u)))
          | no m ↦ C.found x from (omega arith) t
        ];
  }

-- ---- entries in order

-- the rows are those from j on, none of which is 0
pub covered_order : (rows : List ℕ) (nz : ℕ → Bool) (a b s e j : ℕ) → s ≤ j → j + (b - a) ≤ e → any_in (other_row rows a j) a b ≡ false
    → ((p : ℕ) → j ≤ p → p < j + (b - a) → nz p ≡ true) → Covered rows nz a b s e
covered_order rows nz a b s e j lo hi same kept = record {
  found = λ i from below t. (
    j + (i - a),
    omega arith,
    omega arith,
    kept (j + (i - a)) (omega arith) (omega arith),
    sym (eqb-true (row rows i) (row rows (j + (i - a))) (not-false _ (any_in_below (other_row rows a j) a b i same from below))),
  );
}

-- ---- one column

module _ {n : ℕ} {starts rows : List ℕ} {values : ℕ} (F : Factor n starts rows values) (c : ℕ) (h : c < n) where
  -- the row of an entry is a column
  pub entry_inside : (q : ℕ) → q < start starts (c + 1) → row rows q < n
  entry_inside q hi = F.rows_ascend.inside q (omega (arith, (factor_column F c h).stored))

  -- the two columns' entries
  pub cover_input : (q : ℕ) → start starts c ≤ q → q < start starts (c + 1)
      → CoveredInput rows values (q + 1) (start starts (c + 1)) (start starts (row rows q)) (start starts (row rows q + 1))
  cover_input q lo hi =
      let C = factor_column F c h in
      let D = factor_column F (row rows q) (entry_inside q hi) in
      record {
        ordered = omega arith;
        stored = C.stored;
        weighed = C.weighed;
        ordered' = D.ordered;
        stored' = D.stored;
        weighed' = D.weighed;
      }

  -- the place is such as `Nested` says
  pub cover_nested : (nz : ℕ → Bool) (q : ℕ) → FirstKept c (start starts c) (start starts (c + 1)) rows nz q → q < start starts (c + 1)
      → Covered rows nz (q + 1) (start starts (c + 1)) (start starts (row rows q)) (start starts (row rows q + 1))
      → Nested starts rows nz c q
  cover_nested nz q K hi C = record {
    from = K.from;
    below = hi;
    kept = K.kept hi;
    rest = λ d t other.
        let f = descends_entry nz F c h d t in
        after d other f.0 f.1 f.2 f.3 f.4;
  }
    where
      p : ℕ
      p = row rows q

      inside : p < n
      inside = entry_inside q hi

      later : (i : ℕ) → q < i → i < start starts (c + 1) → nz i ≡ true → descends (pattern starts rows nz) p (row rows i) ≡ true
      later i l below t =
          let g = C.found i (omega arith) below t in
          let r : p < row rows i = (factor_column F c h).ascends q i K.from l below in
          subst (λ (d : ℕ). descends (pattern starts rows nz) p d ≡ true) g.4
          (entry_descends nz F p inside g.0 g.1 g.2
          (and_both (ltb p (row rows g.0)) (nz g.0) (lt-ltb p (row rows g.0) (omega (arith, g.4))) g.3))

      after : (d : ℕ) → (d ≡ p → ⊥) → (i : ℕ) → start starts c ≤ i → i < start starts (c + 1) → kept_below rows nz c i ≡ true → row rows i ≡ d
          → descends (pattern starts rows nz) p d ≡ true
      after d other i from below t e =
          elim (dec_le i q) [
            | yes m ↦ absurd (earlier m)
            | no m ↦ subst (λ (x : ℕ). descends (pattern starts rows nz) p x ≡ true) e (later i (omega arith) below (and_right (ltb c (row rows i)) _ t))
          ]
        where
          earlier : i ≤ q → ⊥
          earlier m =
              elim (dec_le q i) [
                | yes o ↦ (let w : i ≡ q = omega arith in other (sym e ∙ ap (row rows) w))
                | no o ↦ false≢true (sym (any_in_below (kept_below rows nz c) (start starts c) q i K.before from (omega arith)) ∙ t)
              ]

-- ---- stops

pub unlisted : {n : ℕ} → n ≤ max_dimension → Unlisted n (replicate max_dimension 0)
unlisted h = record {
  fits = rw (length-replicate {A = ℕ} max_dimension 0) h;
  none = λ c l. get_or-replicate {A = ℕ} max_dimension c 0 0 (omega arith);
}

module _ {starts rows : List ℕ} {nz : ℕ → Bool} where
  -- a column's place, and its end
  pub stop_at : {c q : ℕ} → Nested starts rows nz c q → Stop starts rows nz c (q + 1)
  stop_at {c} {q} N = record {
    upto = omega (arith, N.below);
    after = λ l. omega arith;
    nested = λ l. let e : q ≡ (q + 1) - 1 = omega arith in subst (λ (k : ℕ). Nested starts rows nz c k) e N;
  }

  pub stop_end : {c e : ℕ} → e ≡ start starts (c + 1) → Stop starts rows nz c e
  stop_end q = record { upto = omega arith; after = λ l. absurd (omega arith); nested = λ l. absurd (omega arith) }

  -- a stop as it is listed
  pub stop_one : {c r : ℕ} → Stop starts rows nz c r → Stop starts rows nz c (max 1 r)
  stop_one {c} {r} T = elim (dec_le 1 r) [
    | yes q ↦ (let e : r ≡ max 1 r = omega arith in subst (λ (k : ℕ). Stop starts rows nz c k) e T)
    | no q ↦
        (let none : start starts (c + 1) < 1 = elim (dec_le 1 (start starts (c + 1))) [ yes l ↦ absurd (omega (arith, T.after (omega arith))) | no l ↦ omega arith ] in
        record { upto = omega (arith, T.upto); after = λ l. omega arith; nested = λ l. absurd (omega arith) })
  ]

  -- none is listed
  pub stops_none : {n : ℕ} {stops : List ℕ} → Unlisted n stops → Stops n starts rows nz stops
  stops_none U = record { fits = U.fits; stop = λ c l o. absurd (omega (arith, U.none c l)) }

  -- a column's stop is listed
  pub stop_found : {n c : ℕ} {stops : List ℕ} {r : ℕ} → c < n → Stops n starts rows nz stops → get_or stops c 0 ≡ 0 → 0 < r → Stop starts rows nz c r
      → StopFound n c starts rows nz stops (set stops c r) r
  stop_found {n} {c} {stops} {r} inside S none some T = record {
    long = length-set stops c r;
    kept = λ a h.
        elim (ℕ_discrete a c) [
          | yes q ↦ absurd (omega (arith, ap (λ (y : ℕ). get_or stops y 0) q))
          | no m ↦ omega (arith, get_or-set_other stops c a r 0 m)
        ];
    here = omega (arith, some, get_or-set_same stops c r 0 (omega (arith, S.fits)));
    reached = record {
      fits = rw length-set S.fits;
      stop = λ x l o.
          elim (ℕ_discrete c x) [
            | yes q ↦
                (let v : get_or (set stops c r) x 0 ≡ r = ap (λ (y : ℕ). get_or (set stops c r) y 0) (sym q) ∙ get_or-set_same stops c r 0 (omega (arith, S.fits)) in
                subst (λ (y : ℕ). Stop starts rows nz y (get_or (set stops c r) x 0)) q (subst (λ (y : ℕ). Stop starts rows nz c y) (sym v) T))
            | no m ↦
                (let v : get_or (set stops c r) x 0 ≡ get_or stops x 0 = get_or-set_other stops c x r 0 (λ q. m (sym q)) in
                subst (λ (y : ℕ). Stop starts rows nz x y) (sym v) (S.stop x l (omega (arith, v))))
          ];
    };
    stop = T;
  }
