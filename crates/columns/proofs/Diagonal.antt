-- Laws of specs/Diagonal.antt.
use Rattle.std.specs.Prelude.{ℕ, ◌+◌, ◌≤◌, ◌<◌, ◌≡◌, Bool, ◌&&◌, ◌||◌, leb, eqb, Float}
use Rattle.std.proofs.Common.{eq-or-lt_of_le, arith, sym, subst, ◌∙◌, leb-false, eqb-true, le-leb, eq-eqb, ne_eqb}
use Rattle.std.proofs.Math.Path.{refl, ap}
use Rattle.std.proofs.Math.Bool.{true, false, not, or-true}
use mathlib.Core.List.{List, []}
use Rattle.std.proofs.Math.Logic.{⊎_elim}
use Rattle.std.specs.Float.Ieee.{ne, le, lt, eq}
use Rattle.std.proofs.lemmas.Bool.{eqb-false, not-false}
use Rattle.lists.specs.Test.{any, any_in, any_below, any_all, any-hit, any_in_below, any_in_found, any_in_all, any_in-hit}
use Rattle.lists.specs.Test.{and_left, and_right, and_both, or_cases, or_neither_left, or_neither_right}
use Rattle.lists.specs.Select.{select_at, select_holds}
use Rattle.refusal.specs.Steps.{Passed, Clear, verdict, refused}
use Rattle.refusal.proofs.Steps.{first_hit, first_skip, passed_clear, clear_passed}
use Rattle.columns.specs.Columns.{factor_lists, start, row, value, outside_at}
use Rattle.columns.specs.Kept.{f0, nonzero, kept, kept_diagonal, diag}
use Rattle.columns.specs.Factor.{Sorted, Factor, Column, FirstFrom}
use Rattle.columns.proofs.Factor.{neither_below, rows_once, factor_column}
use Rattle.columns.specs.Diagonal.{no_diagonal, non_positive, low_diagonal, diagonal_steps, bad_between, bad_diagonal, Diagonal, Diagonals}

-- ---- a kept diagonal
module _ (rows : List ℕ) (nz : ℕ → Bool) (c p : ℕ) (t : kept_diagonal rows nz c p ≡ true) where
  -- its row, and that it is not 0
  pub kept_diagonal_row : row rows p ≡ c
  kept_diagonal_row = eqb-true _ _ (and_left (eqb (row rows p) c) (nz p) t)

  pub kept_diagonal-nonzero : nz p ≡ true
  kept_diagonal-nonzero = and_right (eqb (row rows p) c) (nz p) t

  -- and that it is kept
  pub kept_diagonal_kept : kept rows nz c p ≡ true
  kept_diagonal_kept = and_both (leb c (row rows p)) (nz p) (le-leb c (row rows p) (omega (arith, kept_diagonal_row))) kept_diagonal-nonzero

-- a column with a kept diagonal has exactly one
pub diagonal_one : {n : ℕ} {starts rows : List ℕ} (nz : ℕ → Bool) → Sorted n starts rows → (c : ℕ) → c < n
    → no_diagonal starts rows nz c ≡ false → Diagonal starts rows nz c
diagonal_one {n} {starts} {rows} nz R c h e =
    let f = any_in_found (kept_diagonal rows nz c) (start starts c) (start starts (c + 1)) (not-false _ e) in
    record {
      place = f.0;
      from = f.1;
      below = f.2;
      kept = f.3;
      only = λ q lo hi t. rows_once R c q f.0 h lo hi f.1 f.2 (kept_diagonal_row rows nz c q t ∙ sym (kept_diagonal_row rows nz c f.0 f.3));
    }

module _ {starts rows : List ℕ} {c : ℕ} where
  -- a column with a kept diagonal is not without
  pub diagonal_there : (nz : ℕ → Bool) → Diagonal starts rows nz c → no_diagonal starts rows nz c ≡ false
  diagonal_there nz D = ap not (any_in-hit (kept_diagonal rows nz c) (start starts c) (start starts (c + 1)) D.place D.from D.below D.kept)

  -- its value is the column's diagonal
  pub diagonal_value : (values : List Float) (D : Diagonal starts rows (nonzero values) c) → diag starts rows values c ≡ value values D.place
  diagonal_value values D =
      let g = select_holds (kept_diagonal rows (nonzero values) c) (start starts c) (start starts (c + 1)) D.place D.from D.below D.kept in
      let a = D.from in
      let b = D.below in
      let u = select_at (kept_diagonal rows (nonzero values) c) (start starts c) (start starts (c + 1)) 0 (omega arith) (omega (arith, g.1)) in
      ap (value values) (D.only _ u.from u.below u.passes)

-- ---- the steps pass exactly if the record holds
module _ (n : ℕ) (starts rows : List ℕ) (values : List Float) where
  pub diagonal_steps-sound : Sorted n starts rows → Passed (diagonal_steps (factor_lists n starts rows values)) → Diagonals n starts rows values
  unfolding diagonal_steps
  diagonal_steps-sound R e = record { diagonal = one; positive = high }
    where
      clear : Clear (diagonal_steps (factor_lists n starts rows values))
      clear = passed_clear (diagonal_steps (factor_lists n starts rows values)) e

      one : (c : ℕ) → c < n → Diagonal starts rows (nonzero values) c
      one c h = diagonal_one (nonzero values) R c h (any_below (no_diagonal starts rows (nonzero values)) n c clear.0 h)

      high : (c : ℕ) → c < n → le (diag starts rows values c) f0 ≡ false
      high c h =
          let D = one c h in
          let k : kept_diagonal rows (nonzero values) c D.place ≡ true = D.kept in
          let low = any_below (low_diagonal starts rows values) n c clear.1.0 h in
          rw (diagonal_value values D) (rw k at (any_in_below (non_positive rows values c) _ _ D.place low D.from D.below))

  pub diagonal_steps_passed : Diagonals n starts rows values → Passed (diagonal_steps (factor_lists n starts rows values))
  unfolding diagonal_steps
  diagonal_steps_passed P =
      clear_passed (diagonal_steps (factor_lists n starts rows values)) (
        any_all (no_diagonal starts rows (nonzero values)) n (λ c h. diagonal_there (nonzero values) (P.diagonal c h)),
        (any_all (low_diagonal starts rows values) n (λ c h. any_in_all (non_positive rows values c) _ _ (high c h)), tt),
      )
    where
      high : (c : ℕ) → c < n → (q : ℕ) → start starts c ≤ q → q < start starts (c + 1) → non_positive rows values c q ≡ false
      high c h q lo hi = go (kept_diagonal rows (nonzero values) c q) refl
        where
          go : (b : Bool) → kept_diagonal rows (nonzero values) c q ≡ b → (b && le (value values q) f0) ≡ false
          go true t = let D = P.diagonal c h in rw (D.only q lo hi t, ← diagonal_value values D) (P.positive c h)
          go false t = refl

  -- a bad column refuses, none passes
  pub diagonal_steps-refused : (c : ℕ) → c < n → bad_diagonal starts rows values c ≡ true → verdict (diagonal_steps (factor_lists n starts rows values)) ≡ refused 6
  unfolding diagonal_steps bad_between
  diagonal_steps-refused c h t =
      ⊎_elim
      (λ a. first_hit 6 _ tt (any-hit (no_diagonal starts rows (nonzero values)) n c h a))
      (λ b. go (any (no_diagonal starts rows (nonzero values)) n) refl (any-hit (low_diagonal starts rows values) n c h b))
      (or_cases (no_diagonal starts rows (nonzero values) c) (low_diagonal starts rows values c) t)
    where
      go : (a : Bool) → any (no_diagonal starts rows (nonzero values)) n ≡ a → any (low_diagonal starts rows values) n ≡ true
          → verdict (diagonal_steps (factor_lists n starts rows values)) ≡ refused 6
      go true p q = first_hit 6 _ tt p
      go false p q = first_skip 6 _ tt p (first_hit 6 [] tt q)

  pub diagonal_steps-clear : any (bad_diagonal starts rows values) n ≡ false → Passed (diagonal_steps (factor_lists n starts rows values))
  unfolding diagonal_steps bad_between
  diagonal_steps-clear e =
      let bad : (c : ℕ) → c < n → bad_diagonal starts rows values c ≡ false = λ c h. any_below (bad_diagonal starts rows values) n c e h in
      clear_passed (diagonal_steps (factor_lists n starts rows values)) (
        any_all (no_diagonal starts rows (nonzero values)) n (λ c h. or_neither_left _ _ (bad c h)),
        (any_all (low_diagonal starts rows values) n (λ c h. or_neither_right (no_diagonal starts rows (nonzero values) c) _ (bad c h)), tt),
      )

-- ---- rows ascend, so one place decides
module _ {c : ℕ} {rows : List ℕ} {count s e p : ℕ} (C : Column rows count s e) (F : FirstFrom c rows s e p) where
  -- a place whose row is c is the first from c on
  pub first_from_only : (q : ℕ) → s ≤ q → q < e → row rows q ≡ c → q ≡ p
  first_from_only q lo hi r =
      let a : q < p → ⊥ = λ l. let z : row rows q < c = leb-false _ _ (any_in_below (outside_at c rows) s p q F.before lo l) in omega arith in
      let b : p < q → ⊥ = λ l. let z = C.ascends p q F.from l hi in let y = F.stops (omega arith) in omega arith in
      neither_below q p a b

  -- later rows are below the diagonal
  pub first_from_below : (q : ℕ) → p < q → q < e → c < row rows q
  first_from_below q l hi = let z = C.ascends p q F.from l hi in let y = F.stops (omega arith) in omega arith

  -- from the first place on no row is above the diagonal
  pub first_from_from : (q : ℕ) → p ≤ q → q < e → c ≤ row rows q
  first_from_from q lo hi =
      ⊎_elim
      (λ m. let y = F.stops (omega arith) in omega (arith, ap (row rows) m))
      (λ l. let y = first_from_below q l hi in omega arith)
      (eq-or-lt_of_le lo)

  -- before it no entry is kept
  pub first_from_dropped : (nz : ℕ → Bool) (q : ℕ) → s ≤ q → q < p → kept rows nz c q ≡ false
  first_from_dropped nz q lo hi = rw (any_in_below (outside_at c rows) s p q F.before lo hi)

  elsewhere : (nz : ℕ → Bool) (q : ℕ) → s ≤ q → q < e → (q ≡ p → ⊥) → kept_diagonal rows nz c q ≡ false
  elsewhere nz q lo hi off = rw (ne_eqb (row rows q) c (λ r. off (first_from_only q lo hi r)))

  at_place : (test : ℕ → Bool) → (p < e → test p ≡ false) → ((q : ℕ) → s ≤ q → q < e → (q ≡ p → ⊥) → test q ≡ false) → (q : ℕ) → s ≤ q → q < e → test q ≡ false
  at_place test here others q lo hi = by_cases (eqb q p) refl
    where
      by_cases : (b : Bool) → eqb q p ≡ b → test q ≡ false
      by_cases true t = let m = eqb-true q p t in subst (λ (k : ℕ). test k ≡ false) (sym m) (here (subst (λ (k : ℕ). k < e) m hi))
      by_cases false t = others q lo hi (eqb-false q p t)

  module _ (values : List Float) where
    -- without a diagonal at the first place there is none
    pub bad_between-absent : (p < e → kept_diagonal rows (nonzero values) c p ≡ false) → bad_between rows values c s e ≡ true
    unfolding bad_between
    bad_between-absent off =
        let none = any_in_all (kept_diagonal rows (nonzero values) c) s e (at_place (kept_diagonal rows (nonzero values) c) off (elsewhere (nonzero values))) in
        ap (λ (b : Bool). not b || any_in (non_positive rows values c) s e) none

    bad_between_present : p < e → kept_diagonal rows (nonzero values) c p ≡ true → bad_between rows values c s e ≡ le (value values p) f0
    unfolding bad_between
    bad_between_present l k =
        ap (λ (b : Bool). not b || any_in (non_positive rows values c) s e) (any_in-hit (kept_diagonal rows (nonzero values) c) s e p F.from l k)
        ∙ by_value (le (value values p) f0) refl
      where
        by_value : (b : Bool) → le (value values p) f0 ≡ b → any_in (non_positive rows values c) s e ≡ b
        by_value true t = any_in-hit (non_positive rows values c) s e p F.from l (rw k t)
        by_value false t =
            any_in_all (non_positive rows values c) s e
            (at_place (non_positive rows values c) (λ m. rw k t)
            (λ q lo hi off. ap (λ (b : Bool). b && le (value values q) f0) (elsewhere (nonzero values) q lo hi off)))

    dropped_le : (v : Float) → ne v f0 ≡ false → le v f0 ≡ true
    unfolding ne le
    dropped_le v e = rw (not-false (eq v f0) e) (or-true (lt v f0))

    -- the entry at the first place decides by its value alone: a dropped one is at most 0.0
    pub bad_between_here : p < e → row rows p ≡ c → bad_between rows values c s e ≡ le (value values p) f0
    bad_between_here l r = by_kept (ne (value values p) f0) refl
      where
        same : eqb (row rows p) c ≡ true
        same = eq-eqb (row rows p) c r

        by_kept : (b : Bool) → ne (value values p) f0 ≡ b → bad_between rows values c s e ≡ le (value values p) f0
        by_kept true k = bad_between_present l (rw same k)
        by_kept false k = bad_between-absent (λ m. rw same k) ∙ sym (dropped_le (value values p) k)

-- the first place of a column's rows from its own number on is its kept diagonal
pub first_from_diagonal : {n : ℕ} {starts rows : List ℕ} {count c p : ℕ} (nz : ℕ → Bool) → Factor n starts rows count → c < n → (D : Diagonal starts rows nz c)
    → FirstFrom c rows (start starts c) (start starts (c + 1)) p → p ≡ D.place
first_from_diagonal {n} {starts} {rows} {count} {c} nz F h D P =
    sym (first_from_only (factor_column F c h) P D.place D.from D.below (kept_diagonal_row rows nz c D.place D.kept))
