-- Laws of specs/Numbers.antt.
use Rattle.std.specs.Prelude.{ℕ, ◌+◌, ◌*◌, ◌<◌, ◌≡◌, refl, Bool, true, false, ◌||◌, ◌&&◌, List, ltb, eqb, length, get_or, Float, pos}
use Rattle.std.proofs.Common.{arith, sym, ap, ◌∙◌, true≢false, ltb-false, lt-ltb, eq-eqb}
use Rattle.std.proofs.lemmas.List.{length-map}
use Rattle.std.specs.Float.{nan, inf, fin}
use Rattle.std.specs.Float.Ieee.{of_bits, up, down, below, level, lt, le, eq}
use Rattle.std.specs.Float.Ieee.Scale.{finite}
use Rattle.std.proofs.lemmas.Bool.{eqb-false}
use Rattle.lists.specs.Test.{and_both, or_neither_left, or_neither_right}
use Rattle.lists.specs.Select.{select_at}
use Rattle.takahashi.specs.Entries.{Entry}
use Rattle.columns.specs.Columns.{start}
use Rattle.columns.specs.Kept.{f0, nonzero, kept_below, desc_places, diag, desc, pattern}
use Rattle.columns.specs.Factor.{Factor}
use Rattle.columns.specs.Stored.{FiniteEntries}
use Rattle.columns.specs.Diagonal.{Diagonals}
use Rattle.columns.proofs.Diagonal.{kept_diagonal_kept, diagonal_value}
use Rattle.columns.proofs.Pattern.{kept_below_kept, desc_at}
use Rattle.columns.specs.Numbers.{Numbers}

-- ---- a finite value that is not at most 0.0 is above it

-- b is below ±a where that is not at most b
over : (s : Bool) (a b : ℕ) → (below s a false b || level s a false b) ≡ false → below false b s a ≡ true
over false a b e = by_equal (eqb a b) refl (or_neither_right (ltb a b) (level false a false b) e)
  where
    by_equal : (t : Bool) → eqb a b ≡ t → (t && true) ≡ false → ltb b a ≡ true
    by_equal true q f = absurd (true≢false f)
    by_equal false q f = lt-ltb b a (omega (arith, ltb-false a b (or_neither_left (ltb a b) (level false a false b) e), eqb-false a b q))
over true a b e =
    let z = ltb-false 0 (a + b) (or_neither_left (ltb 0 (a + b)) (level true a false b) e) in
    let x : a ≡ b = omega arith in
    let y : a ≡ 0 = omega arith in
    absurd
    (true≢false (sym (and_both (eqb a b) (eqb a 0) (eq-eqb a b x) (eq-eqb a 0 y)) ∙ or_neither_right (ltb 0 (a + b)) (level true a false b) e))

above_zero : (v : Float) → finite v ≡ true → le v f0 ≡ false → lt f0 v ≡ true
unfolding lt le eq of_bits
above_zero nan f e = absurd (true≢false (sym f))
above_zero (inf s) f e = absurd (true≢false (sym f))
above_zero (fin s m k) f e = over s (m * up k * down (pos 0)) (0 * up (pos 0) * down k) e

-- ---- the numbers of a factor that passes
module _ {n : ℕ} {starts rows : List ℕ} (values : List Float) (F : Factor n starts rows (length values)) (E : FiniteEntries n starts rows values)
    (D : Diagonals n starts rows values) where
  finite_diagonal : (c : ℕ) → c < n → finite (diag starts rows values c) ≡ true
  finite_diagonal c h =
      let d = D.diagonal c h in
      let p = d.place in
      ap finite (diagonal_value values d) ∙ E.finite_kept c p h d.from d.below (kept_diagonal_kept rows (nonzero values) c p d.kept)

  finite_descendant : (c i : ℕ) (d : Entry Float) → c < n → i < length (pattern starts rows (nonzero values) c)
      → finite (get_or (desc starts rows values c) i d).value ≡ true
  finite_descendant c i d h l =
      let u = select_at (kept_below rows (nonzero values) c) (start starts c) (start starts (c + 1)) i (F.starts_rise.rising c h) (rw length-map at l) in
      let p = get_or (desc_places starts rows (nonzero values) c) i 0 in
      ap (λ (e : Entry Float). finite e.value) (desc_at starts rows values c i d l)
      ∙ E.finite_kept c p h u.from u.below (kept_below_kept rows (nonzero values) c p u.passes)

  pub numbers : Numbers n starts rows values
  numbers = record {
    diagonal_finite = finite_diagonal;
    diagonal_positive = λ c h. above_zero (diag starts rows values c) (finite_diagonal c h) (D.positive c h);
    descendant_finite = finite_descendant;
  }
