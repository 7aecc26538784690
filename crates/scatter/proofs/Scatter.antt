-- Laws of specs/Scatter.antt.
use Rattle.std.specs.Prelude.{◌≡◌, List, ℕ, zero, ◌+◌, get_or, set}
use Rattle.std.proofs.Math.Path.{refl}
use Rattle.std.proofs.Math.Numerals.{add-one}
use Rattle.refusal.specs.Bounds.{max_dimension}
use Rattle.takahashi.specs.Recurrence.{Arithmetic}
use Rattle.scatter.specs.Scatter.{clear, unmarks, steps, step_sum}

-- ---- one turn more
pub clear_none : {W : Type 0} (x : W) (sums : List W) → sums ≡ clear x sums 0
unfolding clear
clear_none x sums = refl

pub unmarks_none : (rows : List ℕ) (a : ℕ) (marker : List ℕ) → marker ≡ unmarks rows a marker 0
unfolding unmarks
unmarks_none rows a marker = refl

pub unmarks_next : (rows : List ℕ) (a : ℕ) (marker : List ℕ) (p : ℕ)
    → unmarks rows a marker (p + 1) ≡ set (unmarks rows a marker p) (get_or rows (a + p) 0) max_dimension
unfolding unmarks
unmarks_next rows a marker p = rw add-one

module _ (A : Arithmetic) (off on : A.Carrier → A.Carrier → A.Carrier) (none : A.Carrier) (d : A.Carrier) where
  pub steps_none : (sums part : List A.Carrier) → part ≡ steps A off on none d sums part 0
  unfolding steps
  steps_none sums part = refl

  pub steps_next : (sums part : List A.Carrier) (p : ℕ)
      → steps A off on none d sums part (p + 1) ≡ set (steps A off on none d sums part p) (p + 1) (off d (get_or sums p none))
  unfolding steps
  steps_next sums part p = rw add-one

  pub step_sum_none : (weights sums : List A.Carrier) → A.zero ≡ step_sum A off on none d weights sums 0
  unfolding step_sum
  step_sum_none weights sums = refl

  pub step_sum_next : (weights sums : List A.Carrier) (p : ℕ) → step_sum A off on none d weights sums (p + 1)
      ≡ A.plus (step_sum A off on none d weights sums p) (A.times (get_or weights p none) (off d (get_or sums p none)))
  unfolding step_sum
  step_sum_next weights sums p = rw add-one
