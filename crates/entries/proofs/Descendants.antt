-- A factor's descendants as lists of entries: their rows ascend, so that the table solves the recurrence.
-- Assumes nothing.
use Rattle.std.specs.Prelude.{ℕ, suc, ◌≤◌, ◌<◌, ◌≡◌, refl, Bool, Option, None, Some, is_some, List, [], ◌∷◌, map, length, get_or, Float}
use Rattle.std.specs.Borrow.{Bor}
use Rattle.std.proofs.Common.{arith, le_refl, sym, ◌∙◌}
use Rattle.std.proofs.lemmas.List.{length-map}
use Rattle.columns.specs.Columns.{row, value}
use Rattle.columns.specs.Kept.{nonzero, entry, desc_places, desc, diag, pattern}
use Rattle.columns.specs.Factor.{Factor}
use Rattle.columns.specs.Form.{Form, cholesky, pivoted, form_of, divisor}
use Rattle.columns.proofs.Pattern.{pattern_at, pattern_above, pattern_inside, pattern_rises}
use Rattle.takahashi.specs.Entries.{Entry, Ascend}
use Rattle.takahashi.proofs.Entries.{ascend_rows}
use Rattle.takahashi.specs.Recurrence.{Rows, Lower, Solves, table}
use Rattle.takahashi.proofs.Recurrence.{table_solves}
use Rattle.exact.specs.Exact.{floats, float_off, float_on}
use Rattle.exact.specs.PivotCase.{pivot_off, pivot_on, step_below, step_on}
use Rattle.entries.specs.Entries.{float_table, pivot_table, below_step, diagonal_step, form_table}

-- a list of entries made from places
ascend_places : {W : Type 0} (f : ℕ → Entry W) (n a : ℕ) (l : List ℕ) → ((i : ℕ) → i < length l → (a ≤ (f (get_or l i 0)).row) × ((f (get_or l i 0)).row < n))
    → ((i k : ℕ) → i < k → k < length l → (f (get_or l i 0)).row < (f (get_or l k 0)).row) → Ascend n a (map f l)
ascend_places f n a [] inside rises = tt
ascend_places f n a (p ∷ l) inside rises = (
  (inside 0 (omega arith)).0,
  (inside 0 (omega arith)).1,
  ascend_places f n (suc (f p).row) l (λ i h. (rises 0 (suc i) (omega arith) (omega arith), (inside (suc i) (omega arith)).1))
      (λ i k h m. rises (suc i) (suc k) (omega arith) (omega arith)),
)

-- the descendants of a column as entries of any kind, each with its row
module _ {W : Type 0} (f : ℕ → Entry W) {n : ℕ} {starts rows : List ℕ} {values : ℕ} (nz : ℕ → Bool) (F : Factor n starts rows values)
    (rowed : (p : ℕ) → (f p).row ≡ row rows p) (j : ℕ) (h : j < n) where
  abbrev places : List ℕ
  places = desc_places starts rows nz j

  pub place_row : (i : ℕ) → i < length places → get_or (pattern starts rows nz j) i 0 ≡ (f (get_or places i 0)).row
  place_row i l = pattern_at nz F.starts_rise j h i (rw length-map l) ∙ sym (rowed (get_or places i 0))

  -- their rows ascend
  pub places_ascend : Ascend n (suc j) (map f places)
  places_ascend =
      ascend_places f n (suc j) places
      (λ i l. (
        omega (arith, place_row i l, pattern_above nz F.starts_rise j h i (rw length-map l)),
        omega (arith, place_row i l, pattern_inside nz F.starts_rise F.rows_ascend j h i (rw length-map l)),
      ))
      (λ i k m l. omega (arith, place_row i (omega arith), place_row k l, pattern_rises nz F.starts_rise F.rows_ascend j h i k m (rw length-map l)))

-- of floats
module _ {n : ℕ} {starts rows : List ℕ} (values : List Float) (F : Factor n starts rows (length values)) (j : ℕ) (h : j < n) where
  pub desc-ascend : Ascend n (suc j) (desc starts rows values j)
  desc-ascend = places_ascend (entry rows values) (nonzero values) F (λ p. refl) j h

  -- they are rows of the triangle below column j
  pub desc_rows : Rows n j (desc starts rows values j)
  desc_rows = ascend_rows n j (suc j) (desc starts rows values j) (le_refl (suc j)) desc-ascend

-- the table of a factor solves the recurrence
pub float_solves : {n : ℕ} {starts rows : List ℕ} (values : List Float) → Factor n starts rows (length values) →
    Solves floats float_off float_on (diag starts rows values) (desc starts rows values) (Lower n) (float_table n starts rows values)
unfolding float_table
float_solves {n} {starts} {rows} values F =
    table_solves floats float_off float_on n (diag starts rows values) (desc starts rows values) (λ j jn. desc_rows values F j jn)

-- and so does that of a factor with pivots
pub pivot_solves : {n : ℕ} {starts rows : List ℕ} (values pivots : List Float) → Factor n starts rows (length values) →
    Solves floats pivot_off pivot_on (value pivots) (desc starts rows values) (Lower n) (pivot_table n starts rows values pivots)
unfolding pivot_table
pivot_solves {n} {starts} {rows} values pivots F =
    table_solves floats pivot_off pivot_on n (value pivots) (desc starts rows values) (λ j jn. desc_rows values F j jn)

-- in either form
pub form_solves : (form : Form) {n : ℕ} {starts rows : List ℕ} (values : List Float) → Factor n starts rows (length values) →
    Solves floats (below_step form) (diagonal_step form) (divisor n starts rows values form) (desc starts rows values) (Lower n) (form_table form n starts rows values)
form_solves cholesky values F = float_solves values F
form_solves (pivoted pivots) values F = pivot_solves values pivots F

-- as a call tells the form, b whether it lends pivots
pub told_solves : (pivots : Option (Bor (List Float))) {b : Bool} → b ≡ is_some pivots → {n : ℕ} {starts rows : List ℕ} (values : List Float)
    → Factor n starts rows (length values) →
    Solves floats (step_below b) (step_on b) (divisor n starts rows values (form_of pivots)) (desc starts rows values) (Lower n)
    (form_table (form_of pivots) n starts rows values)
told_solves None e values F = rw e (float_solves values F)
told_solves (Some pivots) e values F = rw e (pivot_solves values pivots.now F)

pub told_table : (pivots : Option (Bor (List Float))) {b : Bool} → b ≡ is_some pivots → (n : ℕ) (starts rows : List ℕ) (values : List Float)
    → form_table (form_of pivots) n starts rows values
    ≡ table floats (step_below b) (step_on b) n (divisor n starts rows values (form_of pivots)) (desc starts rows values)
unfolding float_table pivot_table
told_table None e n starts rows values = rw e
told_table (Some pivots) e n starts rows values = rw e
