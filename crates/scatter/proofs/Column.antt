-- Laws of specs/Column.antt.
use Rattle.std.specs.Prelude.{◌≡◌, length, set, take}
use Rattle.std.proofs.Math.Path.{refl, sym, ap, ap₂, subst}
use Rattle.std.proofs.Common.{◌∙◌, eq-or-lt_of_le, le_refl, le_of_lt, lt_trans, ne_of_lt, le_of_suc-le-suc, not-suc-le-zero, arith, get_or-set_same, ext_get_or}
use Rattle.std.proofs.Math.Logic.{inl, inr}
use mathlib.Core.List.{List, ◌∷◌, map}
use Prim.Native.Nat.{ℕ, zero, suc, ◌+◌, ◌≤◌, ◌<◌}
use Rattle.std.proofs.Math.Nat.{suc_inj}
use Rattle.std.proofs.Math.ListN.{get_or, length-set}
use Rattle.std.proofs.lemmas.List.{length-map}
use Rattle.std.proofs.Math.Seq.{get_or-set_other, take-length}
use Rattle.lists.specs.Select.{get_d_mapped}
use Rattle.refusal.specs.Bounds.{max_dimension}
use Rattle.takahashi.specs.Recurrence.{Arithmetic, Entry, run, dot, at, Lower, Solves}
use Rattle.takahashi.proofs.Recurrence.{table_solves}
use Rattle.scatter.specs.Scatter.{blank, row_at, entry_value, weigh, clear, terms, Between, steps, step_sum, stepped, ClosedPattern, Laid, column_values}
use Rattle.scatter.proofs.Sums.{run_take, terms_run}
use Rattle.scatter.proofs.Marks.{clear_long, clear_at, weigh_at}
use Rattle.scatter.proofs.ClosedPattern.{pattern_rows, degree_small}
use Rattle.scatter.specs.Column.{table_of}

module _ (A : Arithmetic) (off on : A.Carrier → A.Carrier → A.Carrier) (none : A.Carrier) where
  -- ---- the column step
  pub steps_long : (d : A.Carrier) (s part : List A.Carrier) (p : ℕ) → length (steps A off on none d s part p) ≡ length part
  unfolding steps
  steps_long d s part zero = refl
  steps_long d s part (suc p) = length-set (steps A off on none d s part p) (suc p) (off d (get_or s p none)) ∙ steps_long d s part p

  -- the step keeps the part's length
  pub stepped-length : (d : A.Carrier) (w s part : List A.Carrier) (m : ℕ) → length (stepped A off on none d w s part m) ≡ length part
  unfolding stepped
  stepped-length d w s part m = length-set (steps A off on none d s part m) 0 (on d (step_sum A off on none d w s m)) ∙ steps_long d s part m

  steps_at : (d : A.Carrier) (s part : List A.Carrier) (p u : ℕ) → p < length part → u < p
      → get_or (steps A off on none d s part p) (suc u) none ≡ off d (get_or s u none)
  unfolding steps
  steps_at d s part zero u h l = absurd (omega arith)
  steps_at d s part (suc p) u h l = elim (eq-or-lt_of_le l) [
    | inl e ↦ subst (λ (x : ℕ). get_or (set (steps A off on none d s part p) (suc p) (off d (get_or s p none))) (suc x) none ≡ off d (get_or s x none))
        (sym (suc_inj e))
        (get_or-set_same (steps A off on none d s part p) (suc p) (off d (get_or s p none)) none (subst (λ (x : ℕ). suc p < x) (sym (steps_long d s part p)) h))
    | inr g ↦ get_or-set_other (steps A off on none d s part p) (suc p) (suc u) (off d (get_or s p none)) none (ne_of_lt g)
        ∙ steps_at d s part p u (lt_trans (le_refl (suc p)) h) (le_of_suc-le-suc g)
  ]

  module _ (Z : ℕ → ℕ → A.Carrier) (ds : List (Entry A.Carrier)) (j : ℕ) (d : A.Carrier) (w s : List A.Carrier)
      (weights : (p : ℕ) → p < length ds → get_or w p none ≡ entry_value none ds p)
      (below : (p : ℕ) → p < length ds → off d (get_or s p none) ≡ Z (row_at none ds p) j) where
    step_sum_is : (p : ℕ) → p ≤ length ds → step_sum A off on none d w s p ≡ run A (λ k. Z k j) A.zero (take p ds)
    unfolding step_sum
    step_sum_is zero h = refl
    step_sum_is (suc p) h =
        ap₂ (λ (a b : A.Carrier). A.plus a b) (step_sum_is p (le_of_lt h)) (ap₂ (λ (a b : A.Carrier). A.times a b) (weights p h) (below p h))
        ∙ sym (run_take A (blank none) (λ k. Z k j) A.zero ds p h)

    stepped_is : (desc : ℕ → List (Entry A.Carrier)) → desc j ≡ ds → (l : List A.Carrier) → length l ≡ suc (length ds)
        → Z j j ≡ on d (dot A (λ k. Z k j) ds) → stepped A off on none d w s l (length ds) ≡ column_values Z desc j
    unfolding stepped
    stepped_is desc e l long own = subst
        (λ (x : List (Entry A.Carrier)). stepped A off on none d w s l (length ds) ≡ Z j j ∷ map (λ (y : Entry A.Carrier). Z y.row j) x) (sym e)
        (ext_get_or none (stepped A off on none d w s l (length ds)) (Z j j ∷ map (λ (y : Entry A.Carrier). Z y.row j) ds)
        (length-set (steps A off on none d s l (length ds)) 0 _ ∙ steps_long d s l (length ds) ∙ long
        ∙ ap suc (sym (length-map ds (λ (y : Entry A.Carrier). Z y.row j)))) each)
      where
        top : step_sum A off on none d w s (length ds) ≡ dot A (λ k. Z k j) ds
        top = step_sum_is (length ds) (le_refl (length ds)) ∙ ap (run A (λ k. Z k j) A.zero) (take-length ds)

        room : length (steps A off on none d s l (length ds)) ≡ suc (length ds) → 0 < length (steps A off on none d s l (length ds))
        room h = omega arith

        within : (p : ℕ) → length (set (steps A off on none d s l (length ds)) 0 (on d (step_sum A off on none d w s (length ds)))) ≡ suc (length ds)
            → suc p < length (set (steps A off on none d s l (length ds)) 0 (on d (step_sum A off on none d w s (length ds)))) → p < length ds
        within p h g = omega arith

        room₂ : length l ≡ suc (length ds) → length ds < length l
        room₂ h = omega arith

        apart : (p : ℕ) → suc p ≡ 0 → ⊥
        apart p e = omega arith

        each : (i : ℕ) → i < length (stepped A off on none d w s l (length ds))
            → get_or (stepped A off on none d w s l (length ds)) i none ≡ get_or (Z j j ∷ map (λ (y : Entry A.Carrier). Z y.row j) ds) i none
        each zero h = get_or-set_same (steps A off on none d s l (length ds)) 0 (on d (step_sum A off on none d w s (length ds))) none
            (room (steps_long d s l (length ds) ∙ long)) ∙ ap (on d) top ∙ sym own
        each (suc p) h =
            let pm : p < length ds = within p
            (length-set (steps A off on none d s l (length ds)) 0 (on d (step_sum A off on none d w s (length ds))) ∙ steps_long d s l (length ds)
            ∙ long) h in
            get_or-set_other (steps A off on none d s l (length ds)) 0 (suc p) (on d (step_sum A off on none d w s (length ds))) none (apart p)
            ∙ steps_at d s l (length ds) p (room₂ long) pm ∙ below p pm
            ∙ sym (get_d_mapped (λ (y : Entry A.Carrier). Z y.row j) ds p (blank none) none pm)

  -- ---- all of it
  module _ (n : ℕ) (desc : ℕ → List (Entry A.Carrier)) (P : ClosedPattern none n desc) (starts rows : List ℕ) (L : Laid none n desc starts rows)
      (diag : ℕ → A.Carrier) where
    module _ (j : ℕ) (jn : j < n) (w₀ : List A.Carrier) (wl : length w₀ ≡ max_dimension) where
      abbrev m : ℕ
      m = length (desc j)

      abbrev w : List A.Carrier
      w = weigh none (desc j) w₀ m

      weights : (p : ℕ) → p < m → get_or w p none ≡ entry_value none (desc j) p
      weights p h = weigh_at none (desc j) w₀ m p (subst (λ (x : ℕ). m ≤ x) (sym wl) (degree_small none n desc P j jn)) h

      -- before the first column of the scatter
      pub sums_cleared : (s₀ : List A.Carrier) → length s₀ ≡ max_dimension
          → Between A none (table_of A off on none n desc P starts rows L diag) rows (get_or starts j 0 + 1) m w 0 (clear A.zero s₀ m)
      unfolding terms
      sums_cleared s₀ sl = record {
        long = clear_long none A.zero s₀ m ∙ sl;
        done = λ p h. absurd (not-suc-le-zero h);
        rest = λ p l h. clear_at none A.zero s₀ m p (subst (λ (x : ℕ). m ≤ x) (sym sl) (degree_small none n desc P j jn)) h;
      }

      -- the part that the column step leaves after the last is the table's column
      pub column_right : (s : List A.Carrier) → Between A none (table_of A off on none n desc P starts rows L diag) rows (get_or starts j 0 + 1) m w m s
          → (l : List A.Carrier) → length l ≡ suc m → stepped A off on none (diag j) w s l m ≡ column_values (table_of A off on none n desc P starts rows L diag) desc j
      column_right s B l long =
          stepped_is (table_of A off on none n desc P starts rows L diag) (desc j) j (diag j) w s weights below desc refl l long (S.diagonal_is j (le_refl j, jn))
        where
          S : Solves A off on diag desc (Lower n) (table_of A off on none n desc P starts rows L diag)
          S = table_solves A off on n diag desc (pattern_rows none n desc P)

          below : (p : ℕ) → p < m → off (diag j) (get_or s p none) ≡ (table_of A off on none n desc P starts rows L diag) (row_at none (desc j) p) j
          below p h =
              ap (off (diag j)) (B.done p h
              ∙ terms_run A none (table_of A off on none n desc P starts rows L diag) rows (get_or starts j 0 + 1) w (desc j) (λ u l. L.below j u jn l) weights (get_or rows (get_or starts j 0 + 1 + p) 0)
              ∙ ap (λ (i : ℕ). run A (λ k. at (table_of A off on none n desc P starts rows L diag) i k) A.zero (desc j)) (L.below j p jn h))
              ∙ sym (S.below_is (row_at none (desc j) p) j (le_of_lt (P.under j p jn h), P.fits j p jn h) (P.under j p jn h))
