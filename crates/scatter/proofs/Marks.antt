-- Laws of specs/Marks.antt.
use Rattle.std.specs.Prelude.{◌≡◌, ◌⊎◌, ◌≢◌, replicate}
use Rattle.std.proofs.Math.Path.{refl, sym, ap, ap₂, subst}
use Rattle.std.proofs.Common.{◌∙◌, eq-or-lt_of_le, le_refl, le_of_lt, ne_of_lt, not-suc-le-zero, arith}
use Rattle.std.proofs.Math.Logic.{inl, inr}
use mathlib.Core.List.{List, [], ◌∷◌, ◌++◌}
use Prim.Native.Nat.{ℕ, zero, suc, ◌+◌, ◌≤◌, ◌<◌}
use Rattle.std.proofs.Math.Nat.{le_step, suc_inj, le_of_suc-le-suc}
use Rattle.std.proofs.Math.Numerals.{add-one}
use Rattle.std.proofs.Math.Decide.{ℕ_discrete}
use Rattle.std.proofs.Math.ListN.{length, get_or, set, length-set, get_or-append}
use Rattle.std.proofs.lemmas.List.{length-replicate, get_or-replicate}
use Rattle.std.proofs.Math.Seq.{get_or-set_same, get_or-set_other, ext_get_or, get_or-append_seam}
use Rattle.refusal.specs.Bounds.{max_dimension}
use Rattle.takahashi.specs.Recurrence.{Entry}
use Rattle.scatter.specs.Scatter.{blank, row_at, entry_value, marks, weigh, clear, unmarks, RowsMarked}
use Rattle.scatter.specs.Marks.{empties}

pub empties_is : replicate max_dimension max_dimension ≡ empties
unfolding empties
empties_is = refl

pub empties_at : (i : ℕ) → i < max_dimension → get_or empties i 0 ≡ max_dimension
unfolding empties
empties_at i h = get_or-replicate max_dimension i max_dimension 0 h

pub empties_long : length empties ≡ max_dimension
unfolding empties
empties_long = length-replicate {A = ℕ} max_dimension max_dimension

pub unmarks_long : (rows : List ℕ) (a : ℕ) (marker : List ℕ) (p : ℕ) → length (unmarks rows a marker p) ≡ length marker
unfolding unmarks
unmarks_long rows a marker zero = refl
unmarks_long rows a marker (suc p) = length-set (unmarks rows a marker p) (get_or rows (a + p) 0) max_dimension ∙ unmarks_long rows a marker p

-- ---- lengths
module _ {W : Type 0} (none : W) where
  pub marks_long : (ds : List (Entry W)) (marker : List ℕ) (p : ℕ) → length (marks none ds marker p) ≡ length marker
  unfolding marks
  marks_long ds marker zero = refl
  marks_long ds marker (suc p) = length-set (marks none ds marker p) (row_at none ds p) p ∙ marks_long ds marker p

  pub weigh_long : (ds : List (Entry W)) (w : List W) (p : ℕ) → length (weigh none ds w p) ≡ length w
  unfolding weigh
  weigh_long ds w zero = refl
  weigh_long ds w (suc p) = length-set (weigh none ds w p) p (entry_value none ds p) ∙ weigh_long ds w p

  pub clear_long : (o : W) (s : List W) (p : ℕ) → length (clear o s p) ≡ length s
  unfolding clear
  clear_long o s zero = refl
  clear_long o s (suc p) = length-set (clear o s p) p o ∙ clear_long o s p

  -- ---- weights and sums
  pub weigh_at : (ds : List (Entry W)) (w : List W) (p u : ℕ) → p ≤ length w → u < p → get_or (weigh none ds w p) u none ≡ entry_value none ds u
  unfolding weigh
  weigh_at ds w zero u h l = absurd (omega arith)
  weigh_at ds w (suc p) u h l = elim (eq-or-lt_of_le l) [
    | inl e ↦ subst (λ (x : ℕ). get_or (set (weigh none ds w p) p (entry_value none ds p)) x none ≡ entry_value none ds x) (sym (suc_inj e))
        (get_or-set_same (weigh none ds w p) p (entry_value none ds p) none (subst (λ (x : ℕ). p < x) (sym (weigh_long ds w p)) h))
    | inr g ↦ get_or-set_other (weigh none ds w p) p u (entry_value none ds p) none (ne_of_lt (le_of_suc-le-suc g))
        ∙ weigh_at ds w p u (le_of_lt h) (le_of_suc-le-suc g)
  ]

  pub clear_at : (o : W) (s : List W) (p u : ℕ) → p ≤ length s → u < p → get_or (clear o s p) u none ≡ o
  unfolding clear
  clear_at o s zero u h l = absurd (omega arith)
  clear_at o s (suc p) u h l = elim (eq-or-lt_of_le l) [
    | inl e ↦ subst (λ (x : ℕ). get_or (set (clear o s p) p o) x none ≡ o) (sym (suc_inj e))
        (get_or-set_same (clear o s p) p o none (subst (λ (x : ℕ). p < x) (sym (clear_long o s p)) h))
    | inr g ↦ get_or-set_other (clear o s p) p u o none (ne_of_lt (le_of_suc-le-suc g)) ∙ clear_at o s p u (le_of_lt h) (le_of_suc-le-suc g)
  ]

  -- ---- the marker
  module _ (ds : List (Entry W)) (rising : (p u : ℕ) → p < u → u < length ds → row_at none ds p < row_at none ds u)
      (fits : (p : ℕ) → p < length ds → row_at none ds p < max_dimension) where
    inside : (p : ℕ) → p < length ds → row_at none ds p < length (marks none ds empties p)
    inside p h = subst (λ (x : ℕ). row_at none ds p < x) (sym (marks_long ds empties p ∙ empties_long)) (fits p h)

    marks_at : (p u : ℕ) → p ≤ length ds → u < p → get_or (marks none ds empties p) (row_at none ds u) 0 ≡ u
    unfolding marks
    marks_at zero u h l = absurd (omega arith)
    marks_at (suc p) u h l = elim (eq-or-lt_of_le l) [
      | inl e ↦ subst (λ (x : ℕ). get_or (set (marks none ds empties p) (row_at none ds p) p) (row_at none ds x) 0 ≡ x) (sym (suc_inj e))
          (get_or-set_same (marks none ds empties p) (row_at none ds p) p 0 (inside p h))
      | inr g ↦ get_or-set_other (marks none ds empties p) (row_at none ds p) (row_at none ds u) p 0 (ne_of_lt (rising u p (le_of_suc-le-suc g) h))
          ∙ marks_at p u (le_of_lt h) (le_of_suc-le-suc g)
    ]

    -- a place is empty, or holds the position of its row
    Kind : ℕ → ℕ → ℕ → Type 0
    Kind p i x = (x ≡ max_dimension) ⊎ ((x < p) × (row_at none ds x ≡ i))

    more : (p i x : ℕ) → Kind p i x → Kind (suc p) i x
    unfolding Kind
    more p i x (inl e) = inl e
    more p i x (inr h) = inr (le_step h.0, h.1)

    marks_kind : (p i : ℕ) → p ≤ length ds → i < max_dimension → Kind p i (get_or (marks none ds empties p) i 0)
    unfolding marks Kind
    marks_kind zero i h l = inl (empties_at i l)
    marks_kind (suc p) i h l = elim (ℕ_discrete (row_at none ds p) i) [
      | yes e ↦ subst (λ (x : ℕ). Kind (suc p) i x)
          (sym (ap (λ (y : ℕ). get_or (set (marks none ds empties p) (row_at none ds p) p) y 0) (sym e)
          ∙ get_or-set_same (marks none ds empties p) (row_at none ds p) p 0 (inside p h)))
          (inr (le_refl (suc p), e))
      | no f ↦ subst (λ (x : ℕ). Kind (suc p) i x) (sym (get_or-set_other (marks none ds empties p) (row_at none ds p) i p 0 (λ e. f (sym e))))
          (more p i (get_or (marks none ds empties p) i 0) (marks_kind p i (le_of_lt h) l))
    ]

    pub marks_marked : RowsMarked none ds (marks none ds empties (length ds))
    unfolding Kind
    marks_marked = record {
      marked = λ p h. marks_at (length ds) p (le_refl (length ds)) h;
      only = λ i l s. pick i (get_or (marks none ds empties (length ds)) i 0) s (marks_kind (length ds) i (le_refl (length ds)) l);
    }
      where
        pick : (i x : ℕ) → x < max_dimension → Kind (length ds) i x → (x < length ds) × (row_at none ds x ≡ i)
        pick i x s (inl e) = absurd (omega arith)
        pick i x s (inr h) = h

    -- ---- and empty again
    module _ (rows : List ℕ) (a : ℕ) (same : (p : ℕ) → p < length ds → get_or rows (a + p) 0 ≡ row_at none ds p) (marker : List ℕ)
        (long : length marker ≡ max_dimension) where
      unmarks_at : (p i : ℕ) → p ≤ length ds → i < max_dimension → (get_or marker i 0 ≡ max_dimension) ⊎ ((u : ℕ) × (u < p) × (row_at none ds u ≡ i))
          → get_or (unmarks rows a marker p) i 0 ≡ max_dimension
      unfolding unmarks
      unmarks_at zero i h l (inl e) = e
      unmarks_at zero i h l (inr g) = absurd (not-suc-le-zero g.1)
      unmarks_at (suc p) i h l k = elim (ℕ_discrete (get_or rows (a + p) 0) i) [
        | yes e ↦ ap (λ (y : ℕ). get_or (set (unmarks rows a marker p) (get_or rows (a + p) 0) max_dimension) y 0) (sym e)
            ∙ get_or-set_same (unmarks rows a marker p) (get_or rows (a + p) 0) max_dimension 0
            (subst (λ (x : ℕ). x < length (unmarks rows a marker p)) (sym e) (subst (λ (x : ℕ). i < x) (sym (unmarks_long rows a marker p ∙ long)) l))
        | no f ↦ get_or-set_other (unmarks rows a marker p) (get_or rows (a + p) 0) i max_dimension 0 (λ e. f (sym e))
            ∙ unmarks_at p i (le_of_lt h) l (less p i h f k)
      ]
        where
          less : (p i : ℕ) → suc p ≤ length ds → get_or rows (a + p) 0 ≢ i → (get_or marker i 0 ≡ max_dimension) ⊎ ((u : ℕ) × (u < suc p) × (row_at none ds u ≡ i))
              → (get_or marker i 0 ≡ max_dimension) ⊎ ((u : ℕ) × (u < p) × (row_at none ds u ≡ i))
          less p i h f (inl e) = inl e
          less p i h f (inr g) = elim (eq-or-lt_of_le g.1) [
            | inl e ↦ absurd (f (same p h ∙ ap (row_at none ds) (sym (suc_inj e)) ∙ g.2))
            | inr l ↦ inr (g.0, le_of_suc-le-suc l, g.2)
          ]

    pub unmarks-empties : (rows : List ℕ) (a : ℕ) → ((p : ℕ) → p < length ds → get_or rows (a + p) 0 ≡ row_at none ds p)
        → unmarks rows a (marks none ds empties (length ds)) (length ds) ≡ empties
    unfolding Kind
    unmarks-empties rows a same =
        ext_get_or 0 (unmarks rows a (marks none ds empties (length ds)) (length ds)) empties (long ∙ sym empties_long)
        (λ i h. unmarks_at rows a same (marks none ds empties (length ds)) (marks_long ds empties (length ds) ∙ empties_long) (length ds) i
        (le_refl (length ds)) (inside' i h)
        (turn i (get_or (marks none ds empties (length ds)) i 0) (marks_kind (length ds) i (le_refl (length ds)) (inside' i h)))
        ∙ sym (empties_at i (inside' i h)))
      where
        long : length (unmarks rows a (marks none ds empties (length ds)) (length ds)) ≡ max_dimension
        long = unmarks_long rows a (marks none ds empties (length ds)) (length ds) ∙ marks_long ds empties (length ds) ∙ empties_long

        inside' : (i : ℕ) → i < length (unmarks rows a (marks none ds empties (length ds)) (length ds)) → i < max_dimension
        inside' i h = subst (λ (x : ℕ). i < x) long h

        turn : (i x : ℕ) → Kind (length ds) i x → (x ≡ max_dimension) ⊎ ((u : ℕ) × (u < length ds) × (row_at none ds u ≡ i))
        turn i x (inl e) = inl e
        turn i x (inr h) = inr (x, h.0, h.1)

-- ---- one descendant more
module _ {W : Type 0} (none : W) (es : List (Entry W)) (e : Entry W) where
  marks_front : (marker : List ℕ) (p : ℕ) → p ≤ length es → marks none (es ++ (e ∷ [])) marker p ≡ marks none es marker p
  unfolding marks
  marks_front marker zero h = refl
  marks_front marker (suc p) h =
      ap₂ (λ (l : List ℕ) (x : Entry W). set l x.row p) (marks_front marker p (le_of_lt h)) (get_or-append es (e ∷ []) (blank none) p h)

  weigh_front : (weights : List W) (p : ℕ) → p ≤ length es → weigh none (es ++ (e ∷ [])) weights p ≡ weigh none es weights p
  unfolding weigh
  weigh_front weights zero h = refl
  weigh_front weights (suc p) h =
      ap₂ (λ (l : List W) (x : Entry W). set l p x.value) (weigh_front weights p (le_of_lt h)) (get_or-append es (e ∷ []) (blank none) p h)

  pub marks_more : (marker : List ℕ) → marks none (es ++ (e ∷ [])) marker (length es + 1) ≡ set (marks none es marker (length es)) e.row (length es)
  unfolding marks
  marks_more marker =
      rw add-one
      (ap₂ (λ (l : List ℕ) (x : Entry W). set l x.row (length es)) (marks_front marker (length es) (le_refl (length es)))
      (get_or-append_seam es e [] (blank none)))

  pub weigh_more : (weights : List W) → weigh none (es ++ (e ∷ [])) weights (length es + 1) ≡ set (weigh none es weights (length es)) (length es) e.value
  unfolding weigh
  weigh_more weights =
      rw add-one
      (ap₂ (λ (l : List W) (x : Entry W). set l (length es) x.value) (weigh_front weights (length es) (le_refl (length es)))
      (get_or-append_seam es e [] (blank none)))

pub marks_none : {W : Type 0} (none : W) (es : List (Entry W)) (marker : List ℕ) → marker ≡ marks none es marker 0
unfolding marks
marks_none none es marker = refl

pub weigh_none : {W : Type 0} (none : W) (es : List (Entry W)) (weights : List W) → weights ≡ weigh none es weights 0
unfolding weigh
weigh_none none es weights = refl

pub clear_more : {W : Type 0} (o : W) (sums : List W) (p : ℕ) → clear o sums (p + 1) ≡ set (clear o sums p) p o
unfolding clear
clear_more o sums p = rw add-one
