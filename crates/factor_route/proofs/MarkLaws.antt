-- A column's descendants, marked an entry at a time.
-- Assumes nothing.
use Prim.Native.Nat.{ℕ, ◌+◌, ◌≤◌, ◌<◌}
use native.Mathlib.Omega.{arith}
use native.Mathlib.Nat.{le_of_lt}
use mathlib.Core.Path.{◌≡◌, refl, sym, ap, ap₂, subst, ◌∙◌}
use mathlib.Core.Bool.{Bool, true, false, cond, not, ◌&&◌, and-false}
use mathlib.Core.List.{List, [], ◌∷◌, ◌++◌, map}
use lib.Dec.{ltb}
use lib.ListN.{length, set, length-append, length-map}
use lib.Ieee.{Float, nan, of_bits, eq, ne}
use borrow.Author.Tests.{lt-ltb, le-ltb}
use Rattle.refusal.specs.Bounds.{max_dimension}
use Rattle.lists.specs.Select.{select, select_none, select_yes, select_no, tally_mono, map_snoc}
use Rattle.takahashi.specs.Recurrence.{Entry}
use Rattle.exact.specs.Multiple.{zero_float}
use Rattle.columns.specs.Columns.{row, value}
use Rattle.columns.specs.Kept.{f0, nonzero, entry, kept_below}
use Rattle.scatter.proofs.Scatter.{clear_none}
use Rattle.scatter.proofs.Marks.{marks_none, marks_more, weigh_none, weigh_more, clear_more}
use Rattle.factor_route.specs.ColumnMarks.{desc_between, is_descendant, EntryMarked, ColumnMarked, Stored}

-- the literal 0.0
pub zero_bits : f0 ≡ zero_float
unfolding of_bits
zero_bits = refl

-- ---- one entry, by the code's tests
module _ (c r : ℕ) (l : Float) (m : ℕ) (marker : List ℕ) (weights sums : List Float) where
  same : is_descendant c r l ≡ false → EntryMarked c r l m m marker weights sums marker weights sums
  same e = record { next_is = rw e; marker_is = rw e; weights_is = rw e; sums_is = rw e }

  pub entry_above : r ≤ c → EntryMarked c r l m m marker weights sums marker weights sums
  entry_above h = same (ap (λ (b : Bool). b && ne l f0) (le-ltb c r h))

  pub entry_zero : eq l f0 ≡ true → EntryMarked c r l m m marker weights sums marker weights sums
  unfolding ne
  entry_zero e = same (ap (λ (b : Bool). ltb c r && not b) e ∙ and-false (ltb c r))

  pub entry_kept : c < r → eq l f0 ≡ false → EntryMarked c r l m (m + 1) marker weights sums (set marker r m) (set weights m l) (set sums m f0)
  unfolding ne
  entry_kept h e =
      let k : is_descendant c r l ≡ true = ap₂ (λ (a b : Bool). a && not b) (lt-ltb c r h) e in
      record { next_is = rw k; marker_is = rw k; weights_is = rw k; sums_is = rw k }

-- ---- entry by entry
module _ (rows : List ℕ) (values : List Float) (c s : ℕ) (marker : List ℕ) (weights sums : List Float) where
  pub marked_none : ColumnMarked (desc_between rows values c s s) 0 marker weights sums marker weights sums
  marked_none = record {
    count = sym (ap (λ (l : List ℕ). length (map (entry rows values) l)) (select_none (kept_below rows (nonzero values) c) s));
    marker_is = marks_none nan _ marker;
    weights_is = weigh_none nan _ weights;
    sums_is = clear_none zero_float sums;
  }

  pub marked_end : (e p m : ℕ) (marker' : List ℕ) (weights' sums' : List Float) → p ≡ e
      → ColumnMarked (desc_between rows values c s p) m marker weights sums marker' weights' sums'
      → ColumnMarked (desc_between rows values c s e) m marker weights sums marker' weights' sums'
  marked_end e p m marker' weights' sums' q M =
      subst (λ (x : ℕ). ColumnMarked (desc_between rows values c s x) m marker weights sums marker' weights' sums') q M

  -- there are no more than in the whole column
  pub marked_few : (e p m : ℕ) (marker' : List ℕ) (weights' sums' : List Float) → s ≤ p → p < e → Stored rows values c s e
      → ColumnMarked (desc_between rows values c s p) m marker weights sums marker' weights' sums' → m < max_dimension
  marked_few e p m marker' weights' sums' h l S M =
      omega (
        arith,
        M.count,
        S.few,
        tally_mono (kept_below rows (nonzero values) c) s p e h (le_of_lt l),
        length-map (select (kept_below rows (nonzero values) c) s p) (entry rows values),
        length-map (select (kept_below rows (nonzero values) c) s e) (entry rows values),
      )

  pub marked_more : (p m next : ℕ) (marker₁ : List ℕ) (weights₁ sums₁ : List Float) (marker₂ : List ℕ) (weights₂ sums₂ : List Float) → s ≤ p
      → ColumnMarked (desc_between rows values c s p) m marker weights sums marker₁ weights₁ sums₁
      → EntryMarked c (row rows p) (value values p) m next marker₁ weights₁ sums₁ marker₂ weights₂ sums₂
      → ColumnMarked (desc_between rows values c s (p + 1)) next marker weights sums marker₂ weights₂ sums₂
  marked_more p m next marker₁ weights₁ sums₁ marker₂ weights₂ sums₂ h M E =
      go (kept_below rows (nonzero values) c p) refl E.next_is E.marker_is E.weights_is E.sums_is
    where
      r : ℕ
      r = row rows p

      l : Float
      l = value values p

      es : List (Entry Float)
      es = desc_between rows values c s p

      yes' : kept_below rows (nonzero values) c p ≡ true → desc_between rows values c s (p + 1) ≡ es ++ (entry rows values p ∷ [])
      yes' t = ap (map (entry rows values)) (select_yes (kept_below rows (nonzero values) c) s p h t)
          ∙ map_snoc (entry rows values) (select (kept_below rows (nonzero values) c) s p) p

      no' : kept_below rows (nonzero values) c p ≡ false → desc_between rows values c s (p + 1) ≡ es
      no' t = ap (map (entry rows values)) (select_no (kept_below rows (nonzero values) c) s p h t)

      go : (b : Bool) → kept_below rows (nonzero values) c p ≡ b → next ≡ cond b (m + 1) m → marker₂ ≡ cond b (set marker₁ r m) marker₁
          → weights₂ ≡ cond b (set weights₁ m l) weights₁ → sums₂ ≡ cond b (set sums₁ m f0) sums₁
          → ColumnMarked (desc_between rows values c s (p + 1)) next marker weights sums marker₂ weights₂ sums₂
      go true t en em ew es₂ = rw (yes' t, en) (record {
        count = ap (λ (k : ℕ). k + 1) M.count ∙ sym (length-append es (entry rows values p ∷ []));
        marker_is = em ∙ rw (M.marker_is, M.count) (sym (marks_more nan es (entry rows values p) marker));
        weights_is = ew ∙ rw (M.weights_is, M.count) (sym (weigh_more nan es (entry rows values p) weights));
        sums_is = es₂ ∙ rw (M.sums_is, zero_bits) (sym (clear_more zero_float sums m));
      })
      go false t en em ew es₂ = rw (no' t, en) (record {
        count = M.count;
        marker_is = em ∙ M.marker_is;
        weights_is = ew ∙ M.weights_is;
        sums_is = es₂ ∙ M.sums_is;
      })
