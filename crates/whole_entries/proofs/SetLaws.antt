-- From the marks of a closed set to 20 or its entries, and to the result lists.
-- Assumes nothing.
use Prim.Native.Nat.{ℕ, ◌+◌, ◌≤◌, ◌<◌, min, max}
use native.Mathlib.Omega.{arith}
use mathlib.Core.Path.{◌≡◌, refl, sym, ap, ap₂, subst, ◌∙◌}
use mathlib.Core.Bool.{Bool, true, false, ◌&&◌, ◌||◌, true≢false}
use mathlib.Core.List.{List}
use lib.ListN.{length}
use lib.Seq.{ext_get_or}
use lib.IntN.{ℤ, pos}
use Rattle.lists.specs.Test.{any, any_in, any_cong}
use Rattle.lists.specs.Tabulate.{tabulate, tabulate_at, tabulate-length}
use Rattle.lists.specs.Overwrite.{overwrite, overwrite_at, filled}
use Rattle.pairs.specs.ColumnOrder.{column_marking, set_size}
use Rattle.pairs.proofs.ColumnOrder.{set_size_cong}
use Rattle.takahashi.specs.Entries.{Entry}
use Rattle.columns.specs.Columns.{FactorLists}
use Rattle.columns.specs.WholeFactor.{whole_value, whole_nonzero, whole_desc}
use Rattle.closed_set.proofs.FactorPattern.{factor_pattern}
use Rattle.exact.specs.Exceeds.{entry_exceeds, set_exceeds}
use Rattle.entries.specs.Entries.{entry_values}
use Rattle.entries.proofs.Entries.{entry_values-length}
use Rattle.entries.proofs.Position.{column_count_cong, position_cong, entry_starts_cong, entry_rows_cong, entry_values_cong}
use Rattle.entries.specs.WholeTable.{whole_table, kept_exceeds, exceeds}
use Rattle.entries.proofs.WholeTable.{kept_exceeds_none}
use Rattle.marked_pairs.specs.MarkedPairs.{ColumnsReached}
use Rattle.layout.specs.Layout.{LayOutInput, LaidOut, LayFirstsInput, FirstsLaid}
use Rattle.layout.proofs.LayoutFacts.{marks_same}
use Rattle.whole_route.specs.Route.{WholeRouteInput, RouteDone}
use Rattle.whole_selection.specs.Call.{WholeLent, whole_lent}
use Rattle.whole_entries.specs.Filling.{SetInput, SetDone, CompleteInput, CompleteDone}

module _ (f : FactorLists ℤ) where
  abbrev desc : ℕ → List (Entry ℤ)
  desc = whole_desc f.starts f.rows f.values

  abbrev Z : ℕ → ℕ → ℤ
  Z = whole_table f.n f.starts f.rows f.values

  -- what exceeds needs the set at the pairs of the triangle alone
  module _ (S R : ℕ → ℕ → Bool) (same : (r c : ℕ) → c ≤ r → r < f.n → S r c ≡ R r c) where
    set_exceeds_cong : set_exceeds f.n desc Z S ≡ set_exceeds f.n desc Z R
    unfolding set_exceeds any_in
    set_exceeds_cong =
        any_cong _ _ f.n
        (λ j h. any_cong _ _ _ (λ k l. ap (λ (b : Bool). b && entry_exceeds desc Z (j + k) j) (same (j + k) j (omega arith) (omega arith))))

    pub exceeds_cong : exceeds f.n f.starts f.rows f.values S ≡ exceeds f.n f.starts f.rows f.values R
    exceeds_cong = ap (λ (b : Bool). any (kept_exceeds f.starts f.rows f.values) f.n || b) set_exceeds_cong

-- ---- 20 and the entries

module _ {f : FactorLists ℤ} {reached s₀ : List ℕ} {work₀ : List ℤ} (I : SetInput f reached s₀ work₀) where
  abbrev S₀ : ℕ → ℕ → Bool
  S₀ = column_marking f.n s₀

  abbrev kept : Bool
  kept = any (kept_exceeds f.starts f.rows f.values) f.n

  -- a kept entry exceeds
  pub set_kept : kept ≡ true → SetDone f s₀ work₀ s₀ work₀ true
  set_kept e = record {
    tells = sym (ap (λ (b : Bool). b || set_exceeds f.n (desc f) (Z f) S₀) e);
    long = refl;
    marks = λ p h. refl;
    later = refl;
    work_long = refl;
    rest = λ p h. refl;
    entries = λ e. absurd (true≢false e);
  }

  -- what the layout asks
  pub set_firsts : {firsts listed : List ℕ} → f.n ≤ length firsts → f.n ≤ length listed → LayFirstsInput f.n firsts listed s₀
  set_firsts a b = record { small = I.small; room = I.room; firsts_fit = a; listed_fit = b }

  module _ {firsts s : List ℕ} {count : ℕ} (F : FirstsLaid f.n s₀ firsts s count) where
    same : (r c : ℕ) → c ≤ r → r < f.n → column_marking f.n s r c ≡ S₀ r c
    same = marks_same f.n s s₀ F.marks

    size_same : set_size f.n (column_marking f.n s) ≡ set_size f.n S₀
    size_same = set_size_cong f.n (column_marking f.n s) S₀ same

    pub set_count : count ≡ set_size f.n (column_marking f.n s)
    set_count = F.count_is ∙ sym size_same

    -- what the recurrence asks, once the kept entries are small
    pub set_route : f.n ≤ length firsts → kept ≡ false → WholeRouteInput f.n f.starts f.rows f.values firsts s work₀
    set_route long none = record {
      whole = record {
        small = I.small;
        factor = I.factor;
        kept_small = kept_exceeds_none f.n f.starts f.rows f.values none;
        closed = λ r c d h l i t.
            let b = (factor_pattern (whole_nonzero f.values) I.factor).inside c d (omega arith) i in
            same (max r d) (min r d) (omega arith) (omega arith) ∙ I.closed r c d h l i (sym (same r c h l) ∙ t);
        room = omega (arith, F.long, I.room);
        positions = λ r c h l t.
            F.positions r c h l (sym (same r c h l) ∙ t) ∙ sym (position_cong f.n (column_marking f.n s) S₀ same r c l);
      };
      starts_fit = long;
      starts_are = λ c h. F.firsts_are c h ∙ sym (column_count_cong f.n (column_marking f.n s) S₀ same c);
      fits = omega (arith, size_same, I.fits);
    }

    -- and what it leaves
    pub set_done : kept ≡ false → {work : List ℤ} {b : Bool} → RouteDone f.n f.starts f.rows f.values s work₀ work b → SetDone f s₀ work₀ s work b
    set_done none R = record {
      tells =
          R.tells ∙ set_exceeds_cong f (column_marking f.n s) S₀ same
          ∙ sym (ap (λ (q : Bool). q || set_exceeds f.n (desc f) (Z f) S₀) none);
      long = F.long;
      marks = F.marks;
      later = F.later;
      work_long = R.long;
      rest = λ p h. R.rest p (omega (arith, size_same));
      entries = λ e.
          R.entries e ∙ ap (λ (l : List ℤ). overwrite l work₀) (entry_values_cong f.n (column_marking f.n s) S₀ same (Z f));
    }

-- ---- the result lists

-- copying the front of a list that was written over copies what was written
copied : (new old to : List ℤ) → filled (whole_value (overwrite new old)) (length new) to ≡ overwrite new to
unfolding filled
copied new old to =
    ap (λ (l : List ℤ). overwrite l to)
    (ext_get_or (pos 0) (tabulate g (length new)) new (tabulate-length g (length new))
    (λ i h.
    let l : i < length new = subst (λ (k : ℕ). i < k) (tabulate-length g (length new)) h in
    tabulate_at g (length new) i (pos 0) l ∙ overwrite_at new old i (pos 0) l))
  where
    g : ℕ → ℤ
    g = whole_value (overwrite new old)

module _ {f : FactorLists ℤ} {reached : List ℕ} (lent : WholeLent) (I : CompleteInput f reached lent) where
  abbrev s₀ : List ℕ
  s₀ = lent.lists.scratch

  module _ {s : List ℕ} {work : List ℤ} {b : Bool} (D : SetDone f s₀ lent.work s work b) where
    marked : (r c : ℕ) → c ≤ r → r < f.n → column_marking f.n s r c ≡ column_marking f.n s₀ r c
    marked = marks_same f.n s s₀ D.marks

    size_is : set_size f.n (column_marking f.n s) ≡ set_size f.n (column_marking f.n s₀)
    size_is = set_size_cong f.n (column_marking f.n s) (column_marking f.n s₀) marked

    -- something exceeds
    pub complete_exceeds : b ≡ true
        → CompleteDone f lent (whole_lent lent.lists.result_starts lent.lists.result_rows lent.lists.result_values s work) true
    complete_exceeds e = record {
      tells = sym e ∙ D.tells;
      starts_are = refl;
      rows_are = refl;
      values_are = refl;
      later = D.later;
      work_long = D.work_long;
      rest = D.rest;
    }

    -- what the layout asks
    pub complete_layout : LayOutInput f.n lent.lists.result_starts lent.lists.result_rows s
    complete_layout = record {
      small = I.set.small;
      room = omega (arith, D.long, I.set.room);
      starts_fit = I.starts_fit;
      rows_fit = omega (arith, size_is, I.rows_fit);
    }

    pub complete_reached : ColumnsReached f.n s reached
    complete_reached r c h l t = I.set.reached_all r c h l (sym (marked r c h l) ∙ t)

    module _ {rs rr s' : List ℕ} {count : ℕ} (L : LaidOut f.n lent.lists.result_starts lent.lists.result_rows s rs rr s' count) where
      -- the entries can be copied
      pub complete_count : (count ≤ length work) × (count ≤ length lent.lists.result_values)
      complete_count = (omega (arith, L.count_is, size_is, I.set.fits, D.work_long), omega (arith, L.count_is, size_is, I.values_fit))

      pub complete_done : b ≡ false → {rv : List ℤ} → rv ≡ filled (whole_value work) count lent.lists.result_values
          → CompleteDone f lent (whole_lent rs rr rv s' work) false
      complete_done e copy = record {
        tells = sym e ∙ D.tells;
        starts_are = L.starts_are ∙ ap (λ (l : List ℕ). overwrite l lent.lists.result_starts) (entry_starts_cong f.n (column_marking f.n s) (column_marking f.n s₀) marked);
        rows_are = L.rows_are ∙ ap (λ (l : List ℕ). overwrite l lent.lists.result_rows) (entry_rows_cong f.n (column_marking f.n s) (column_marking f.n s₀) marked);
        values_are =
            let new = entry_values f.n (column_marking f.n s₀) (Z f) in
            copy
            ∙ ap₂ (λ (w : List ℤ) (k : ℕ). filled (whole_value w) k lent.lists.result_values) (D.entries e)
            (L.count_is ∙ size_is ∙ sym (entry_values-length f.n (column_marking f.n s₀) (Z f)))
            ∙ copied new lent.work lent.lists.result_values;
        later = L.later ∙ D.later;
        work_long = D.work_long;
        rest = D.rest;
      }
