-- From the marks of the closed set to the result's lists, and the words that a call leaves.
-- Assumes nothing.
use Prim.Native.Nat.{ℕ, ◌+◌, ◌≤◌, ◌<◌, min}
use native.Mathlib.Omega.{arith}
use mathlib.Core.Path.{◌≡◌, sym, ap, ap₂, ◌∙◌}
use mathlib.Core.Bool.{Bool, true, false, cond}
use mathlib.Core.List.{List, []}
use lib.ListN.{length, take}
use lib.Ieee.{Float}
use borrow.Author.Tests.{leb-true}
use Rattle.columns.specs.Columns.{factor_lists}
use Rattle.lists.specs.Overwrite.{overwrite, overwrite_front, cleared}
use Rattle.refusal.specs.Bounds.{max_dimension}
use Rattle.pairs.specs.Pair.{pair_total}
use Rattle.pairs.proofs.Pair.{pair_total_small}
use Rattle.pairs.specs.Scratch.{queue_start}
use Rattle.pairs.proofs.Scratch.{scratch_words_queue, scratch_words_room}
use Rattle.pairs.specs.ColumnOrder.{column_marking, set_size}
use Rattle.pairs.proofs.ColumnOrder.{set_size_cong}
use Rattle.columns.specs.Kept.{nonzero, pattern}
use Rattle.columns.specs.Factor.{Factor}
use Rattle.columns.specs.Form.{Form, cholesky, pivoted, kept_pairs}
use Rattle.closed_set.proofs.KeptSet.{factor_pairs_most, pattern_pairs_most}
use Rattle.closed_set.specs.ClosedSet.{Pattern}
use Rattle.closed_set.proofs.Size.{closure_size_most}
use Rattle.entries.specs.Entries.{entry_starts, entry_rows, entry_values}
use Rattle.entries.proofs.Entries.{entry_starts-length, entry_rows_length}
use Rattle.entries.specs.Position.{Positioned}
use Rattle.entries.proofs.Position.{position_cong, entry_starts_cong, entry_rows_cong, entry_values_cong}
use Rattle.diagnostics.specs.declared.SelectedInverseDiagnostics.{SelectedInverseDiagnostics}
use Rattle.diagnostics.specs.declared.SelectedInverseStatus.TheVariants.{Complete, ClosureTooLarge}
use Rattle.marked_pairs.specs.MarkedPairs.{ColumnsReached}
use Rattle.closure.specs.Closure.{Closing}
use Rattle.closed_set.proofs.FactorPattern.{factor_pattern}
use Rattle.layout.specs.Layout.{LayOutInput, LaidOut}
use Rattle.closure_route.specs.Route.{route_lists, ClosureRouteInput}
use Rattle.closure_route.proofs.Route.{laid_same, laid_route}
use Rattle.closure_route.proofs.Members.{marked_size, marked_closed}
use Rattle.fill.specs.Routes.{RoutesInput}
use Rattle.diagnostics.specs.Diagnosis.{max_count}
use Rattle.selection.specs.Diagnosis.{diagnosis_of}
use Rattle.selection.specs.Selection.{Selection, selecting, Lent, room_of, Accepted, scratch_words, selected_set, selected_size, selected_complete, selected_answer, selected_table, lists, filling_of, selected_pattern}
use Rattle.selection.specs.Selection.{ResultLists}
use Rattle.selection.proofs.Selection.{lists_passed, cleared_same, nothing-refused}
use Rattle.selection.proofs.Status.{status_tells, factor_pairs_are, closure_pairs_are}

module _ (x : Selection) where
  abbrev pat : ℕ → List ℕ
  pat = selected_pattern x

module _ (x : Selection) (lent : Lent) (A : Accepted x (room_of lent)) where
  P : Pattern x.factor.n (pat x)
  P = factor_pattern (nonzero x.factor.values) A.factor

  module _ {stops s₁ : List ℕ} (K : Closing x.factor.n (pat x) x.requests x.limit lent.scratch stops s₁) {d : SelectedInverseDiagnostics}
      (D : d ≡ selected_answer x) where
    -- ---- within the limit
    module _ (told : d.status ≡ Complete) where
      complete : selected_complete x ≡ true
      complete = status_tells x Complete (ap (λ (y : SelectedInverseDiagnostics). y.status) (sym D) ∙ told)

      within : selected_size x ≤ x.limit
      within = leb-true _ _ complete

      same : (r c : ℕ) → c ≤ r → r < x.factor.n → column_marking x.factor.n s₁ r c ≡ selected_set x r c
      same = K.marks within

      size : set_size x.factor.n (column_marking x.factor.n s₁) ≡ selected_size x
      size = marked_size x.factor.n (pat x) x.requests s₁ same

      most : selected_size x ≤ min x.limit (pair_total x.factor.n)
      most = omega (arith, within, closure_size_most x.factor.n (pat x) x.requests)

      -- what the layout asks
      pub fill_layout : LayOutInput x.factor.n lent.result_starts lent.result_rows s₁
      fill_layout = record {
        small = A.small;
        room = omega (arith, K.long, scratch_words_room x.factor.n A.scratch_room);
        starts_fit = A.starts_room;
        rows_fit = omega (arith, size, most, A.rows_room);
      }

      pub fill_listed : ColumnsReached x.factor.n s₁ stops
      fill_listed = K.reached within

      module _ {rs rr s₂ : List ℕ} {count : ℕ} (L : LaidOut x.factor.n lent.result_starts lent.result_rows s₁ rs rr s₂ count) where
        laid : (r c : ℕ) → c ≤ r → r < x.factor.n → column_marking x.factor.n s₁ r c ≡ column_marking x.factor.n s₂ r c
        laid r c h l = sym (laid_same fill_layout L r c h l)

        marked : set_size x.factor.n (column_marking x.factor.n s₁) ≡ set_size x.factor.n (column_marking x.factor.n s₂)
        marked = set_size_cong x.factor.n (column_marking x.factor.n s₁) (column_marking x.factor.n s₂) laid

        -- what the closure route asks
        pub fill_closure : ClosureRouteInput (route_lists x.factor.n x.factor.starts x.factor.rows x.factor.values rs rr s₂) (length lent.result_values)
        fill_closure =
            laid_route fill_layout L x.factor.values A.factor P (marked_closed x.factor.n (pat x) x.requests s₁ same P A.requests)
            (omega (arith, size, most, A.values_room))

        -- the counts and the lists, as the other route asks them
        pub fill_closed : d.closure_pairs ≡ set_size x.factor.n (column_marking x.factor.n s₂)
        fill_closed =
            ap (λ (y : SelectedInverseDiagnostics). y.closure_pairs) D
            ∙ omega (arith, closure_pairs_are x, within, size, marked)

        pub fill_starts : take (x.factor.n + 1) rs ≡ entry_starts x.factor.n (column_marking x.factor.n s₂)
        fill_starts =
            ap₂ take (sym (entry_starts-length x.factor.n (column_marking x.factor.n s₁))) L.starts_are
            ∙ overwrite_front (entry_starts x.factor.n (column_marking x.factor.n s₁)) lent.result_starts
            ∙ entry_starts_cong x.factor.n (column_marking x.factor.n s₁) (column_marking x.factor.n s₂) laid

        pub fill_rows : take (set_size x.factor.n (column_marking x.factor.n s₂)) rr ≡ entry_rows x.factor.n (column_marking x.factor.n s₂)
        fill_rows =
            ap₂ take (sym marked ∙ sym (entry_rows_length x.factor.n (column_marking x.factor.n s₁))) L.rows_are
            ∙ overwrite_front (entry_rows x.factor.n (column_marking x.factor.n s₁)) lent.result_rows
            ∙ entry_rows_cong x.factor.n (column_marking x.factor.n s₁) (column_marking x.factor.n s₂) laid

        -- what is left
        pub fill_long : length s₂ ≡ length lent.scratch
        fill_long = L.long ∙ K.long

        pub fill_positions : Positioned x.factor.n (selected_set x) s₂
        fill_positions r c h l t =
            L.positions r c h l (same r c h l ∙ t) ∙ position_cong x.factor.n (column_marking x.factor.n s₁) (selected_set x) same r c l

        pub fill_done : {rv : List Float} → rv ≡ overwrite (entry_values x.factor.n (column_marking x.factor.n s₂) (selected_table x)) lent.result_values
            → ResultLists [] (filling_of x) lent (lists rs rr rv (cleared (scratch_words x.factor.n) s₂))
        fill_done {rv} ev =
            lists_passed [] (filling_of x) lent nothing-refused
            (L.starts_are ∙ ap (λ (l : List ℕ). overwrite l lent.result_starts) (entry_starts_cong x.factor.n (column_marking x.factor.n s₁) (selected_set x) same)
            ∙ sym (ap (λ (b : Bool). cond b (overwrite (entry_starts x.factor.n (selected_set x)) lent.result_starts) lent.result_starts) complete))
            (L.rows_are ∙ ap (λ (l : List ℕ). overwrite l lent.result_rows) (entry_rows_cong x.factor.n (column_marking x.factor.n s₁) (selected_set x) same)
            ∙ sym (ap (λ (b : Bool). cond b (overwrite (entry_rows x.factor.n (selected_set x)) lent.result_rows) lent.result_rows) complete))
            (ev
            ∙ ap (λ (l : List Float). overwrite l lent.result_values)
            (entry_values_cong x.factor.n (column_marking x.factor.n s₂) (selected_set x) (λ r c h l. laid_same fill_layout L r c h l ∙ same r c h l) (selected_table x))
            ∙ sym (ap (λ (b : Bool). cond b (overwrite (entry_values x.factor.n (selected_set x) (selected_table x)) lent.result_values) lent.result_values) complete))
            (cleared_same (queue_start x.factor.n + pair_total x.factor.n) (scratch_words x.factor.n) s₂ lent.scratch (scratch_words_queue x.factor.n) (L.later ∙ K.later))

    -- ---- beyond the limit
    module _ (told : d.status ≡ ClosureTooLarge) where
      large : selected_complete x ≡ false
      large = status_tells x ClosureTooLarge (ap (λ (y : SelectedInverseDiagnostics). y.status) (sym D) ∙ told)

      -- no member has a position to stand
      pub large_positions : selected_complete x ≡ true → Positioned x.factor.n (selected_set x) s₁
      large_positions e = let z : ◌≡◌ {A = ℕ} 0 1 = cc (sym large ∙ e) in absurd (omega arith)

      pub large_done : ResultLists [] (filling_of x) lent (lists lent.result_starts lent.result_rows lent.result_values (cleared (scratch_words x.factor.n) s₁))
      large_done =
          lists_passed [] (filling_of x) lent nothing-refused
          (sym (ap (λ (b : Bool). cond b (overwrite (entry_starts x.factor.n (selected_set x)) lent.result_starts) lent.result_starts) large))
          (sym (ap (λ (b : Bool). cond b (overwrite (entry_rows x.factor.n (selected_set x)) lent.result_rows) lent.result_rows) large))
          (sym (ap (λ (b : Bool). cond b (overwrite (entry_values x.factor.n (selected_set x) (selected_table x)) lent.result_values) lent.result_values) large))
          (cleared_same (queue_start x.factor.n + pair_total x.factor.n) (scratch_words x.factor.n) s₁ lent.scratch (scratch_words_queue x.factor.n) K.later)

-- ---- what the choice between the routes asks
module _ (x : Selection) (lent : Lent) (A : Accepted x (room_of lent)) {stops s₁ : List ℕ}
    (K : Closing x.factor.n (pat x) x.requests x.limit lent.scratch stops s₁) {d : SelectedInverseDiagnostics} (D : d ≡ selected_answer x)
    (told : d.status ≡ Complete) {rs rr s₂ : List ℕ} {count : ℕ}
    (L : LaidOut x.factor.n lent.result_starts lent.result_rows s₁ rs rr s₂ count) where
  pub fill_route : RoutesInput x.form x.factor.n x.factor.starts x.factor.rows x.factor.values d.factor_pairs d.closure_pairs rs rr s₂
      (length lent.result_values)
  fill_route = record {
    route = fill_closure x lent A K D told L;
    divisors = A.diagonals;
    kept_is = ap (λ (y : SelectedInverseDiagnostics). y.factor_pairs) D ∙ factor_pairs_are x;
    closed_is = fill_closed x lent A K D told L;
    starts_laid = fill_starts x lent A K D told L;
    rows_laid = fill_rows x lent A K D told L;
  }

-- ---- the count of kept pairs, in either form
module _ (form : Form) (n : ℕ) (starts rows : List ℕ) (values : List Float) (F : Factor n starts rows (length values)) where
  kept_total : kept_pairs n starts rows values form ≤ pair_total n
  kept_total = by form
    where
      by : (form : Form) → kept_pairs n starts rows values form ≤ pair_total n
      by cholesky = factor_pairs_most (nonzero values) F.starts_rise F.rows_ascend
      by (pivoted pivots) = pattern_pairs_most (nonzero values) F.starts_rise F.rows_ascend

  -- it is a float
  pub kept_small : n ≤ max_dimension → {kept : ℕ} → kept ≡ kept_pairs n starts rows values form → kept ≤ max_count
  kept_small small e = let t = pair_total_small n small in omega (arith, kept_total, e)

  -- and the diagnosis is that of the selection
  pub kept_answer : (req : ℕ → ℕ → Bool) (limit : ℕ) {kept : ℕ} → kept ≡ kept_pairs n starts rows values form → {d : SelectedInverseDiagnostics}
      → d ≡ diagnosis_of n (pattern starts rows (nonzero values)) kept req limit → d ≡ selected_answer (selecting form (factor_lists n starts rows values) req limit)
  kept_answer req limit e q = q ∙ ap (λ (k : ℕ). diagnosis_of n (pattern starts rows (nonzero values)) k req limit) e
