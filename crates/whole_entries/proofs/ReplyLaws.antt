-- The reply and the lists of a call: refused by its checks, or past them, with scratch and work list cleared.
-- Assumes nothing.
use Prim.Native.Nat.{ℕ, ◌+◌, ◌≤◌, ◌<◌}
use native.Mathlib.Omega.{arith}
use mathlib.Core.Path.{◌≡◌, refl, sym, ap, ◌∙◌}
use mathlib.Core.Bool.{Bool, true, false, cond, ◌&&◌}
use mathlib.Core.List.{List, [], ◌++◌}
use lib.ListN.{length, get_or, drop}
use lib.IntN.{ℤ, pos}
use lib.Dec.{ltb}
use borrow.Author.Tests.{leb-true, lt-ltb}
use Rattle.lists.specs.Tabulate.{tabulate, tabulate-length}
use Rattle.lists.specs.Overwrite.{overwrite, filled, cleared, drop_same}
use Rattle.refusal.specs.Bounds.{max_dimension, max_entries}
use Rattle.refusal.specs.Refusal.{refusal_number, reply_of}
use Rattle.refusal.specs.declared.Refusal.{Refusal}
use Rattle.refusal.specs.declared.Refusal.TheVariants.{NumberTooLarge}
use Rattle.refusal.specs.Steps.{Step, Passed, refused, verdict, settle, after}
use Rattle.refusal.proofs.Steps.{first_hit, first_skip, append-refused, append_passed, first_passed, after_passed, after_refused, clear_passed}
use Rattle.pairs.specs.Pair.{pair_total}
use Rattle.pairs.proofs.Pair.{pair_total_small}
use Rattle.pairs.specs.Scratch.{queue_start}
use Rattle.pairs.proofs.Scratch.{scratch_words_queue, scratch_words_room}
use Rattle.pairs.specs.ColumnOrder.{column_marking, set_size}
use Rattle.columns.specs.Columns.{bound_steps}
use Rattle.columns.specs.Kept.{factor_pairs}
use Rattle.columns.specs.WholeFactor.{whole_nonzero}
use Rattle.closed_set.proofs.FactorPattern.{factor_pattern}
use Rattle.closed_set.proofs.KeptSet.{factor_pairs_most}
use Rattle.closed_set.proofs.Size.{closure_size_most}
use Rattle.closure_route.proofs.Members.{marked_size, marked_closed}
use Rattle.diagnostics.specs.Diagnosis.{max_count}
use Rattle.diagnostics.specs.declared.SelectedInverseDiagnostics.{SelectedInverseDiagnostics}
use Rattle.diagnostics.specs.declared.SelectedInverseStatus.{SelectedInverseStatus}
use Rattle.diagnostics.specs.declared.SelectedInverseStatus.TheVariants.{Complete, ClosureTooLarge}
use Rattle.entries.proofs.Position.{entry_starts_cong, entry_rows_cong, entry_values_cong}
use Rattle.entries.specs.WholeTable.{exceeds}
use Rattle.marked_pairs.specs.MarkedPairs.{MarkedPairs}
use Rattle.closure.specs.Closure.{ClosureInput, Requested, Closing, Diagnoses}
use Rattle.closure.specs.Nested.{Unlisted}
use Rattle.selection.specs.Diagnosis.{diagnosis_of}
use Rattle.selection.specs.RequestSteps.{request_bound_steps}
use Rattle.selection.specs.Selection.{scratch_words, filled_starts, filled_rows, filled_values}
use Rattle.selection.proofs.Selection.{cleared_same}
use Rattle.selection.proofs.Status.{diagnosis_tells}
use Rattle.whole_selection.specs.Call.{WholeCall, WholeLent, whole_lent, whole_room_of, work_places, whole_requests, whole_descendants, whole_set, whole_size, whole_complete, whole_answer, whole_filling, check_steps, exceed_steps, whole_steps, WholeEntries}
use Rattle.whole_selection.specs.Accepted.{WholeAccepted}
use Rattle.whole_entries.specs.Filling.{CompleteInput, CompleteDone, Uncleared}
use Rattle.whole_entries.proofs.SetLaws.{exceeds_cong}
use Rattle.std.specs.Prelude.{Ok, Err, Result}

-- ---- a refused call
module _ (x : WholeCall) (lent : WholeLent) where
  abbrev checks : List Step
  checks = check_steps x (whole_room_of lent)

  abbrev all : List Step
  all = whole_steps x (whole_room_of lent)

  pub entries_refused : {why : Refusal} → verdict checks ≡ refused (refusal_number why) → WholeEntries x lent (Err why) lent
  entries_refused {why} e =
      let r : verdict all ≡ refused (refusal_number why) = append-refused checks (exceed_steps x) _ tt e in
      record {
        replies = sym (append-refused checks (exceed_steps x) _ _ e);
        lists_are = record {
          starts_are = sym (after_refused all _ _ _ r);
          rows_are = sym (after_refused all _ _ _ r);
          values_are = sym (after_refused all _ _ _ r);
          scratch_is = sym (after_refused checks _ _ _ e);
        };
        work_is = sym (after_refused checks _ _ _ e);
      }

  -- more stored entries than the bound are refused whatever the limit
  pub too_many : max_entries < length x.factor.rows → verdict checks ≡ refused 1
  unfolding check_steps bound_steps
  too_many h =
      let bounds = bound_steps x.factor.n (length x.factor.rows) in
      append-refused (bounds ++ request_bound_steps (length x.request_rows)) _ 1 tt
      (append-refused bounds (request_bound_steps (length x.request_rows)) 1 tt (go (ltb max_dimension x.factor.n) refl))
    where
      go : (b : Bool) → ltb max_dimension x.factor.n ≡ b → verdict (bound_steps x.factor.n (length x.factor.rows)) ≡ refused 1
      go true e = first_hit 1 _ _ e
      go false e = first_skip 1 _ _ e (first_hit 1 _ _ (lt-ltb max_entries (length x.factor.rows) h))

-- ---- clearing

cleared_work_lem : (m : ℕ) (w w₀ : List ℤ) → length w ≡ length w₀ → ((p : ℕ) → m ≤ p → get_or w p (pos 0) ≡ get_or w₀ p (pos 0))
    → filled (λ _. pos 0) m w ≡ filled (λ _. pos 0) m w₀
unfolding filled overwrite
cleared_work_lem m w w₀ long rest =
    ap (λ (l : List ℤ). tabulate (λ _. pos 0) m ++ l)
    (drop_same (pos 0) (length (tabulate (λ _. pos 0) m)) w w₀ long (λ p h. rest p (omega (arith, tabulate-length {A = ℤ} (λ _. pos 0) m))))

-- the contract of a call past its checks
pub uncleared_entries : (x : WholeCall) (lent : WholeLent) → Passed (check_steps x (whole_room_of lent)) → {reply : Result SelectedInverseDiagnostics Refusal} {left : WholeLent} → Uncleared x lent reply left
    → {s : List ℕ} {w : List ℤ} {m : ℕ} → s ≡ cleared (scratch_words x.factor.n) left.lists.scratch → m ≡ work_places x.factor.n x.limit
    → w ≡ filled (λ _. pos 0) m left.work
    → WholeEntries x lent reply (whole_lent left.lists.result_starts left.lists.result_rows left.lists.result_values s w)
unfolding after
uncleared_entries x lent p {left = left} U a e b = record {
  replies = U.replies ∙ sym (append_passed (checks x lent) (exceed_steps x) _ p);
  lists_are = record {
    starts_are = U.starts_are ∙ behind _ _;
    rows_are = U.rows_are ∙ behind _ _;
    values_are = U.values_are ∙ behind _ _;
    scratch_is =
        a
        ∙ cleared_same (queue_start x.factor.n + pair_total x.factor.n) (scratch_words x.factor.n) left.lists.scratch lent.lists.scratch
        (scratch_words_queue x.factor.n) U.later
        ∙ sym (after_passed (checks x lent) _ _ p);
  };
  work_is =
      b ∙ ap (λ (k : ℕ). filled (λ _. pos 0) k left.work) e
      ∙ cleared_work_lem (work_places x.factor.n x.limit) left.work lent.work U.work_long U.rest
      ∙ sym (after_passed (checks x lent) _ _ p);
}
  where
    behind : {A : Type 0} (new old : A) → after (exceed_steps x) new old ≡ after (all x lent) new old
    behind new old = ap (settle old) (sym (append_passed (checks x lent) (exceed_steps x) new p))

-- ---- from the marked requests to the reply

-- a choice by a test that is known
chosen : {B : Type 0} {b c : Bool} (x y : B) → b ≡ c → cond b x y ≡ cond c x y
chosen x y e = ap (λ (b : Bool). cond b x y) e

module _ (x : WholeCall) (lent : WholeLent) (A : WholeAccepted x (whole_room_of lent)) {s₁ : List ℕ} {requested : ℕ}
    (M : MarkedPairs x.factor.n (whole_requests x) lent.lists.scratch s₁ requested) where
  marked_are : Requested x.factor.n (whole_requests x) s₁
  marked_are = record { ranged = A.requests; marks = M.marks }

  -- what the diagnosis asks
  pub fill_closure : {stops : List ℕ} → Unlisted x.factor.n stops
      → ClosureInput x.factor.n x.factor.starts x.factor.rows (length x.factor.values) requested stops s₁
  fill_closure u = record { small = A.small; factor = A.factor; unlisted = u; marked = M.marked }

  module _ {kept : ℕ} (K : kept ≡ factor_pairs x.factor.starts x.factor.rows (whole_nonzero x.factor.values) x.factor.n) where
    pub fill_kept : kept ≤ max_count
    fill_kept =
        let most = factor_pairs_most (whole_nonzero x.factor.values) A.factor.starts_rise A.factor.rows_ascend in
        let total = pair_total_small x.factor.n A.small in
        omega (arith, K, most, total)

    module _ {d : SelectedInverseDiagnostics} {stops s₂ : List ℕ} (D : Diagnoses x.factor.n (whole_descendants x) kept x.limit s₁ d stops s₂) where
      answer : d ≡ whole_answer x
      answer = D.answers (whole_requests x) marked_are ∙ ap (λ (k : ℕ). diagnosis_of x.factor.n (whole_descendants x) k (whole_requests x) x.limit) K

      C : Closing x.factor.n (whole_descendants x) (whole_requests x) x.limit s₁ stops s₂
      C = D.leaves (whole_requests x) marked_are

      tells : (st : SelectedInverseStatus) → d.status ≡ st → (whole_answer x).status ≡ st
      tells st e = sym (ap (λ (y : SelectedInverseDiagnostics). y.status) answer) ∙ e

      abbrev exceed : Bool
      exceed = whole_complete x && exceeds x.factor.n x.factor.starts x.factor.rows x.factor.values (whole_set x)

      -- what is left of scratch and work list
      abbrev Left : WholeLent → Type 0
      Left left =
          (drop (queue_start x.factor.n + pair_total x.factor.n) left.lists.scratch ≡ drop (queue_start x.factor.n + pair_total x.factor.n) lent.lists.scratch)
          × (length left.work ≡ length lent.work)
          × ((p : ℕ) → work_places x.factor.n x.limit ≤ p → get_or left.work p (pos 0) ≡ get_or lent.work p (pos 0))

      -- nothing is refused
      answered_left : {left : WholeLent} → exceed ≡ false → left.lists.result_starts ≡ filled_starts (whole_filling x) lent.lists
          → left.lists.result_rows ≡ filled_rows (whole_filling x) lent.lists → left.lists.result_values ≡ filled_values (whole_filling x) lent.lists
          → Left left → Uncleared x lent (Ok d) left
      unfolding exceed_steps
      answered_left none a b c rest =
          let p : Passed (exceed_steps x) = clear_passed (exceed_steps x) (none, tt) in
          record {
            replies = ap (λ (y : SelectedInverseDiagnostics). reply_of (Ok y)) answer ∙ sym (first_passed (exceed_steps x) _ p);
            starts_are = a ∙ sym (after_passed (exceed_steps x) _ _ p);
            rows_are = b ∙ sym (after_passed (exceed_steps x) _ _ p);
            values_are = c ∙ sym (after_passed (exceed_steps x) _ _ p);
            later = rest.0;
            work_long = rest.1;
            rest = rest.2;
          }

      -- 20
      refused_left : {left : WholeLent} → exceed ≡ true → left.lists.result_starts ≡ lent.lists.result_starts
          → left.lists.result_rows ≡ lent.lists.result_rows → left.lists.result_values ≡ lent.lists.result_values
          → Left left → Uncleared x lent (Err NumberTooLarge) left
      unfolding exceed_steps
      refused_left hit a b c rest = record {
        replies = sym (first_hit 20 [] _ hit);
        starts_are = a ∙ sym (after_refused (exceed_steps x) 20 _ _ (first_hit 20 [] _ hit));
        rows_are = b ∙ sym (after_refused (exceed_steps x) 20 _ _ (first_hit 20 [] _ hit));
        values_are = c ∙ sym (after_refused (exceed_steps x) 20 _ _ (first_hit 20 [] _ hit));
        later = rest.0;
        work_long = rest.1;
        rest = rest.2;
      }

      -- ---- within the limit
      module _ (told : d.status ≡ Complete) where
        complete : whole_complete x ≡ true
        complete = diagnosis_tells x.factor.n (whole_descendants x) _ (whole_requests x) x.limit Complete (tells Complete told)

        within : whole_size x ≤ x.limit
        within = leb-true _ _ complete

        same : (r c : ℕ) → c ≤ r → r < x.factor.n → column_marking x.factor.n s₂ r c ≡ whole_set x r c
        same = C.marks within

        size : set_size x.factor.n (column_marking x.factor.n s₂) ≡ whole_size x
        size = marked_size x.factor.n (whole_descendants x) (whole_requests x) s₂ same

        most : whole_size x ≤ work_places x.factor.n x.limit
        most = omega (arith, within, closure_size_most x.factor.n (whole_descendants x) (whole_requests x))

        -- the lists once the set is marked
        abbrev closed : WholeLent
        closed = whole_lent lent.lists.result_starts lent.lists.result_rows lent.lists.result_values s₂ lent.work

        pub fill_set : x.factor.n ≤ length stops → CompleteInput x.factor stops closed
        fill_set h = record {
          set = record {
            small = A.small;
            factor = A.factor;
            closed =
                marked_closed x.factor.n (whole_descendants x) (whole_requests x) s₂ same (factor_pattern (whole_nonzero x.factor.values) A.factor) A.requests;
            room = omega (arith, C.long, M.long, scratch_words_room x.factor.n A.room.scratch_room);
            reached_long = h;
            reached_all = C.reached within;
            fits = omega (arith, size, most, A.work_room);
          };
          starts_fit = A.room.starts_room;
          rows_fit = omega (arith, size, most, A.room.rows_room);
          values_fit = omega (arith, size, most, A.room.values_room);
        }

        module _ {left : WholeLent} {b : Bool} (F : CompleteDone x.factor closed left b) where
          exceeds_is : exceed ≡ b
          exceeds_is =
              ap (λ (y : Bool). y && exceeds x.factor.n x.factor.starts x.factor.rows x.factor.values (whole_set x)) complete
              ∙ sym (F.tells ∙ exceeds_cong x.factor (column_marking x.factor.n s₂) (whole_set x) same)

          leaves : Left left
          leaves = (F.later ∙ C.later ∙ M.later, F.work_long, λ p h. F.rest p (omega (arith, size, most)))

          pub fill_exceeds : b ≡ true → Uncleared x lent (Err NumberTooLarge) left
          fill_exceeds e = refused_left (exceeds_is ∙ e) (F.starts_are ∙ chosen _ _ e) (F.rows_are ∙ chosen _ _ e) (F.values_are ∙ chosen _ _ e) leaves

          pub fill_done : b ≡ false → Uncleared x lent (Ok d) left
          fill_done e =
              answered_left (exceeds_is ∙ e)
              (F.starts_are ∙ chosen _ _ e
              ∙ ap (λ (l : List ℕ). overwrite l lent.lists.result_starts) (entry_starts_cong x.factor.n (column_marking x.factor.n s₂) (whole_set x) same)
              ∙ sym (chosen _ _ complete))
              (F.rows_are ∙ chosen _ _ e
              ∙ ap (λ (l : List ℕ). overwrite l lent.lists.result_rows) (entry_rows_cong x.factor.n (column_marking x.factor.n s₂) (whole_set x) same)
              ∙ sym (chosen _ _ complete))
              (F.values_are ∙ chosen _ _ e
              ∙ ap (λ (l : List ℤ). overwrite l lent.lists.result_values)
              (entry_values_cong x.factor.n (column_marking x.factor.n s₂) (whole_set x) same (whole_filling x).table)
              ∙ sym (chosen _ _ complete))
              leaves

      -- ---- beyond the limit: no size is looked at
      module _ (told : d.status ≡ ClosureTooLarge) where
        large : whole_complete x ≡ false
        large = diagnosis_tells x.factor.n (whole_descendants x) _ (whole_requests x) x.limit ClosureTooLarge (tells ClosureTooLarge told)

        pub fill_large : Uncleared x lent (Ok d)
            (whole_lent lent.lists.result_starts lent.lists.result_rows lent.lists.result_values s₂ lent.work)
        fill_large =
            answered_left
            (ap (λ (y : Bool). y && exceeds x.factor.n x.factor.starts x.factor.rows x.factor.values (whole_set x)) large)
            (sym (chosen _ _ large)) (sym (chosen _ _ large)) (sym (chosen _ _ large)) (C.later ∙ M.later, refl, λ p h. refl)
