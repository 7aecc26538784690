-- Laws of specs/ReadBack.antt.
use Rattle.std.specs.Prelude.{ℕ, suc, ◌≤◌, ◌<◌, max, min, ◌≡◌, Bool, cond, ◌&&◌, ◌↔◌, ℤ, pos, Result}
use Rattle.std.proofs.Common.{arith, sym, ap, ◌∙◌, le-leb, leb-true}
use Rattle.std.proofs.Math.Path.{refl}
use Rattle.std.proofs.Math.Bool.{true, false, false≢true}
use mathlib.Core.List.{List, [], ◌∷◌}
use Rattle.std.proofs.Math.IntN.{ℤ_discrete}
use Rattle.lists.specs.Test.{and_left, and_right, and_both}
use Rattle.refusal.specs.Steps.{Step, Reply, refused, answered, Passed}
use Rattle.refusal.proofs.Steps.{first_hit, passed_front, passed_back, passed_append, append_passed, clear_passed, passed_clear}
use Rattle.refusal.proofs.Told.{told-refused, told_passed, told_answer}
use Rattle.pairs.specs.Pair.{pair_total}
use Rattle.columns.specs.WholeFactor.{whole_nonzero, whole_stored}
use Rattle.closed_set.specs.ClosedSet.{Pattern}
use Rattle.closed_set.proofs.ClosedSet.{needed_range, member_needed}
use Rattle.closed_set.proofs.Size.{closure_size_most}
use Rattle.closed_set.proofs.FactorPattern.{factor_pattern}
use Rattle.integers.specs.Matrix.{Matrix}
use Rattle.integers.specs.Inverse.{WholeInverse}
use Rattle.takahashi.specs.Entries.{Ascend}
use Rattle.takahashi.specs.Recurrence.{at, RecurrenceClosed}
use Rattle.exact.specs.Factor.{factor}
use Rattle.exact.proofs.ExactCase.{unit_has_inverse, unit_inverse, unit_ordered}
use Rattle.entries.specs.WholeTable.{whole_table, exceeds}
use Rattle.entries.proofs.WholeTable.{whole_desc-ascend, whole_within}
use Rattle.diagnostics.specs.declared.SelectedInverseDiagnostics.{SelectedInverseDiagnostics}
use Rattle.diagnostics.specs.declared.SelectedInverseStatus.TheVariants.{Complete}
use Rattle.selection.specs.Selection.{LentOf}
use Rattle.selection.proofs.Status.{diagnosis_complete}
use Rattle.exact_entries.proofs.Columns.{places_descend, needed_closed}
use Rattle.exact_entries.specs.ReadBack.{read_back}
use Rattle.exact_entries.proofs.ReadBack.{needed_covered, other_covered, lookup_left}
use Rattle.whole_selection.specs.Call.{WholeCall, WholeLent, WholeRoom, whole_room_of, whole_requests, whole_descendants, whole_set, whole_size, whole_complete, whole_answer, whole_filling}
use Rattle.whole_selection.specs.Call.{check_steps, exceed_steps, whole_steps, WholeEntries}
use Rattle.whole_selection.specs.Accepted.{WholeAccepted}
use Rattle.whole_selection.proofs.Accepted.{whole_accepted}
use Rattle.whole_selection.specs.ReadBack.{InWholeSet, whole_found, whole_entries, whole_matrix, Within53, ReadsWhole}
use Rattle.refusal.specs.declared.Refusal.{Refusal}
use Rattle.refusal.specs.Refusal.{reply_of}

module _ (x : WholeCall) where
  pub whole_complete_lem : ((whole_answer x).status ≡ Complete) ↔ (whole_size x ≤ x.limit)
  whole_complete_lem = diagnosis_complete x.factor.n (whole_descendants x) _ (whole_requests x) x.limit

-- ---- a call past its checks
module _ (x : WholeCall) (lengths : WholeRoom) (A : WholeAccepted x lengths) where
  pub whole_pattern_lem : Pattern x.factor.n (whole_descendants x)
  whole_pattern_lem = factor_pattern (whole_nonzero x.factor.values) A.factor

  whole_ascend : (j : ℕ) → j < x.factor.n → Ascend x.factor.n (suc j) (whole_entries x j)
  whole_ascend j jn = whole_desc-ascend x.factor.values A.factor j jn

  whole_closed : RecurrenceClosed x.factor.n (whole_entries x) (InWholeSet x)
  whole_closed =
      needed_closed x.factor.n (whole_descendants x) (whole_requests x) whole_pattern_lem A.requests (whole_entries x) whole_ascend
      (λ j jn. places_descend (whole_stored x.factor.rows x.factor.values) (whole_nonzero x.factor.values) A.factor (λ p. refl) j jn)

  pub whole_member : (i j : ℕ) → j ≤ i → i < x.factor.n → (whole_set x i j ≡ true) ↔ InWholeSet x i j
  whole_member = member_needed x.factor.n (whole_descendants x) (whole_requests x) whole_pattern_lem A.requests

  -- nothing exceeds exactly if all is within
  pub call_within : (exceeds x.factor.n x.factor.starts x.factor.rows x.factor.values (whole_set x) ≡ false) ↔ Within53 x
  call_within = whole_within x.factor.n x.factor.starts x.factor.rows x.factor.values (whole_set x) (InWholeSet x) whole_member whole_closed

  -- L * Lᵀ has an inverse in whole numbers
  pub whole_has_inverse : (X : Matrix) × WholeInverse x.factor.n (whole_matrix x) X
  whole_has_inverse = unit_has_inverse x.factor.n (whole_entries x) whole_ascend

  module _ (X : Matrix) (is : WholeInverse x.factor.n (whole_matrix x) X) where
    -- the exact recurrence gives its entries, read at either order of the indices
    whole_either : (row col : ℕ) → InWholeSet x (max row col) (min row col) → at (whole_filling x).table row col ≡ X row col
    unfolding whole_table
    whole_either row col p =
        unit_inverse x.factor.n (whole_entries x) whole_ascend X is (InWholeSet x) whole_closed (max row col) (min row col) p
        ∙ unit_ordered x.factor.n (whole_entries x) whole_ascend X is row col
        (needed_range (whole_descendants x) (whole_requests x) x.factor.n whole_pattern_lem A.requests p).1

-- a reply that refuses
abbrev refuses : Reply (Unit {0}) → Bool
refuses (answered a) = false
refuses (refused k) = true

-- ---- a call that answers
module _ (x : WholeCall) (lent : WholeLent) {reply : Result SelectedInverseDiagnostics Refusal} {left : WholeLent} (C : WholeEntries x lent reply left) where
  abbrev checks : List Step
  checks = check_steps x (whole_room_of lent)

  abbrev steps : List Step
  steps = whole_steps x (whole_room_of lent)

  module _ (passed : Passed steps) where
    pub answered_accepted : WholeAccepted x (whole_room_of lent)
    answered_accepted = whole_accepted x (whole_room_of lent) (passed_front checks (exceed_steps x) passed)

    most : whole_size x ≤ pair_total x.factor.n
    most = closure_size_most x.factor.n (whole_descendants x) (whole_requests x)

    -- within the limit the lookup finds the set's entries, and no other
    whole_found_lem : whole_size x ≤ x.limit → (row col : ℕ)
        → whole_found x left.lists row col ≡ read_back x.factor.n (whole_set x) (whole_filling x).table row col
    whole_found_lem h =
        let room = answered_accepted.room in
        lookup_left (pos 0) (whole_filling x) lent.lists (omega (arith, most, room.rows_room)) (omega (arith, most, room.values_room)) steps passed C.lists_are
        (le-leb _ _ h)

    -- a Complete answer is exact: X, any inverse of L * Lᵀ, is what reads back
    pub whole_exact : (X : Matrix) → WholeInverse x.factor.n (whole_matrix x) X → ReadsWhole x left.lists X
    whole_exact X is =
        let A = answered_accepted in
        let P = whole_pattern_lem x (whole_room_of lent) A in
        record {
          complete = whole_complete_lem x;
          members = λ e row col p.
              whole_found_lem ((whole_complete_lem x).0 e) row col
              ∙ ap (λ (b : Bool). cond b (answered (at (whole_filling x).table row col)) (refused 8))
              (needed_covered x.factor.n (whole_descendants x) (whole_requests x) P A.requests row col p)
              ∙ ap (λ (z : ℤ). answered z) (whole_either x (whole_room_of lent) A X is row col p);
          others = λ e row col none.
              whole_found_lem ((whole_complete_lem x).0 e) row col
              ∙ ap (λ (b : Bool). cond b (answered (at (whole_filling x).table row col)) (refused 8))
              (other_covered x.factor.n (whole_descendants x) (whole_requests x) P A.requests row col none);
        }

    -- and nothing of it exceeds 2 ^ 53
    pub whole_small : (whole_answer x).status ≡ Complete → Within53 x
    unfolding exceed_steps
    whole_small e =
        (call_within x (whole_room_of lent) answered_accepted).0
        (go (whole_complete x) (le-leb _ _ ((whole_complete_lem x).0 e)) (passed_clear (exceed_steps x) (passed_back checks (exceed_steps x) passed)).0)
      where
        go : (b : Bool) {p : Bool} → b ≡ true → (b && p) ≡ false → p ≡ false
        go true t q = q
        go false t q = absurd (false≢true t)

  -- ---- demand 3, of the reply: d is the diagnosis, and X is what reads back
  module _ {d : SelectedInverseDiagnostics} (answer : reply_of reply ≡ answered d) where
    pub whole_passed : Passed steps
    whole_passed = told_passed steps (whole_answer x) (sym answer ∙ C.replies)

    pub whole_reply_lem : (X : Matrix) → WholeInverse x.factor.n (whole_matrix x) X → (d ≡ whole_answer x) × ReadsWhole x left.lists X
    whole_reply_lem X is = (told_answer steps (whole_answer x) (sym answer ∙ C.replies), whole_exact whole_passed X is)

  -- ---- 20, past the checks: told exactly when the set is within the limit and not all is within 2 ^ 53
  module _ (checked : Passed checks) where
    A : WholeAccepted x (whole_room_of lent)
    A = whole_accepted x (whole_room_of lent) checked

    pub twenty_told : (whole_size x ≤ x.limit) → (Within53 x → ⊥) → reply_of reply ≡ refused 20
    unfolding exceed_steps
    twenty_told h over53 = C.replies ∙ append_passed checks (exceed_steps x) (whole_answer x) checked ∙ first_hit 20 [] (whole_answer x) (and_both _ _ (le-leb _ _ h) over)
      where
        over : exceeds x.factor.n x.factor.starts x.factor.rows x.factor.values (whole_set x) ≡ true
        over = by (exceeds x.factor.n x.factor.starts x.factor.rows x.factor.values (whole_set x)) refl
          where
            by : (b : Bool) → exceeds x.factor.n x.factor.starts x.factor.rows x.factor.values (whole_set x) ≡ b → b ≡ true
            by true e = refl
            by false e = absurd (over53 ((call_within x (whole_room_of lent) A).0 e))

    pub told_twenty : reply_of reply ≡ refused 20 → (whole_size x ≤ x.limit) × (Within53 x → ⊥)
    unfolding exceed_steps
    told_twenty e = (leb-true _ _ (and_left (whole_complete x) _ over), (λ w. false≢true (sym ((call_within x (whole_room_of lent) A).1 w) ∙ and_right (whole_complete x) _ over)))
      where
        -- a list of one step that refuses
        hit : (b : Bool) → (Passed ((20, b) ∷ []) → ⊥) → b ≡ true
        hit true h = refl
        hit false h = absurd (h (clear_passed ((20, false) ∷ []) (refl, tt)))

        not_passed : Passed (exceed_steps x) → ⊥
        not_passed p =
            false≢true (ap refuses (sym (passed_append checks (exceed_steps x) checked p) ∙ told-refused steps (whole_answer x) (sym e ∙ C.replies)))

        over : (whole_complete x && exceeds x.factor.n x.factor.starts x.factor.rows x.factor.values (whole_set x)) ≡ true
        over = hit _ not_passed

-- ---- what a lookup finds after a Complete call is X's entry
answered_same : {y z : ℤ} → answered y ≡ answered z → y ≡ z
answered_same e = cc

not-refused : {k : ℕ} {z : ℤ} → refused k ≡ answered z → ⊥
not-refused e = let q : ◌≡◌ {A = ℕ} 0 1 = cc in omega arith

pub reads_found : (x : WholeCall) (left : LentOf ℤ) (X : Matrix) → ReadsWhole x left X → (whole_answer x).status ≡ Complete
    → (row col : ℕ) {z : ℤ} → whole_found x left row col ≡ answered z → z ≡ X row col
reads_found x left X R complete row col {z} found = elim (ℤ_discrete z (X row col)) [
  | yes e ↦ e
  | no n ↦ absurd (not-refused (sym (R.others complete row col (λ p. n (answered_same (sym found ∙ R.members complete row col p)))) ∙ found))
]
