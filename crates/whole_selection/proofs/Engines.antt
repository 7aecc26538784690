-- Laws of specs/Engines.antt.
use Rattle.std.specs.Prelude.{ℕ, suc, ◌+◌, ◌*◌, ◌≤◌, ◌<◌, max, min, ◌≡◌, refl, Bool, not, ◌↔◌, List, eqb, leb, length, take, ℤ, pos, negsuc, nat_abs, ◌*ℤ◌, Float, Result}
use Rattle.std.proofs.Common.{arith, sym, ap, subst, subst₂, ◌∙◌, true≢false, lit≤, eqb-true, le-leb}
use Rattle.std.proofs.Math.Decide.{dec_lt}
use Rattle.std.proofs.Math.Bool.{true, false}
use Rattle.std.proofs.lemmas.List.{length-map}
use Rattle.std.specs.Float.{nan, inf, fin}
use Rattle.std.specs.Float.Ieee.{binary64, up, down, round, of_int}
use Rattle.std.specs.Float.Ieee.Exact.{HasValue}
use Rattle.lists.specs.Test.{and_both}
use Rattle.lists.specs.Select.{get_d_mapped}
use Rattle.refusal.specs.Steps.{Reply, refused, answered, Passed}
use Rattle.refusal.proofs.Steps.{passed_front}
use Rattle.integers.specs.Integer.{signed}
use Rattle.integers.proofs.Integer.{signed_scale}
use Rattle.integers.specs.Matrix.{Matrix}
use Rattle.integers.specs.Inverse.{WholeInverse}
use Rattle.pairs.proofs.ColumnOrder.{set_size_cong}
use Rattle.columns.specs.Columns.{row}
use Rattle.columns.proofs.Factor.{starts_end}
use Rattle.columns.specs.WholeFactor.{whole_value, whole_nonzero}
use Rattle.closed_set.proofs.ClosedSet.{member_needed, needed_range}
use Rattle.exact.specs.Multiple.{Whole, Small}
use Rattle.exact.proofs.Rounding.{round_multiple}
use Rattle.entries.proofs.Position.{entry_starts_cong, entry_rows_cong}
use Rattle.diagnostics.specs.declared.SelectedInverseDiagnostics.{SelectedInverseDiagnostics}
use Rattle.diagnostics.specs.declared.SelectedInverseStatus.TheVariants.{Complete}
use Rattle.selection.specs.Selection.{Selection, Lent, room_of, room_steps, Accepted, selected_answer, selected_pattern, selected_set, selected_size, filling_of, ResultLists}
use Rattle.selection.proofs.Selection.{passed_starts, passed_rows}
use Rattle.selection.proofs.SamePositions.{front_starts, front_rows}
use Rattle.selection.specs.Call.{selection_of, selected_steps}
use Rattle.selection.proofs.Call.{accepted}
use Rattle.exact_entries.specs.Recurrence.{InClosedSet, found}
use Rattle.exact_entries.proofs.Recurrence.{selected_pattern_lem}
use Rattle.exact_entries.specs.ExactEntries.{ExactCall, ReadsBack}
use Rattle.exact_entries.proofs.ExactEntries.{exact_call}
use Rattle.whole_selection.specs.Call.{WholeCall, WholeLent, whole_room_of, whole_requests, whole_descendants, whole_set, whole_size, whole_answer, whole_filling, check_steps, exceed_steps, whole_steps, WholeEntries}
use Rattle.whole_selection.specs.Accepted.{WholeAccepted}
use Rattle.whole_selection.proofs.Accepted.{whole_accepted}
use Rattle.whole_selection.specs.ReadBack.{InWholeSet, whole_found, whole_entries, whole_matrix, ReadsWhole}
use Rattle.whole_selection.proofs.ReadBack.{whole_complete_lem, whole_pattern_lem, whole_member, whole_has_inverse, whole_small, whole_passed, whole_reply_lem}
use Rattle.whole_selection.specs.Agree.{SameNumbers, float_call, SameFound}
use Rattle.whole_selection.proofs.Agree.{same_entries, same_diagonal, same_diagnosis, same_set, float_passed}
use Rattle.whole_selection.specs.Engines.{converted, Agrees}
use Rattle.refusal.specs.declared.Refusal.{Refusal}
use Rattle.refusal.specs.Refusal.{reply_of}

-- ---- a call in whole numbers that completes
module _ (x : WholeCall) (lent : WholeLent) {reply : Result SelectedInverseDiagnostics Refusal} {left : WholeLent} (C : WholeEntries x lent reply left) {d : SelectedInverseDiagnostics}
    (answer : reply_of reply ≡ answered d) (complete : d.status ≡ Complete) where
  passed : Passed (whole_steps x (whole_room_of lent))
  passed = whole_passed x lent C answer

  checked : Passed (check_steps x (whole_room_of lent))
  checked = passed_front (check_steps x (whole_room_of lent)) (exceed_steps x) passed

  A : WholeAccepted x (whole_room_of lent)
  A = whole_accepted x (whole_room_of lent) checked

  inverse : (X : Matrix) × WholeInverse x.factor.n (whole_matrix x) X
  inverse = whole_has_inverse x (whole_room_of lent) A

  e : (whole_answer x).status ≡ Complete
  e = ap (λ (d : SelectedInverseDiagnostics). d.status) (sym (whole_reply_lem x lent C answer inverse.0 inverse.1).0) ∙ complete

  within : whole_size x ≤ x.limit
  within = (whole_complete_lem x).0 e

  -- ---- any floats with the same numbers, and lists with room
  module _ (values : List Float) (long : length values ≡ length x.factor.values) (same : SameNumbers x values)
      (floatLent : Lent) (room : Passed (room_steps x.factor.n x.limit (room_of floatLent))) where
    abbrev f : Selection
    f = selection_of (float_call x values)

    fp : Passed (selected_steps (float_call x values) (room_of floatLent))
    fp = float_passed x (whole_room_of lent) A values same long checked (room_of floatLent) room

    B : Accepted f (room_of floatLent)
    B = accepted (float_call x values) (room_of floatLent) fp

    sets : (r c : ℕ) → c ≤ r → r < x.factor.n → selected_set f r c ≡ whole_set x r c
    sets = same_set x (whole_room_of lent) A values same

    -- the sets, as pairs
    same_member : (i j : ℕ) → j ≤ i → i < x.factor.n → InClosedSet f i j ↔ InWholeSet x i j
    same_member i j ji hi =
        let mf = member_needed x.factor.n (selected_pattern f) (whole_requests x) (selected_pattern_lem f floatLent B) B.requests i j ji hi in
        let mw = whole_member x (whole_room_of lent) A i j ji hi in
        ((λ s. mw.0 (sym (sets i j ji hi) ∙ mf.1 s)), (λ s. mf.0 (sets i j ji hi ∙ mw.1 s)))

    float_range : (i j : ℕ) → InClosedSet f i j → (j ≤ i) × (i < x.factor.n)
    float_range i j s = needed_range (selected_pattern f) (whole_requests x) x.factor.n (selected_pattern_lem f floatLent B) B.requests s

    whole_range : (i j : ℕ) → InWholeSet x i j → (j ≤ i) × (i < x.factor.n)
    whole_range i j s = needed_range (whole_descendants x) (whole_requests x) x.factor.n (whole_pattern_lem x (whole_room_of lent) A) A.requests s

    -- the factor in f64 is in the exact case
    exact : ExactCall f (whole_entries x)
    exact =
        let W = (whole_small x lent C passed e).1 in
        let into : (i j : ℕ) → InClosedSet f i j → InWholeSet x i j = λ i j s. (same_member i j (float_range i j s).0 (float_range i j s).1).0 s in
        record {
          diagonals = λ j jn. same_diagonal x (whole_room_of lent) A values same j jn (B.diagonals.diagonal j jn);
          entries = λ j jn. same_entries x (whole_room_of lent) A values same j jn;
          within = record {
            entry = λ i j p. W.entry i j (into i j p);
            product_below = λ i j p ji. W.product_below i j (into i j p) ji;
            sum_below = λ i j p ji. W.sum_below i j (into i j p) ji;
            product_diagonal = λ j p. W.product_diagonal j (into j j p);
            sum_diagonal = λ j p. W.sum_diagonal j (into j j p);
          };
        }

    module _ {floatLeft : Lent} (F : ResultLists (selected_steps (float_call x values) (room_of floatLent)) (filling_of f) floatLent floatLeft) where
      same_status : selected_answer f ≡ whole_answer x
      same_status = same_diagnosis x (whole_room_of lent) A values same

      fe : (selected_answer f).status ≡ Complete
      fe = ap (λ (d : SelectedInverseDiagnostics). d.status) same_status ∙ e

      R : ReadsBack f floatLeft inverse.0
      R = exact_call (float_call x values) floatLent fp (whole_entries x) exact inverse.0 inverse.1 F

      Q : ReadsWhole x left.lists inverse.0
      Q = (whole_reply_lem x lent C answer inverse.0 inverse.1).1

      agree-answered : {v : Float} {z : ℤ} {a : Reply Float} {b : Reply ℤ} → a ≡ answered v → b ≡ answered z → Whole v z → SameFound a b
      agree-answered {v} {z} p q h = subst₂ SameFound (sym p) (sym q) h

      agree-refused : {a : Reply Float} {b : Reply ℤ} → a ≡ refused 8 → b ≡ refused 8 → SameFound a b
      agree-refused p q = subst₂ SameFound (sym p) (sym q) refl

      finds : (row col : ℕ) → SameFound (found f floatLeft row col) (whole_found x left.lists row col)
      finds row col = elim (dec_lt (max row col) x.factor.n) [
        | yes l ↦ by_member l (whole_set x (max row col) (min row col)) refl
        | no l ↦ agree-refused (R.others fe row col (λ q. l (float_range _ _ q).1)) (Q.others e row col (λ q. l (whole_range _ _ q).1))
      ]
        where
          by_member : max row col < x.factor.n → (b : Bool) → whole_set x (max row col) (min row col) ≡ b
              → SameFound (found f floatLeft row col) (whole_found x left.lists row col)
          by_member l true t =
              let p = (whole_member x (whole_room_of lent) A (max row col) (min row col) (omega arith) l).0 t in
              let m = R.members fe row col ((same_member (max row col) (min row col) (omega arith) l).1 p) in
              agree-answered m.1 (Q.members e row col p) m.2
          by_member l false t =
              let none : InWholeSet x (max row col) (min row col) → ⊥ =
              λ p. true≢false (sym ((whole_member x (whole_room_of lent) A (max row col) (min row col) (omega arith) l).1 p) ∙ t) in
              agree-refused
              (R.others fe row col (λ q. none ((same_member (max row col) (min row col) (omega arith) l).0 q)))
              (Q.others e row col none)

      -- the engines agree
      pub engines_agree : Agrees x left.lists values floatLent floatLeft
      engines_agree =
          let steps = selected_steps (float_call x values) (room_of floatLent) in
          let whole = whole_steps x (whole_room_of lent) in
          let size : selected_size f ≡ whole_size x = set_size_cong x.factor.n (selected_set f) (whole_set x) sets in
          let float-complete : leb (selected_size f) x.limit ≡ true = le-leb _ _ (subst (λ (k : ℕ). k ≤ x.limit) (sym size) within) in
          record {
            accepts = fp;
            answers = same_status;
            starts_agree =
                ap (take (x.factor.n + 1)) (passed_starts steps (filling_of f) floatLent fp F) ∙ front_starts (filling_of f) floatLent float-complete
                ∙ entry_starts_cong x.factor.n (selected_set f) (whole_set x) sets
                ∙ sym (ap (take (x.factor.n + 1)) (passed_starts whole (whole_filling x) lent.lists passed C.lists_are)
                ∙ front_starts (whole_filling x) lent.lists (le-leb _ _ within));
            rows_agree =
                ap (λ (k : ℕ). take k floatLeft.result_rows) (sym size)
                ∙ ap (take (selected_size f)) (passed_rows steps (filling_of f) floatLent fp F) ∙ front_rows (filling_of f) floatLent float-complete
                ∙ entry_rows_cong x.factor.n (selected_set f) (whole_set x) sets
                ∙ sym (ap (take (whole_size x)) (passed_rows whole (whole_filling x) lent.lists passed C.lists_are)
                ∙ front_rows (whole_filling x) lent.lists (le-leb _ _ within));
            found_agree = finds;
          }

  -- ---- there are such floats: the whole numbers, each converted
  of_value : (v : Float) (t : Bool) (c : ℕ) → HasValue v t c 1 → Whole v (signed t c)
  of_value nan t c h = h
  of_value (inf u) t c h = h
  of_value (fin u k k') t c h =
      ap (λ (b : Bool). signed b (k * up k') *ℤ pos 1) h.0 ∙ sym (signed_scale t (k * up k') 1) ∙ ap (signed t) h.1 ∙ signed_scale t c (down k')

  -- a number of at most 2 ^ 53 in size is its float
  small_converted : (z : ℤ) → Small z → Whole (of_int binary64 z) z
  unfolding of_int
  small_converted (pos n) h = of_value (round binary64 false n 1) false n (round_multiple binary64 false 0 (lit≤ tt) n h)
  small_converted (negsuc n) h = of_value (round binary64 true (suc n) 1) true (suc n) (round_multiple binary64 true 0 (lit≤ tt) (suc n) h)

  pub converted_same : SameNumbers x (converted x.factor.values)
  converted_same c p h lo hi l =
      let F = A.factor in
      let i : p < length x.factor.values = omega (arith, hi, F.valued, starts_end F.starts_rise (c + 1) (omega arith)) in
      subst (λ (v : Float). Whole v (whole_value x.factor.values p)) (sym (get_d_mapped (of_int binary64) x.factor.values p (pos 0) nan i))
      (small_converted (whole_value x.factor.values p) (small (eqb (nat_abs (whole_value x.factor.values p)) 0) refl))
    where
      small : (b : Bool) → eqb (nat_abs (whole_value x.factor.values p)) 0 ≡ b → Small (whole_value x.factor.values p)
      small true z = let q = eqb-true (nat_abs (whole_value x.factor.values p)) 0 z in omega (arith, q)
      small false z =
          (whole_small x lent C passed e).0 c p h lo hi
          (and_both (leb c (row x.factor.rows p)) (whole_nonzero x.factor.values p) (le-leb c (row x.factor.rows p) l) (ap not z))

  -- so the engines agree on the factor converted to f64
  pub engines_complete : (floatLent : Lent) → Passed (room_steps x.factor.n x.limit (room_of floatLent)) → {floatLeft : Lent}
      → ResultLists (selected_steps (float_call x (converted x.factor.values)) (room_of floatLent)) (filling_of (selection_of (float_call x (converted x.factor.values)))) floatLent floatLeft
      → Agrees x left.lists (converted x.factor.values) floatLent floatLeft
  engines_complete = engines_agree (converted x.factor.values) (length-map x.factor.values (of_int binary64)) converted_same
