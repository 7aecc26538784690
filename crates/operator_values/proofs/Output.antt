-- Laws of specs/Output.antt.
use Rattle.std.specs.Prelude.{ℕ, ◌≡◌, Bool, true, false, cond, List, Float, Ok, Err}
use Rattle.std.proofs.Common.{sym, ap, ◌∙◌, le-leb}
use Rattle.lists.specs.Overwrite.{overwrite, cleared}
use Rattle.refusal.specs.Steps.{Step, answered, refused, verdict, first, Passed}
use Rattle.refusal.proofs.Steps.{first_refused, first_passed, after_refused, after_passed}
use Rattle.refusal.specs.Refusal.{refusal_number}
use Rattle.refusal.specs.declared.Refusal.{Refusal}
use Rattle.diagnostics.specs.declared.SelectedInverseDiagnostics.{SelectedInverseDiagnostics}
use Rattle.diagnostics.specs.declared.SelectedInverseStatus.TheVariants.{Complete}
use Rattle.selection.specs.Selection.{Selection, Lent, lists, scratch_words, selected_complete, selected_answer, filling_of, ResultLists}
use Rattle.selection.proofs.Selection.{lists_refused}
use Rattle.selection.proofs.Status.{selected_complete_lem}
use Rattle.operator_values.specs.Output.{output_after, SelectedOutput}

module _ (steps : List Step) (sel : Selection) (values : List Float) (lent : Lent) (output : List Float) where
  -- ---- refused
  pub output-refused : {why : Refusal} → verdict steps ≡ refused (refusal_number why)
      → SelectedOutput steps sel values lent output (Err why) lent output
  output-refused e = record {
    replies = sym (first_refused steps _ (selected_answer sel) e);
    lists_are = lists_refused steps (filling_of sel) lent e;
    output_is = sym (after_refused steps _ _ output e);
  }

  -- ---- the output of a call that passed
  module _ (passed : Passed steps) where
    after_large : selected_complete sel ≡ false → output_after steps sel values output ≡ output
    after_large large = after_passed steps _ output passed ∙ ap (λ (b : Bool). cond b (overwrite values output) output) large

    after_within : selected_complete sel ≡ true → output_after steps sel values output ≡ overwrite values output
    after_within within = after_passed steps _ output passed ∙ ap (λ (b : Bool). cond b (overwrite values output) output) within

    pub after_complete : (selected_answer sel).status ≡ Complete → output_after steps sel values output ≡ overwrite values output
    after_complete e = after_within (le-leb _ _ ((selected_complete_lem sel).0 e))

    -- ---- the lists as they were filled, with the scratch still to clear
    module _ {rs rr : List ℕ} {rv : List Float} (mid : List ℕ) (L : ResultLists steps (filling_of sel) lent (lists rs rr rv (cleared (scratch_words sel.factor.n) mid)))
        {d : SelectedInverseDiagnostics} (answer : d ≡ selected_answer sel) {s : List ℕ} (clear : s ≡ cleared (scratch_words sel.factor.n) mid) where
      reply : answered d ≡ first steps (selected_answer sel)
      reply = ap (λ (y : SelectedInverseDiagnostics). answered y) answer ∙ sym (first_passed steps (selected_answer sel) passed)

      left_is : ResultLists steps (filling_of sel) lent (lists rs rr rv s)
      left_is = rw clear L

      -- the set is beyond the limit
      pub output-large : selected_complete sel ≡ false → SelectedOutput steps sel values lent output (Ok d) (lists rs rr rv s) output
      output-large large = record { replies = reply; lists_are = left_is; output_is = sym (after_large large) }

      -- the set is within the limit, and the values were written
      pub output_within : selected_complete sel ≡ true → {out : List Float} → out ≡ overwrite values output
          → SelectedOutput steps sel values lent output (Ok d) (lists rs rr rv s) out
      output_within within written = record { replies = reply; lists_are = left_is; output_is = written ∙ sym (after_within within) }
