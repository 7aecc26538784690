-- A call that fills result lists and writes values to an output, if the set is within the limit: its reply and its lists.
-- Assumes nothing.
use Rattle.std.specs.Prelude.{◌≡◌, cond, List, Float, Result}
use Rattle.lists.specs.Overwrite.{overwrite}
use Rattle.refusal.specs.Steps.{Step, first, after}
use Rattle.selection.specs.Selection.{Selection, Lent, selected_complete, selected_answer, filling_of, ResultLists}
use Rattle.refusal.specs.declared.Refusal.{Refusal}
use Rattle.diagnostics.specs.declared.SelectedInverseDiagnostics.{SelectedInverseDiagnostics}
use Rattle.refusal.specs.Refusal.{reply_of}

-- the output afterwards: the values at its front, if the call passes its steps and the set is within the limit
abbrev pub output_after : List Step → Selection → List Float → List Float → List Float
output_after steps sel values output = after steps (cond (selected_complete sel) (overwrite values output) output) output

-- the reply and the lists of a call with these steps, this selection and these values
pub record SelectedOutput (steps : List Step) (sel : Selection) (values : List Float) (lent : Lent) (output : List Float) (reply : Result SelectedInverseDiagnostics Refusal)
    (left : Lent) (out : List Float) : Type 0 where
  pub replies : reply_of reply ≡ first steps (selected_answer sel)
  pub lists_are : ResultLists steps (filling_of sel) lent left
  pub output_is : out ≡ output_after steps sel values output
