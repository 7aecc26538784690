use Rattle.selection.specs.Selection.{lists}
use Rattle.original_diagonal.specs.Original.{original_call}
use Rattle.original_diagonal.proofs.Reply.{too_many}
use Rattle.original_diagonal.proofs.selected_inverse_diag_with_diagnostics.Goals as goal

pub returns-then-rows-gt-MAX_ENTRIES : goal.returns-then-rows-gt-MAX_ENTRIES
returns-then-rows-gt-MAX_ENTRIES c = let a = c.args in
    too_many (original_call a.n a.starts.now a.rows.now a.values.now a.orig_to_perm.now)
    (lists a.result_starts.now a.result_rows.now a.result_values.now a.scratch.now) a.output.now c.if-rows-gt-MAX_ENTRIES.true

pub returns : goal.returns
returns c = rw c.default_limit.ensures at c.selected_inverse_diag_with_limit.ensures
