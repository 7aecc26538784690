use native.Mathlib.Omega.{arith}
use mathlib.Core.Path.{◌≡◌, ap, ◌∙◌}
use lib.ListN.{length}
use Rattle.lists.specs.Overwrite.{filled-length}
use Rattle.pattern_lists.proofs.PatternMarks.{rows_set-operator_pair}
use Rattle.pattern_lists.proofs.PatternLists.{listed_set}
use Rattle.pattern_lists.proofs.listing.list_operator.Goals as goal

-- the marks are as many as before
long-After-mark_operator-arg-1 : (c : goal.After-mark_operator-arg-1) → length c.clear.new.words ≡ length c.args.marks.now
long-After-mark_operator-arg-1 c = ap length c.clear.ensures ∙ filled-length (λ _. 0) _ c.args.marks.now (omega arith)

-- the marks are as many as before
long-After-list_marked-arg-3-1 : (c : goal.After-list_marked-arg-3-1) → length c.clear.new.words ≡ length c.args.marks.now
long-After-list_marked-arg-3-1 c = ap length c.clear.ensures ∙ filled-length (λ _. 0) _ c.args.marks.now (omega arith)

pub mark_operator-requires : goal.mark_operator-requires
mark_operator-requires c = record { operator_rows = c.requires.operator_rows; n_le_max_dimension = (c.requires.n_le_max_dimension.0, long-After-mark_operator-arg-1 c ∙ c.requires.n_le_max_dimension.1) }

pub list_marked-requires : goal.list_marked-requires
list_marked-requires c = (c.requires.n_le_max_dimension.0, c.mark_operator.ensures.long ∙ long-After-list_marked-arg-3-1 c ∙ c.requires.n_le_max_dimension.1)

pub returns : goal.returns
returns c = let a = c.args in
    listed_set a.n _ _ (λ r c h l. rows_set-operator_pair a.row_starts.now a.columns.now r c h)
    a.marks.now a.pair_rows.now a.pair_columns.now c.requires.n_le_max_dimension.1 c.clear.ensures c.mark_operator.ensures c.list_marked.ensures
