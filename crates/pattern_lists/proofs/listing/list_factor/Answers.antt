use native.Mathlib.Omega.{arith}
use mathlib.Core.Path.{◌≡◌, ap, ◌∙◌}
use lib.ListN.{length}
use Rattle.lists.specs.Overwrite.{filled-length}
use Rattle.columns.specs.Kept.{nonzero}
use Rattle.pattern_lists.proofs.PatternMarks.{columns_set-kept_pair}
use Rattle.pattern_lists.proofs.PatternLists.{listed_set}
use Rattle.pattern_lists.proofs.listing.list_factor.Goals as goal

-- the marks are as many as before
long-After-mark_factor-arg-1 : (c : goal.After-mark_factor-arg-1) → length c.clear.new.words ≡ length c.args.marks.now
long-After-mark_factor-arg-1 c = ap length c.clear.ensures ∙ filled-length (λ _. 0) _ c.args.marks.now (omega arith)

-- the marks are as many as before
long-After-list_marked-arg-3-1 : (c : goal.After-list_marked-arg-3-1) → length c.clear.new.words ≡ length c.args.marks.now
long-After-list_marked-arg-3-1 c = ap length c.clear.ensures ∙ filled-length (λ _. 0) _ c.args.marks.now (omega arith)

pub mark_factor-requires : goal.mark_factor-requires
mark_factor-requires c = record { factor = c.requires.factor; n_le_max_dimension = (c.requires.n_le_max_dimension.0, long-After-mark_factor-arg-1 c ∙ c.requires.n_le_max_dimension.1) }

pub list_marked-requires : goal.list_marked-requires
list_marked-requires c = (c.requires.n_le_max_dimension.0, c.mark_factor.ensures.long ∙ long-After-list_marked-arg-3-1 c ∙ c.requires.n_le_max_dimension.1)

pub returns : goal.returns
returns c = let a = c.args in
    listed_set a.n _ _ (λ r c h l. columns_set-kept_pair a.starts.now a.rows.now (nonzero a.values.now) a.n r c (omega arith))
    a.marks.now a.pair_rows.now a.pair_columns.now c.requires.n_le_max_dimension.1 c.clear.ensures c.mark_factor.ensures c.list_marked.ensures
