use mathlib.Core.Path.{ap, ◌∙◌}
use lib.Ieee.{Float, eq, of_bits}
use Rattle.refusal.specs.Steps.{Reply}
use Rattle.columns.specs.Kept.{f0}
use Rattle.diagnostics.specs.declared.SelectedInverseDiagnostics.{SelectedInverseDiagnostics}
use Rattle.diagnostics.specs.Diagnosis.{diagnosis}
use Rattle.starred_table.specs.Counts.{has_ratio, counted_complete}
use Rattle.starred_table.specs.Table.{closed_sets}
use Rattle.starred.proofs.closed_sets.closed_set_of_no_columns.Goals as goal

-- src/closed_sets.rt:93:5
pub expect-requires : goal.expect-requires
expect-requires c = c.counted.ensures ∙ counted_complete 0 0 0 3 (c.entries-reply.ensures ∙ closed_sets.none_first)

-- src/closed_sets.rt:94:5
pub expect-requires-2 : goal.expect-requires-2
unfolding diagnosis eq of_bits
expect-requires-2 c = c.has_ratio.ensures ∙ ap (λ (a : Reply SelectedInverseDiagnostics). has_ratio a f0) (c.entries-reply.ensures ∙ closed_sets.none_first) ∙ ap (λ (x : Float). eq x f0) closed_sets.none_ratio
