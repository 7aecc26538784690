use mathlib.Core.Path.{ap, ◌∙◌}
use mathlib.Core.Bool.{true}
use mathlib.Core.List.{List}
use lib.ListN.{get_or}
use lib.Ieee.{Float, nan, binary64, eq, of_int, of_bits}
use Rattle.refusal.specs.Steps.{Reply}
use Rattle.diagnostics.specs.declared.SelectedInverseDiagnostics.{SelectedInverseDiagnostics}
use Rattle.starred_table.specs.Counts.{counted_of, shows_complete}
use Rattle.starred_table.specs.Table.{operator_answered, operator_written}
use Rattle.starred.proofs.operator_row.operator_row.Goals as goal

pub expect-requires : goal.expect-requires
unfolding of_int of_bits
expect-requires c = c.counted.ensures
    ∙ ap (λ (r : Reply SelectedInverseDiagnostics). counted_of r 3 3 3 true) (c.selected_inverse_transformed_diag-reply.ensures.replies ∙ operator_answered)
    ∙ shows_complete 3 3 3 30

pub expect-requires-2 : goal.expect-requires-2
unfolding eq of_int of_bits
expect-requires-2 c = ap (λ (l : List Float). eq (get_or l 0 nan) (of_bits binary64 0x4000_0000_0000_0000)) (c.selected_inverse_transformed_diag-reply.ensures.output_is ∙ operator_written _)
