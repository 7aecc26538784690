use mathlib.Core.Path.{ap, ◌∙◌}
use lib.Ieee.{of_bits, of_int}
use Rattle.refusal.specs.Steps.{Reply}
use Rattle.diagnostics.specs.declared.SelectedInverseDiagnostics.{SelectedInverseDiagnostics}
use Rattle.starred_table.specs.Counts.{counted_of}
use Rattle.starred.proofs.closed_sets.f3_shows.Goals as goal

-- src/closed_sets.rt:81:5
pub expect-requires : goal.expect-requires
unfolding of_bits of_int
expect-requires c = c.counted.ensures ∙ ap (λ (a : Reply SelectedInverseDiagnostics). counted_of a 1 6 5 c.args.complete) c.entries-reply.ensures ∙ c.requires
