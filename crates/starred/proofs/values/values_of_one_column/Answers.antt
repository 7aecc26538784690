use mathlib.Core.Path.{ap, ◌∙◌}
use lib.Ieee.{of_bits, of_int, eq, div}
use Rattle.selected_entry.specs.SelectedEntry.{EntryAnswer}
use Rattle.starred_table.specs.Entries.{is_value, is_refused}
use Rattle.starred_table.specs.Table.{quarter, values}
use Rattle.starred.proofs.values.values_of_one_column.Goals as goal

pub expect-requires : goal.expect-requires
expect-requires c = c.is_refused.ensures ∙ ap (λ (a : EntryAnswer). is_refused a 6) (c.one_entry.ensures ∙ values.one_zero)

pub expect-requires-2 : goal.expect-requires-2
unfolding eq of_bits of_int div
expect-requires-2 c = c.is_value.ensures ∙ ap (λ (a : EntryAnswer). is_value a quarter) (c.one_entry-2.ensures ∙ values.one_two)

pub expect-requires-3 : goal.expect-requires-3
unfolding of_bits of_int div
expect-requires-3 c = c.is_refused-2.ensures ∙ ap (λ (a : EntryAnswer). is_refused a 18) (c.one_entry-3.ensures ∙ values.one_nan)
