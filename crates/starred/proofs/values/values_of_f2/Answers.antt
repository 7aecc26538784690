use mathlib.Core.Path.{ap, ◌∙◌}
use lib.Ieee.{of_bits, of_int, eq, neg}
use Rattle.columns.specs.Examples.{whole}
use Rattle.selected_entry.specs.SelectedEntry.{EntryAnswer}
use Rattle.starred_table.specs.Entries.{is_value, is_absent}
use Rattle.starred_table.specs.Table.{minus-two, values}
use Rattle.starred.proofs.values.values_of_f2.Goals as goal

-- src/values.rt:48:5
pub f2_has-requires : goal.f2_has-requires
unfolding eq of_bits of_int neg
f2_has-requires c = ap (λ (a : EntryAnswer). is_value a (whole 5)) values.f2_first_00

-- src/values.rt:49:5
pub f2_has-requires-2 : goal.f2_has-requires-2
unfolding eq of_bits of_int neg
f2_has-requires-2 c = ap (λ (a : EntryAnswer). is_value a minus-two) values.f2_first_10

-- src/values.rt:50:5
pub f2_has-requires-3 : goal.f2_has-requires-3
unfolding eq of_bits of_int neg
f2_has-requires-3 c = ap (λ (a : EntryAnswer). is_value a (whole 1)) values.f2_first_11

-- src/values.rt:51:5
pub expect-requires : goal.expect-requires
expect-requires c = c.is_absent.ensures ∙ ap is_absent (c.f2_entry.ensures ∙ values.f2_last_00)
