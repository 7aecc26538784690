use mathlib.Core.Path.{ap, ◌∙◌}
use Rattle.selected_entry.specs.SelectedEntry.{EntryAnswer}
use Rattle.starred_table.specs.Entries.{is_value}
use Rattle.starred.proofs.values.f2_has.Goals as goal

-- src/values.rt:43:5
pub expect-requires : goal.expect-requires
expect-requires c = c.is_value.ensures ∙ ap (λ (a : EntryAnswer). is_value a c.args.value) c.f2_entry.ensures ∙ c.requires
