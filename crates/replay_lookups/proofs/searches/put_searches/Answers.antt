-- A column that is not refused has its rows in order.
use Rattle.std.proofs.Common.{ap, sym, ◌∙◌}
use Rattle.refusal.specs.Refusal.{reply_of}
use Rattle.result.proofs.Laws.{column_faults-sound}
use Rattle.replay_lookups.proofs.searches.put_searches.Goals as goal

pub put_places-requires-clause-column : goal.put_places-requires-clause-column
put_places-requires-clause-column _ c =
    column_faults-sound _ _ _ 0 (sym c.check_column.ensures ∙ ap reply_of c.in-Ok.is)

pub put_looks-requires-clause-column : goal.put_looks-requires-clause-column
put_looks-requires-clause-column _ c =
    column_faults-sound _ _ _ 0 (sym c.check_column.ensures ∙ ap reply_of c.in-Ok.is)
