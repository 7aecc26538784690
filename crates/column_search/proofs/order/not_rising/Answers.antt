use Prim.Native.Nat.{◌+◌}
use mathlib.Core.Path.{sym}
use Rattle.lists.specs.Select.{any_in-tally}
use Rattle.columns.specs.Columns.{not_above}
use Rattle.column_search.proofs.order.not_rising.Goals as goal

pub returns : goal.returns
returns c = let a = c.args in
    rw c.descents.ensures (sym (any_in-tally (not_above a.rows.now) (a.s + 1) a.e))
