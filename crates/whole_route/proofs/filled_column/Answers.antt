use native.Mathlib.Omega.{arith}
use Rattle.whole_route.proofs.ColumnLaws.{column_empty}
use Rattle.whole_route.proofs.filled_column.Goals as goal

pub returns-then-first-next : goal.returns-then-first-next
returns-then-first-next c = let I = c.requires.whole_column_input in
    column_empty I.first_is c.requires.next_value c.if-first-next.true (λ r a o l t k. I.later r a o l t (omega (arith, c.requires.next_value)))

pub whole_column-requires : goal.whole_column-requires
whole_column-requires c = record { whole_column_input = c.requires.whole_column_input; most_from = c.requires.most_from }

pub returns : goal.returns
returns c = c.whole_column.ensures
