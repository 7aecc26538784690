use native.Mathlib.Omega.{arith}
use Prim.Native.Nat.{◌≤◌}
use mathlib.Core.Path.{sym, ◌∙◌}
use Rattle.result.proofs.Laws.{lookup_place_ordered, lookup_place-exchanged}
use Rattle.result.proofs.Counted.{looks_ordered, looks-exchanged}
use Rattle.column_search.proofs.pair_place.pair_place.Goals as goal

pub returns-then-row-col : goal.returns-then-row-col
returns-then-row-col c = let a = c.args in
    let h : a.row ≤ a.col = omega (arith, c.if-row-col.true) in record { place_value = c.ordered_place.ensures.place_value ∙ sym (lookup_place-exchanged a.starts.now a.rows.now a.values a.row a.col h); looks_value = c.ordered_place.ensures.looks_value ∙ sym (looks-exchanged a.starts.now a.rows.now a.values a.row a.col h) }

pub returns : goal.returns
returns c = let a = c.args in
    let h : a.col ≤ a.row = omega (arith, c.if-row-col.false) in record { place_value = c.ordered_place-2.ensures.place_value ∙ sym (lookup_place_ordered a.starts.now a.rows.now a.values a.row a.col h); looks_value = c.ordered_place-2.ensures.looks_value ∙ sym (looks_ordered a.starts.now a.rows.now a.values a.row a.col h) }
