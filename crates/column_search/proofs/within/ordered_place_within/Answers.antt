use native.Mathlib.Omega.{arith}
use Prim.Native.Nat.{◌<◌, ◌-◌}
use mathlib.Core.Path.{sym, ◌∙◌}
use lib.ListN.{length}
use Rattle.result.proofs.Halving.{place_within-outside, place_within_column}
use Rattle.column_search.proofs.within.ordered_place_within.Goals as goal

pub returns-then-starts-r : goal.returns-then-starts-r
returns-then-starts-r c = let a = c.args in
    sym (place_within-outside a.starts.now a.rows.now a.values a.r a.c (omega (arith, c.if-starts-r.true)))

pub returns-then-starts-r-2 : goal.returns-then-starts-r-2
returns-then-starts-r-2 c = let a = c.args in
    sym (place_within-outside a.starts.now a.rows.now a.values a.r a.c (omega (arith, c.if-starts-r-2.true)))

pub returns : goal.returns
returns c = let a = c.args in
    let below : a.r < length a.starts.now - 1 = omega (arith, c.if-starts-r-2.false, c.if-starts-r.false) in
    c.of_row.ensures ∙ c.column_within.ensures ∙ sym (place_within_column a.starts.now a.rows.now a.values a.r a.c below)
