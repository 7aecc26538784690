use native.Mathlib.Omega.{arith}
use Rattle.layout.proofs.LayoutLaws.{unreached_none, unreached_placed}
use Rattle.layout.proofs.firsts.place_reached_column.Goals as goal

pub returns-then-at-eq0 : goal.returns-then-at-eq0
returns-then-at-eq0 c = let reached = c.args.reached.now in
    let scratch = c.args.scratch.now in
    let l = c.requires.list_column_input.0.inside in
    let H = c.requires.c_in_bounds.1 in
    (omega (arith, unreached_none reached scratch l H (omega (arith, c.at.ensures, c.if-at-eq0.true))), unreached_placed reached scratch l H (omega (arith, c.at.ensures, c.if-at-eq0.true)))

pub place_column-requires : goal.place_column-requires
place_column-requires c = c.requires.list_column_input
