use native.Mathlib.Omega.{arith}
use Rattle.layout.proofs.LayoutLaws.{column_unreached}
use Rattle.layout.proofs.lay_reached_column.Goals as goal

pub returns-then-at-eq0 : goal.returns-then-at-eq0
returns-then-at-eq0 c = column_unreached c.args.reached.now c.args.scratch.now c.requires.0.room.inside c.requires.2 (omega (arith, c.at.ensures, c.if-at-eq0.true))

pub lay_column-requires : goal.lay_column-requires
lay_column-requires c = c.requires.0
