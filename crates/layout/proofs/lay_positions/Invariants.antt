use Rattle.layout.specs.Layout.{PositionsLaid}
use Rattle.layout.proofs.lay_positions.Given as goal

abbrev pub invariant-loop-q : goal.invariant-loop-q
invariant-loop-q l = PositionsLaid l.base l.shift l.first l.q l.rows l.initial.scratch l.scratch
