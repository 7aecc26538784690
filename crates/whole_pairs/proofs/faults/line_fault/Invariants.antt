use mathlib.Core.Path.{◌≡◌}
use Rattle.whole_pairs.specs.Entry.{cell_fault}
use Rattle.whole_pairs.specs.Worst.{worst_in}
use Rattle.whole_pairs.proofs.faults.line_fault.Given as goal

abbrev pub invariant-loop-q : goal.invariant-loop-q
invariant-loop-q l = l.worst ≡ worst_in (cell_fault l.most l.starts l.rows l.values l.cells l.p) l.s l.q
