use mathlib.Core.Path.{◌≡◌}
use lib.Ieee.{nan}
use Rattle.lists.specs.Overwrite.{filled}
use Rattle.columns.specs.Kept.{f0}
use Rattle.result.specs.Lookup.{diagonal_of, mark_of}
use Rattle.lookup.proofs.diagonal_list.write_diagonals.Given as goal

abbrev pub invariant-loop-c : goal.invariant-loop-c
invariant-loop-c l = (l.output ≡ filled (diagonal_of nan f0 l.starts l.rows l.values) l.c l.initial.output)
    × (l.marks ≡ filled (mark_of nan l.starts l.rows l.values) l.c l.initial.marks)
