use mathlib.Core.Bool.{false}
use mathlib.Core.Path.{◌≡◌}
use Rattle.lists.specs.Test.{any}
use Rattle.columns.specs.Diagonal.{no_diagonal}
use Rattle.columns.specs.UnitDiagonals.{other_diagonal}
use Rattle.kept_entries.proofs.unit_diagonals.lacks_diagonal.Given as goal

abbrev pub invariant-loop-c : goal.invariant-loop-c
invariant-loop-c g l = record {
  units : any (other_diagonal l.rows (g.T.StoredValue.kept l.values) (g.T.StoredValue.one l.values) l.starts) l.c ≡ false;
  lacking : l.missing ≡ any (no_diagonal l.starts l.rows (g.T.StoredValue.kept l.values)) l.c;
}
