use mathlib.Core.Path.{◌≡◌}
use Rattle.factor_order.specs.Laws.{stored_to}
use Rattle.permutation.proofs.inverse.invert.Given as goal

abbrev pub invariant-loop-i : goal.invariant-loop-i
invariant-loop-i l = l.perm_to_orig ≡ stored_to l.orig_to_perm l.initial.perm_to_orig l.i
