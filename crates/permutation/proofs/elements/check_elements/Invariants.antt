use Rattle.permutation.proofs.ElementLaws.{ElementsChecked}
use Rattle.permutation.proofs.elements.check_elements.Given as goal

abbrev pub invariant-loop-i : goal.invariant-loop-i
invariant-loop-i l = ElementsChecked l.compared l.orig_to_perm l.perm_to_orig l.i l.seen
