use Rattle.std.specs.Prelude.{ℕ, ◌≡◌, List, get_or}
use Rattle.lists.specs.Overwrite.{filled}
use Rattle.factor_order.specs.Permutation.{index}
use Rattle.permutation.proofs.reordering.reorder.Given as goal

abbrev pub moved : {A : Type 0} → A → List ℕ → List A → ℕ → A
moved blank perm input i = get_or input (index perm i) blank

abbrev pub invariant-loop-i : goal.invariant-loop-i
invariant-loop-i g l = (blank : g.row.T.Denot) → l.output ≡ filled (moved blank l.orig_to_perm l.input) l.i l.initial.output
