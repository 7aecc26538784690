use Prim.Native.Nat.{◌+◌}
use Rattle.file_lines.specs.Places.{FewAt}
use Rattle.file_lines.proofs.few_digits.Given as goal

abbrev pub invariant-loop-k : goal.invariant-loop-k
invariant-loop-k l = FewAt l.text l.p l.value (l.p + l.k)
