use Rattle.whole_route.specs.ColumnSums.{SizesWithin}
use Rattle.whole_route.proofs.column_sums.greatest_size.Given as goal

abbrev pub invariant-loop-p : goal.invariant-loop-p
invariant-loop-p l = SizesWithin l.s l.p l.start l.most l.wholes
