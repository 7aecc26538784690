use Prim.Native.Nat.{◌*◌}
use Rattle.whole_route.specs.ColumnSums.{SumsFit}
use Rattle.whole_route.proofs.FitLaws.{stored, sums_input, summed, unsummed}
use Rattle.whole_route.proofs.column_sums.sum_column.Goals as goal

fit-After-store_sums-arg-1 : (c : goal.After-store_sums-arg-1) → let a = c.args in SumsFit a.s a.e a.most a.values.now
fit-After-store_sums-arg-1 c = c.sums_fit.ensures c.if-sums_fit.true

fit-After-work-1 : (c : goal.After-work-1) → let a = c.args in SumsFit a.s a.e a.most a.values.now
fit-After-work-1 c = c.sums_fit.ensures c.if-sums_fit.true

pub sums_fit-requires : goal.sums_fit-requires
sums_fit-requires c = let C = stored c.requires.rows_input in (C.ordered, C.weighed)

pub store_sums-requires : goal.store_sums-requires
store_sums-requires c = ((fit-After-store_sums-arg-1 c).greatest * c.args.most, sums_input c.requires.rows_input c.requires.most_from (fit-After-store_sums-arg-1 c))

pub returns-then-sums_fit : goal.returns-then-sums_fit
returns-then-sums_fit c = summed c.requires.rows_input c.requires.most_from (fit-After-work-1 c) c.store_sums.ensures

pub shape_of-work-then-sums_fit : goal.shape_of-work-then-sums_fit
shape_of-work-then-sums_fit c = (returns-then-sums_fit c).long

pub returns : goal.returns
returns c = unsummed c.requires.rows_input
