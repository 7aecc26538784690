use Rattle.closure_route.specs.Part.{PartSet}
use Rattle.closure_route.specs.Products.{row_terms}
use Rattle.closure_route.proofs.products.add_rows.Given as goal

abbrev pub invariant-loop-q : goal.invariant-loop-q
invariant-loop-q l = PartSet l.from l.q (row_terms l.base l.l l.result_rows l.scratch l.initial.result_values) l.initial.result_values l.result_values
