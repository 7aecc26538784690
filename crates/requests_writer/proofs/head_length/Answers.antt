use native.Mathlib.Omega.{arith}
use Rattle.matrix_market.proofs.Decimal.{decimal_most}
use Rattle.requests_writer.proofs.ByteLaws.{head-length}
use Rattle.requests_writer.proofs.head_length.Goals as goal

pub overflow_add-result : goal.overflow_add-result
overflow_add-result c = let a = c.args in
    omega (arith, c.number_length-size.ensures, c.number_length-entries.ensures, decimal_most a.n, decimal_most a.count, c.requires)

pub overflow_add-result-2 : goal.overflow_add-result-2
overflow_add-result-2 c = let a = c.args in
    omega (arith, c.number_length-size.ensures, c.number_length-entries.ensures, decimal_most a.n, decimal_most a.count, c.requires)

pub overflow_add-result-3 : goal.overflow_add-result-3
overflow_add-result-3 c = let a = c.args in
    omega (arith, c.number_length-size.ensures, c.number_length-entries.ensures, decimal_most a.n, decimal_most a.count, c.requires)

pub returns : goal.returns
returns c = let a = c.args in (
  omega (arith, c.number_length-size.ensures, c.number_length-entries.ensures, head-length a.n a.count),
  omega (arith, c.number_length-size.ensures, c.number_length-entries.ensures, decimal_most a.n, decimal_most a.count, c.requires),
)
