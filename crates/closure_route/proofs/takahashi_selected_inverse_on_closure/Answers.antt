use native.Mathlib.Omega.{arith}
use mathlib.Core.Path.{◌≡◌}
use Rattle.closure_route.proofs.RouteLaws.{solved_none, solved_next, solved_all, column_next}
use Rattle.closure_route.proofs.takahashi_selected_inverse_on_closure.Goals as goal

pub loop-j-init : goal.loop-j-init
loop-j-init c = solved_none _

pub takahashi_column-requires : goal.takahashi_column-requires
takahashi_column-requires c = let l = c.loop-j in
    record { column_input = column_next c.requires.closure_route_input l.invariant (omega (arith, c.loop-j-test.true)) l.auto.j; divisors = c.requires.divisors }

pub loop-j-preserved : goal.loop-j-preserved
loop-j-preserved c = solved_next c.loop-j.invariant c.takahashi_column.ensures

pub returns : goal.returns
returns c = let l = c.loop-j in
    let e : l.j ≡ 0 = omega arith in
    solved_all c.requires.closure_route_input.values_fit (rw e at l.invariant)
