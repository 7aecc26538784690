use Rattle.factor_route.proofs.RouteLaws.{route_none, route_turn, route_next, route_end, route_input}
use Rattle.scatter.proofs.Marks.{empties_is}
use native.Mathlib.Omega.{arith}
use Prim.Native.Nat.{◌-◌}
use mathlib.Core.Path.{refl}
use Rattle.factor_route.proofs.takahashi_selected_inverse_on_factor_pattern.Goals as goal

pub loop-j-init : goal.loop-j-init
loop-j-init c = (
  record { marker_is = empties_is; weights_long = refl; sums_long = refl },
  route_none c.requires c.args.result_values.now refl,
)

pub pattern_column-requires : goal.pattern_column-requires
pattern_column-requires c = let i = c.loop-j in
    let F = route_turn c.requires c.args.result_values.now refl i.j i.result_values (omega arith) i.invariant.1 in
    record { route_input = (route_input c.requires _ F.long, omega arith); work_rows = i.invariant.0; known = F.known }

pub loop-j-preserved : goal.loop-j-preserved
loop-j-preserved c = let i = c.loop-j in
    let d = c.pattern_column.ensures in
    let F = route_turn c.requires c.args.result_values.now refl i.j i.result_values (omega arith) i.invariant.1 in (
      d.rest,
      route_next c.requires c.args.result_values.now refl (i.j - 1) i.result_values _ _ _ _ (omega arith) F d,
    )

pub returns : goal.returns
returns c = let i = c.loop-j in
    route_end c.requires c.args.result_values.now refl i.j i.result_values (omega arith) i.invariant.1
