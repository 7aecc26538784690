use Rattle.factor_route.proofs.RouteLaws.{route_starts, route_stored, route_first, route_walk, route_marked, route_step, route_unmark, route_column_lem}
use Rattle.exact.specs.PivotCase.{step_below, step_on}
use Rattle.last_steps.specs.DivisorParts.{is_pivot, number}
use Rattle.entries.proofs.Descendants.{told_table}
use native.Mathlib.Omega.{arith}
use Prim.Native.Nat.{◌≤◌, ◌+◌}
use mathlib.Core.Path.{refl}
use lib.ListN.{length}
use Rattle.factor_route.proofs.pattern_column.Goals as goal

pub at-a-requires : goal.at-a-requires
at-a-requires c = let h = (route_starts c.requires.route_input.0 c.args.j c.requires.route_input.1).1 in omega arith

pub overflow_add-j : goal.overflow_add-j
overflow_add-j c = let h = (route_starts c.requires.route_input.0 c.args.j c.requires.route_input.1).1 in omega arith

pub at-e-requires : goal.at-e-requires
at-e-requires c = (route_starts c.requires.route_input.0 c.args.j c.requires.route_input.1).1

pub at-s-requires : goal.at-s-requires
at-s-requires c = let h = (route_starts c.requires.route_input.0 c.args.j c.requires.route_input.1).0 in omega arith

pub overflow_add-j-2 : goal.overflow_add-j-2
overflow_add-j-2 c = let h = (route_starts c.requires.route_input.0 c.args.j c.requires.route_input.1).0 in omega arith

pub at-t-requires : goal.at-t-requires
at-t-requires c = (route_starts c.requires.route_input.0 c.args.j c.requires.route_input.1).0

pub mark_column-m-requires : goal.mark_column-m-requires
mark_column-m-requires c = let s = c.at-s in
    let t = c.at-t in
    route_stored c.requires.route_input.0 c.args.j c.requires.route_input.1 s.result t.result s.ensures t.ensures

pub overflow_add-b : goal.overflow_add-b
overflow_add-b c = let a = c.at-a in
    let s = c.at-s in
    let t = c.at-t in
    let m = c.mark_column-m in
    let h : a.result + 1 + m.result ≤ length c.args.result_rows.now =
    route_first c.requires.route_input.0 c.args.j c.requires.route_input.1 a.result s.result t.result m.result a.ensures s.ensures t.ensures
    m.ensures.count in
    omega (arith, h, c.well_formed)

pub scatter_columns-requires : goal.scatter_columns-requires
scatter_columns-requires c = let a = c.at-a in
    let s = c.at-s in
    let t = c.at-t in
    let m = c.mark_column-m in
    let W =
    route_walk c.requires.route_input.0 c.args.j c.requires.route_input.1 a.result s.result t.result m.result a.ensures s.ensures t.ensures
    m.ensures.count in (
      W.0,
      W.1,
      route_marked c.requires.route_input.0 c.args.j c.requires.route_input.1 a.result s.result t.result m.result a.ensures s.ensures t.ensures
          m.ensures.count c.args.marker.now c.args.weights.now c.args.sums.now _ _ _ c.requires.work_rows m.ensures,
    )

pub column_divisor-divisor-requires : goal.column_divisor-divisor-requires
column_divisor-divisor-requires c = (c.requires.route_input.0.factor, c.requires.route_input.0.divisors, c.requires.route_input.1)

pub write_column-requires : goal.write_column-requires
write_column-requires c = let a = c.at-a in
    let e = c.at-e in
    let s = c.at-s in
    let t = c.at-t in
    let m = c.mark_column-m in
    route_step c.requires.route_input.0 c.args.j c.requires.route_input.1 a.result s.result t.result m.result a.ensures s.ensures t.ensures
    m.ensures.count
    e.result e.ensures

pub unmark_column-requires : goal.unmark_column-requires
unmark_column-requires c = let a = c.at-a in
    let s = c.at-s in
    let t = c.at-t in
    let m = c.mark_column-m in
    route_unmark c.requires.route_input.0 c.args.j c.requires.route_input.1 a.result s.result t.result m.result a.ensures s.ensures t.ensures
    m.ensures.count

pub returns : goal.returns
returns c = let a = c.at-a in
    let e = c.at-e in
    let s = c.at-s in
    let t = c.at-t in
    let m = c.mark_column-m in
    let x = c.scatter_columns in
    let d = c.column_divisor-divisor in
    let w = c.write_column in
    route_column_lem c.requires.route_input.0 c.args.j c.requires.route_input.1 a.result s.result t.result m.result a.ensures s.ensures t.ensures
    m.ensures.count (step_below (is_pivot d.result)) (step_on (is_pivot d.result))
    (told_table c.args.pivots d.ensures.kind c.args.n c.args.starts.now c.args.rows.now c.args.values.now)
    e.result (number d.result) c.args.result_values.now _ c.args.marker.now c.args.weights.now c.args.sums.now _ _ _ _ _
    e.ensures c.requires.work_rows refl c.requires.known m.ensures x.ensures d.ensures.value w.ensures c.unmark_column.ensures
