use mathlib.Core.Path.{◌≡◌, refl, ◌∙◌}
use Rattle.columns.specs.Form.{form_of, divisor}
use Rattle.exact.specs.PivotCase.{step_below, step_on}
use Rattle.last_steps.specs.DivisorParts.{is_pivot}
use Rattle.entries.proofs.Descendants.{told_solves}
use Rattle.closure_route.specs.Route.{RouteLists, route_lists}
use Rattle.closure_route.proofs.LastStepLaws.{Ends, ends_read, sums_at, part_at, diagonal_at, solved_empty, solved_at}
use Rattle.closure_route.proofs.takahashi_column.Goals as goal

-- the lists
abbrev lists-After-store_sums-arg-1 : goal.After-store_sums-arg-1 → RouteLists
lists-After-store_sums-arg-1 s =
    let a = s.args in
    route_lists a.n a.starts.now a.rows.now a.values.now a.result_starts.now a.result_rows.now a.scratch.now

-- the lists
abbrev lists-After-finish_part-arg-1 : goal.After-finish_part-arg-1 → RouteLists
lists-After-finish_part-arg-1 s =
    let a = s.args in
    route_lists a.n a.starts.now a.rows.now a.values.now a.result_starts.now a.result_rows.now a.scratch.now

-- the lists
abbrev lists-After-store_diagonal-arg-1 : goal.After-store_diagonal-arg-1 → RouteLists
lists-After-store_diagonal-arg-1 s =
    let a = s.args in
    route_lists a.n a.starts.now a.rows.now a.values.now a.result_starts.now a.result_rows.now a.scratch.now

-- the lists
abbrev lists-After-slice_known-4-1 : goal.After-slice_known-4-1 → RouteLists
lists-After-slice_known-4-1 s =
    let a = s.args in
    route_lists a.n a.starts.now a.rows.now a.values.now a.result_starts.now a.result_rows.now a.scratch.now

-- where the column starts and ends
ends-After-store_sums-arg-1 : (d : goal.After-store_sums-arg-1) →
    Ends (lists-After-store_sums-arg-1 d) d.args.j d.at-first.result d.at-last.result d.at-s.result d.at-e.result
ends-After-store_sums-arg-1 d =
    let p = d.requires.column_input in
    ends_read p.route p.inside d.at-first.ensures d.at-last.ensures d.at-s.ensures d.at-e.ensures

-- where the column starts and ends
ends-After-finish_part-arg-1 : (d : goal.After-finish_part-arg-1) →
    Ends (lists-After-finish_part-arg-1 d) d.args.j d.at-first.result d.at-last.result d.at-s.result d.at-e.result
ends-After-finish_part-arg-1 d =
    let p = d.requires.column_input in
    ends_read p.route p.inside d.at-first.ensures d.at-last.ensures d.at-s.ensures d.at-e.ensures

-- where the column starts and ends
ends-After-store_diagonal-arg-1 : (d : goal.After-store_diagonal-arg-1) →
    Ends (lists-After-store_diagonal-arg-1 d) d.args.j d.at-first.result d.at-last.result d.at-s.result d.at-e.result
ends-After-store_diagonal-arg-1 d =
    let p = d.requires.column_input in
    ends_read p.route p.inside d.at-first.ensures d.at-last.ensures d.at-s.ensures d.at-e.ensures

-- where the column starts and ends
ends-After-slice_known-4-1 : (d : goal.After-slice_known-4-1) →
    Ends (lists-After-slice_known-4-1 d) d.args.j d.at-first.result d.at-last.result d.at-s.result d.at-e.result
ends-After-slice_known-4-1 d =
    let p = d.requires.column_input in
    ends_read p.route p.inside d.at-first.ensures d.at-last.ensures d.at-s.ensures d.at-e.ensures

-- the column has entries
some-After-store_diagonal-arg-1 : (d : goal.After-store_diagonal-arg-1) → d.at-first.result ≡ d.at-last.result → ⊥
some-After-store_diagonal-arg-1 d = d.if-first-last.false

-- the column has entries
some-After-slice_known-4-1 : (d : goal.After-slice_known-4-1) → d.at-first.result ≡ d.at-last.result → ⊥
some-After-slice_known-4-1 d = d.if-first-last.false

pub returns-then-first-last : goal.returns-then-first-last
returns-then-first-last c = let p = c.requires.column_input in
    solved_empty p.route p.inside (ends_read p.route p.inside c.at-first.ensures c.at-last.ensures refl refl)
    _ c.args.result_values.now c.if-first-last.true p.later

pub store_sums-requires : goal.store_sums-requires
store_sums-requires c = let p = c.requires.column_input in sums_at p.route p.inside (ends-After-store_sums-arg-1 c)

pub finish_part-requires : goal.finish_part-requires
finish_part-requires c = let p = c.requires.column_input in
    part_at p.route p.inside (ends-After-finish_part-arg-1 c) _ c.store_sums.ensures.long

pub store_diagonal-requires : goal.store_diagonal-requires
store_diagonal-requires c = let p = c.requires.column_input in
    diagonal_at p.route p.inside (ends-After-store_diagonal-arg-1 c) (some-After-store_diagonal-arg-1 c) _ (c.finish_part.ensures.long ∙ c.store_sums.ensures.long)

pub returns : goal.returns
returns c = let p = c.requires.column_input in
    let a = c.args in
    let d = c.column_divisor-divisor in
    solved_at p.route p.inside (ends-After-slice_known-4-1 c) (step_below (is_pivot d.result)) (step_on (is_pivot d.result))
    (divisor a.n a.starts.now a.rows.now a.values.now (form_of a.pivots))
    (told_solves a.pivots d.ensures.kind a.values.now p.route.factor) (some-After-slice_known-4-1 c) d.ensures.value refl p.later
    c.store_sums.ensures c.finish_part.ensures c.store_diagonal.ensures
