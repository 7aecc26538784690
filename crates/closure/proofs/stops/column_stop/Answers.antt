use Rattle.columns.proofs.Factor.{factor_column}
use Rattle.closure.specs.Covered.{entry_inside, cover_input, cover_nested, stop_at, stop_end}
use native.Mathlib.Omega.{arith}
use Rattle.closure.proofs.stops.column_stop.Goals as goal

pub first_descendant-q-requires : goal.first_descendant-q-requires
first_descendant-q-requires g c = record { column = rw (c.at.ensures, c.at-e.ensures) (factor_column c.requires.factor.0 c.args.c c.requires.factor.1); values_lent = c.requires.values_lent }

pub at-p-requires : goal.at-p-requires
at-p-requires g c = omega (arith, c.at-e.ensures, (factor_column c.requires.factor.0 c.args.c c.requires.factor.1).stored)

pub at-requires-then-q-e : goal.at-requires-then-q-e
at-requires-then-q-e g c = let q = c.first_descendant-q.result in
    omega (arith, c.at-p.ensures, entry_inside c.requires.factor.0 c.args.c c.requires.factor.1 q (omega (arith, c.at-e.ensures)))

pub overflow_add-p : goal.overflow_add-p
overflow_add-p g c = let q = c.first_descendant-q.result in
    omega (arith, c.at-p.ensures, entry_inside c.requires.factor.0 c.args.c c.requires.factor.1 q (omega (arith, c.at-e.ensures)))

pub at-requires-then-q-e-2 : goal.at-requires-then-q-e-2
at-requires-then-q-e-2 g c = let q = c.first_descendant-q.result in
    omega (arith, c.at-p.ensures, entry_inside c.requires.factor.0 c.args.c c.requires.factor.1 q (omega (arith, c.at-e.ensures)))

pub covered-requires : goal.covered-requires
covered-requires g c = let q = c.first_descendant-q in record {
  covered_input = rw (c.at-then-q-e-2.ensures, c.at-then-q-e.ensures, c.at-p.ensures, c.at-e.ensures)
      (cover_input c.requires.factor.0 c.args.c c.requires.factor.1 q.result (omega (arith, c.at.ensures, q.ensures.from)) (omega arith));
  values_lent = c.requires.values_lent;
}

pub returns-then-covered : goal.returns-then-covered
returns-then-covered g c = let q = c.first_descendant-q in
    let e = c.at-e.ensures in
    let s = c.at.ensures in
    stop_at
    (cover_nested c.requires.factor.0 c.args.c c.requires.factor.1 (g.T.StoredValue.kept c.args.values.now) q.result
    (rw (s, e) at q.ensures)
    (omega arith)
    (rw (c.at-then-q-e-2.ensures, c.at-then-q-e.ensures, c.at-p.ensures, e) at (c.covered.ensures c.if-covered.true)))

pub returns-else-covered : goal.returns-else-covered
returns-else-covered g c = stop_end c.at-e.ensures

pub returns-else-q-e : goal.returns-else-q-e
returns-else-q-e g c = stop_end c.at-e.ensures
