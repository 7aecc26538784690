use mathlib.Core.Path.{subst, sym, refl}
use Rattle.closure.specs.Nested.{Stop}
use Rattle.closure.specs.Covered.{stop_found, stop_one}
use native.Mathlib.Omega.{arith}
use Prim.Native.Nat.{ℕ, ◌+◌}
use Rattle.closure.proofs.stops.find_stop.Goals as goal

pub returns-then-listed-gt0 : goal.returns-then-listed-gt0
returns-then-listed-gt0 g c = let e = c.at-listed.ensures in
    let S = c.requires.stop_input.reached in
    let T = S.stop c.args.c c.requires.stop_input.inside (omega (arith, e, c.if-listed-gt0.true)) in
    record {
      long = refl;
      reached = S;
      kept = λ a h. h;
      here = omega (arith, e, c.if-listed-gt0.true);
      stop = subst (λ (k : ℕ). Stop c.args.starts.now c.args.rows.now (g.T.StoredValue.kept c.args.values.now) c.args.c k) (sym e) T;
    }

pub column_stop-requires : goal.column_stop-requires
column_stop-requires g c = record { factor = (c.requires.stop_input.factor, c.requires.stop_input.inside); values_lent = c.requires.values_lent }

pub overflow_cast-stops : goal.overflow_cast-stops
overflow_cast-stops g c = omega (
  arith,
  c.at_least_one-stop.ensures,
  c.column_stop.ensures.upto,
  c.shared_slice_known-1.given (c.args.c + 1),
)

pub returns : goal.returns
returns g c = let e = c.at_least_one-stop.ensures in
    stop_found c.requires.stop_input.inside c.requires.stop_input.reached (omega (arith, c.at-listed.ensures, c.if-listed-gt0.false)) (omega (arith, e))
    (subst (λ (k : ℕ). Stop c.args.starts.now c.args.rows.now (g.T.StoredValue.kept c.args.values.now) c.args.c k) (sym e)
    (stop_one c.column_stop.ensures))
