use mathlib.Core.Path.{◌≡◌}
use Rattle.integers.specs.Sum.{Σℤ}
use Rattle.weight_ranges.specs.Ranges.{least_term_of, greatest_term_of}
use Rattle.weight_ranges.proofs.sums.place_bounds.Given as goal

abbrev pub invariant-loop-b : goal.invariant-loop-b
invariant-loop-b l = record {
  low : l.total.low ≡ Σℤ l.b (least_term_of l.starts l.rows l.values l.columns l.lows l.highs l.a);
  high : l.total.high ≡ Σℤ l.b (greatest_term_of l.starts l.rows l.values l.columns l.lows l.highs l.a);
}
