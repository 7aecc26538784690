use mathlib.Core.Path.{◌≡◌}
use lib.ListN.{length}
use Rattle.integers.specs.Sum.{Σℤ}
use Rattle.weight_ranges.specs.Ranges.{least_term_of, greatest_term_of}
use Rattle.weight_ranges.proofs.sums.row_bounds.Given as goal

abbrev pub invariant-loop-a : goal.invariant-loop-a
invariant-loop-a l = record {
  low : l.total.low ≡ Σℤ l.a (λ i. Σℤ (length l.columns) (least_term_of l.starts l.rows l.values l.columns l.lows l.highs i));
  high : l.total.high ≡ Σℤ l.a (λ i. Σℤ (length l.columns) (greatest_term_of l.starts l.rows l.values l.columns l.lows l.highs i));
}
