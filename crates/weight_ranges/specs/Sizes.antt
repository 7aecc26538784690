-- What the sums of a row may rely on once nothing is refused, and the sizes that follow. Assumes nothing.
use Rattle.std.specs.Prelude.{ℕ, ◌≤◌, ◌<◌, ◌≡◌, List, length, ℤ, pos}
use Rattle.integers.specs.Size.{SizeWithin}
use Rattle.refusal.specs.Steps.{answered}
use Rattle.result.specs.Lookup.{lookup_of, WellFormed}
use Rattle.quadratic_form.specs.RowValue.{term_column}
use Rattle.columns.specs.WholeFactor.{whole_value}
use Rattle.weight_ranges.specs.Ranges.{row_entry, max_terms, max_weight, max_range_entry}

pub record RangesReady (starts rows : List ℕ) (values : List ℤ) (columns : List ℕ) (lows highs : List ℤ) : Type 0 where
  pub well : WellFormed starts rows (length values)
  pub lows_long : length columns ≡ length lows
  pub highs_long : length columns ≡ length highs
  pub few : length columns ≤ max_terms
  pub low : (a : ℕ) → a < length columns → SizeWithin max_weight (whole_value lows a)
  pub high : (a : ℕ) → a < length columns → SizeWithin max_weight (whole_value highs a)
  pub found : (a b : ℕ) → a < length columns → b < length columns
      → lookup_of (pos 0) starts rows values (term_column columns a) (term_column columns b) ≡ answered (row_entry starts rows values columns a b)
  pub entry : (a b : ℕ) → a < length columns → b < length columns → SizeWithin max_range_entry (row_entry starts rows values columns a b)
