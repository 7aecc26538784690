-- A row of columns with a low and a high end for each weight, over a result of whole numbers: what is refused, and the bounds that are answered.
-- Assumes nothing.
use Rattle.std.specs.Prelude.{ℕ, Bool, not, ◌||◌, List, [], ◌∷◌, eqb, ltb, length, ℤ, nat_abs}
use Rattle.std.specs.Int.Signed.{lt_z}
use Rattle.lists.specs.Test.{any}
use Rattle.refusal.specs.Steps.{Step}
use Rattle.refusal.specs.Groups.{grouped}
use Rattle.columns.specs.Columns.{outside}
use Rattle.columns.specs.WholeFactor.{whole_value}
use Rattle.quadratic_form.specs.RowValue.{term_column}
use Rattle.result.specs.Lookup.{dimension, result_steps}
use Rattle.whole_pairs.specs.Worst.{worst, worst_in}
use Rattle.whole_pairs.specs.Entry.{entry_or_zero, absent_pair, beyond_pair, cell_fault}
use Rattle.weight_bounds.specs.Bounds.{least_weight_product, greatest_weight_product, least_term, greatest_term, low_bound, high_bound}

-- the entry at the columns of the places a and b of the row; the weight of place a lies from whole_value lows a to whole_value highs a
abbrev pub row_entry : List ℕ → List ℕ → List ℤ → List ℕ → ℕ → ℕ → ℤ
row_entry starts rows values columns a b = entry_or_zero starts rows values (term_column columns a) (term_column columns b)

-- ---- what is refused
-- the most terms, the largest weight in size, and the largest entry, 2^30
abbrev pub max_terms : ℕ
max_terms = 64

abbrev pub max_weight : ℕ
max_weight = 1024

abbrev pub max_range_entry : ℕ
max_range_entry = 1073741824

-- an earlier place has the column of place a
abbrev pub repeated_at : List ℕ → ℕ → Bool
repeated_at columns a = any (λ b. eqb (term_column columns b) (term_column columns a)) a

-- a column is listed twice
abbrev pub repeated : List ℕ → Bool
repeated columns = any (repeated_at columns) (length columns)

-- 9: lists of unequal length, a column of n or more, or one listed twice; `lows` and `highs` are their numbers
unfoldable pub range_row_steps : ℕ → List ℕ → ℕ → ℕ → List Step
range_row_steps n columns lows highs =
    (9, not (eqb (length columns) lows)) ∷ (9, not (eqb (length columns) highs)) ∷ (9, outside n columns) ∷ (9, repeated columns) ∷ []

-- an end of the weight of place a is beyond 1,024 in size, or its low end is above its high end
abbrev pub bad_range : List ℤ → List ℤ → ℕ → Bool
bad_range lows highs a = ltb max_weight (nat_abs (whole_value lows a)) || (ltb max_weight (nat_abs (whole_value highs a)) || lt_z (whole_value highs a) (whole_value lows a))

-- 21: over 64 terms, or a bad range
unfoldable pub weight_steps : ℕ → List ℤ → List ℤ → List Step
weight_steps terms lows highs = (21, ltb max_terms terms) ∷ (21, any (bad_range lows highs) terms) ∷ []

-- a pair of the columns' places passes a test
abbrev pub some_pair : (ℕ → ℕ → Bool) → List ℕ → Bool
some_pair test columns = any (λ a. any (λ b. test (term_column columns a) (term_column columns b)) (length columns)) (length columns)

-- 8: an absent pair of the columns; 20: an entry of theirs beyond 2^30 in size
unfoldable pub pair_steps : List ℕ → List ℕ → List ℤ → List ℕ → List Step
pair_steps starts rows values columns =
    (8, some_pair (absent_pair starts rows values) columns) ∷ (20, some_pair (beyond_pair max_range_entry starts rows values) columns) ∷ []

-- all: 2 and 3 of the result, 9, 21, 8 and 20
unfoldable pub range_steps : List ℕ → List ℕ → List ℤ → List ℕ → List ℤ → List ℤ → List Step
range_steps starts rows values columns lows highs =
    grouped
    (result_steps starts rows (length values)
    ∷ range_row_steps (dimension starts) columns (length lows) (length highs) ∷ weight_steps (length columns) lows highs
    ∷ pair_steps starts rows values columns
    ∷ [])

-- ---- the answer
module _ (starts rows : List ℕ) (values : List ℤ) (columns : List ℕ) (lows highs : List ℤ) where
  abbrev pub least_term_of : ℕ → ℕ → ℤ
  least_term_of = least_term (whole_value lows) (whole_value highs) (row_entry starts rows values columns)

  abbrev pub greatest_term_of : ℕ → ℕ → ℤ
  greatest_term_of = greatest_term (whole_value lows) (whole_value highs) (row_entry starts rows values columns)

  abbrev pub low_bound_of : ℤ
  low_bound_of = low_bound (whole_value lows) (whole_value highs) (row_entry starts rows values columns) (length columns)

  abbrev pub high_bound_of : ℤ
  high_bound_of = high_bound (whole_value lows) (whole_value highs) (row_entry starts rows values columns) (length columns)

  -- the low and the high bound
  abbrev pub range_bounds : ℤ × ℤ
  range_bounds = (low_bound_of, high_bound_of)

-- the products of the weights of two places
abbrev pub least_weight_product_of : List ℤ → List ℤ → ℕ → ℕ → ℤ
least_weight_product_of lows highs = least_weight_product (whole_value lows) (whole_value highs)

abbrev pub greatest_weight_product_of : List ℤ → List ℤ → ℕ → ℕ → ℤ
greatest_weight_product_of lows highs = greatest_weight_product (whole_value lows) (whole_value highs)

-- the worst fault of the pairs of the columns
abbrev pub row_fault : List ℕ → List ℕ → List ℤ → List ℕ → ℕ
row_fault starts rows values columns = worst (λ a. worst_in (cell_fault max_range_entry starts rows values columns a) 0 (length columns)) (length columns)
