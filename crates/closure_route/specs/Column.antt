-- A column of the recurrence as one record: what its sums are taken over, and the places of the result where they are stored.
-- Assumes nothing.
use Rattle.std.specs.Prelude.{ℕ, ◌≤◌, ◌<◌, ◌≡◌, Bool, true, List, Float}
use Rattle.columns.specs.Columns.{row}
use Rattle.columns.specs.Kept.{nonzero, kept_below}
use Rattle.pairs.specs.Positions.{position_at}

-- what sums of column j are taken over: entries of the factor, stored from s to below e, and the scratch with the positions of the inverse's entries
pub record SumTerms : Type 0 where
  pub n : ℕ
  pub j : ℕ
  pub s : ℕ
  pub e : ℕ
  pub rows : List ℕ
  pub values : List Float
  pub scratch : List ℕ

-- column j, or a part of it: what its sums are taken over, and where in the result they are stored, from first to below last, with the result's rows
pub record SumColumn : Type 0 where
  pub n : ℕ
  pub j : ℕ
  pub first : ℕ
  pub last : ℕ
  pub s : ℕ
  pub e : ℕ
  pub rows : List ℕ
  pub values : List Float
  pub result_rows : List ℕ
  pub scratch : List ℕ

-- each from a function's parameters in their order
abbrev pub sum_terms : ℕ → ℕ → ℕ → ℕ → List ℕ → List Float → List ℕ → SumTerms
sum_terms n j s e rows values scratch = record { n = n; j = j; s = s; e = e; rows = rows; values = values; scratch = scratch }

abbrev pub sum_column : ℕ → ℕ → ℕ → ℕ → ℕ → ℕ → List ℕ → List Float → List ℕ → List ℕ → SumColumn
sum_column n j first last s e rows values result_rows scratch = record {
  n = n;
  j = j;
  first = first;
  last = last;
  s = s;
  e = e;
  rows = rows;
  values = values;
  result_rows = result_rows;
  scratch = scratch;
}

-- what a column's sums are taken over
abbrev pub terms_of : SumColumn → SumTerms
terms_of x = sum_terms x.n x.j x.s x.e x.rows x.values x.scratch

-- the stored entries from p on
abbrev pub terms_from : SumTerms → ℕ → SumTerms
terms_from t p = sum_terms t.n t.j p t.e t.rows t.values t.scratch

-- the stored entry at p counts: it is kept below the diagonal
abbrev pub kept_term : SumTerms → ℕ → Bool
kept_term t p = kept_below t.rows (nonzero t.values) t.j p

-- p is the place of a stored entry that counts
abbrev pub TermAt : SumTerms → ℕ → Type 0
TermAt t p = (t.s ≤ p) × (p < t.e) × (kept_term t p ≡ true)

-- the position of the inverse's entry that it is multiplied with, in the sum for row i
abbrev pub term_position : SumTerms → ℕ → ℕ → ℕ
term_position t i p = position_at t.n t.scratch i (row t.rows p)

-- the row of the sum at q
abbrev pub sum_row : SumColumn → ℕ → ℕ
sum_row x q = row x.result_rows q

-- q is the place of a sum whose row is below j
abbrev pub SumAt : SumColumn → ℕ → Type 0
SumAt x q = (x.first ≤ q) × (q < x.last) × (x.j < sum_row x q)
