-- The sums of a column in whole numbers where no product and no sum of products can exceed 2 ^ 53, so that none is tested: they are stored at the places of
-- the column's entries. Of each sum the descendants up to its row are added first, a descendant at a time to all sums; then the greater ones, a sum at a time.
-- Assumes nothing.
use Rattle.std.specs.Prelude.{ℕ, ◌+◌, ◌-◌, ◌*◌, ◌^◌, ◌≤◌, ◌<◌, ◌≡◌, Bool, true, cond, List, ltb, length, get_or, ℤ, pos, nat_abs, ◌+ℤ◌, ◌*ℤ◌}
use Rattle.integers.specs.Sum.{Σℤ}
use Rattle.refusal.specs.Bounds.{max_dimension}
use Rattle.pairs.specs.Pair.{pair_total}
use Rattle.pairs.specs.Scratch.{queue_start}
use Rattle.pairs.specs.Positions.{position_at}
use Rattle.columns.specs.Columns.{row}
use Rattle.columns.specs.Kept.{kept_below}
use Rattle.columns.specs.Factor.{Ascends, Column}
use Rattle.columns.specs.WholeFactor.{whole_value, whole_nonzero}
use Rattle.exact.specs.Multiple.{Small}
use Rattle.refusal.specs.Steps.{Reply, answered}
use Rattle.whole_route.specs.Sums.{whole_inverse_at, whole_sum}

-- the numbers from s to below p of a function, added
abbrev pub sum_from : (ℕ → ℤ) → ℕ → ℕ → ℤ
sum_from f s p = Σℤ (p - s) (λ m. f (s + m))

-- what the stored entry at p adds to a sum of column j; r k is the inverse's entry for the row k
abbrev pub term_at : List ℕ → List ℤ → ℕ → (ℕ → ℤ) → ℕ → ℤ
term_at rows values j r p = cond (kept_below rows (whole_nonzero values) j p) (whole_value values p *ℤ r (row rows p)) (pos 0)

-- the sums of column j: its members' rows are listed, `count` of them, each sum stands as far past `first` as its row in the list, and the entries of the
-- factor that they are taken over are stored from s to below e
pub record ColumnSums : Type 0 where
  pub n : ℕ
  pub j : ℕ
  pub first : ℕ
  pub count : ℕ
  pub s : ℕ
  pub e : ℕ
  pub listed : List ℕ
  pub rows : List ℕ
  pub values : List ℤ
  pub scratch : List ℕ

-- from a function's parameters in their order
abbrev pub column_sums : ℕ → ℕ → ℕ → ℕ → ℕ → ℕ → List ℕ → List ℕ → List ℤ → List ℕ → ColumnSums
column_sums n j first count s e listed rows values scratch = record {
  n = n;
  j = j;
  first = first;
  count = count;
  s = s;
  e = e;
  listed = listed;
  rows = rows;
  values = values;
  scratch = scratch;
}

module _ (x : ColumnSums) where
  -- the stored entry at p counts
  abbrev pub entry_counts : ℕ → Bool
  entry_counts p = kept_below x.rows (whole_nonzero x.values) x.j p

  -- where the inverse's entry stands with which it is multiplied, in the sum of the row at q
  abbrev pub factor_place : ℕ → ℕ → ℕ
  factor_place q p = position_at x.n x.scratch (row x.listed q) (row x.rows p)

  -- what it adds to that sum, with the inverse's entries in a list
  abbrev pub whole_term : List ℤ → ℕ → ℕ → ℤ
  whole_term z q p = term_at x.rows x.values x.j (whole_inverse_at x.n x.scratch z (row x.listed q)) p

  -- the same where its row is up to that of the sum, and where it is greater
  abbrev pub low_term : List ℤ → ℕ → ℕ → ℤ
  low_term z q p = cond (ltb (row x.listed q) (row x.rows p)) (pos 0) (whole_term z q p)

  abbrev pub high_term : List ℤ → ℕ → ℕ → ℤ
  high_term z q p = cond (ltb (row x.listed q) (row x.rows p)) (whole_term z q p) (pos 0)

  -- q is the place in the list of a row below the diagonal
  abbrev pub BelowAt : ℕ → Type 0
  BelowAt q = (q < x.count) × (x.j < row x.listed q)

  -- p is the place of a stored entry that counts
  abbrev pub CountsAt : ℕ → Type 0
  CountsAt p = (x.s ≤ p) × (p < x.e) × (entry_counts p ≡ true)

-- sums that can be taken without a test: every product is of at most b in size, and there are too few for a sum of them to exceed 2 ^ 53
pub record WholeSumsInput (x : ColumnSums) (b : ℕ) (z : List ℤ) : Type 0 where
  pub small : x.n ≤ max_dimension
  pub column : Column x.rows (length x.values) x.s x.e
  pub inside : (p : ℕ) → x.s ≤ p → p < x.e → row x.rows p < x.n
  pub room : queue_start x.n + pair_total x.n ≤ length x.scratch
  pub long : x.count ≤ length x.listed
  pub fits : x.first + x.count ≤ length z
  pub rows_inside : (q : ℕ) → q < x.count → (x.j ≤ row x.listed q) × (row x.listed q < x.n)
  pub ascends : Ascends x.listed 0 x.count
  pub behind : (q p : ℕ) → BelowAt x q → CountsAt x p → x.first + x.count ≤ factor_place x q p
  pub known : (q p : ℕ) → BelowAt x q → CountsAt x p → factor_place x q p < length z
  pub within : (q p : ℕ) → BelowAt x q → CountsAt x p → nat_abs (whole_term x z q p) ≤ b
  pub few : (x.e - x.s) * b ≤ 2 ^ 53

-- the sums of the rows below the diagonal are stored, and the entries behind the column are as they were
pub record SumsDone (x : ColumnSums) (z₀ z : List ℤ) : Type 0 where
  pub long : length z ≡ length z₀
  pub sums : (q : ℕ) → BelowAt x q → get_or z (x.first + q) (pos 0) ≡ sum_from (whole_term x z₀ q) x.s x.e
  pub later : (p : ℕ) → x.first + x.count ≤ p → get_or z p (pos 0) ≡ get_or z₀ p (pos 0)

-- the numbers from first to below last are 0, and those from last on as they were
pub record PartCleared (first last : ℕ) (z₀ z : List ℤ) : Type 0 where
  pub long : length z ≡ length z₀
  pub cleared : (p : ℕ) → first ≤ p → p < last → get_or z p (pos 0) ≡ pos 0
  pub later : (p : ℕ) → last ≤ p → get_or z p (pos 0) ≡ get_or z₀ p (pos 0)

-- ---- one product

-- the number at a place and the one whose position is the word, with which l is multiplied
pub record AddWholeAtInput (place word : ℕ) (l : ℤ) (scratch : List ℕ) (z : List ℤ) : Type 0 where
  pub fits : place < length z
  pub inside : word < length scratch
  pub known : get_or scratch word 0 < length z
  pub product_small : Small (l *ℤ get_or z (get_or scratch word 0) (pos 0))
  pub sum_small : Small (get_or z place (pos 0) +ℤ l *ℤ get_or z (get_or scratch word 0) (pos 0))

-- the number at a place, with that product
abbrev pub with_whole_product : ℕ → ℕ → ℤ → List ℕ → List ℤ → ℤ
with_whole_product place word l scratch z = get_or z place (pos 0) +ℤ l *ℤ get_or z (get_or scratch word 0) (pos 0)

-- the sums from the row at `from` on and the inverse's entries for those rows, whose positions are `base` words past the rows
pub record AddWholeRowsInput (base first from count : ℕ) (l : ℤ) (listed scratch : List ℕ) (z : List ℤ) : Type 0 where
  pub ordered : from ≤ count
  pub long : count ≤ length listed
  pub fits : first + count ≤ length z
  pub words : (q : ℕ) → from ≤ q → q < count → AddWholeAtInput (first + q) (base + row listed q) l scratch z
  pub behind : (q : ℕ) → from ≤ q → q < count → first + count ≤ get_or scratch (base + row listed q) 0

-- each of them with its product; all other numbers as they were
pub record RowsAdded (base first from q : ℕ) (l : ℤ) (listed scratch : List ℕ) (z₀ z : List ℤ) : Type 0 where
  pub long : length z ≡ length z₀
  pub added : (i : ℕ) → from ≤ i → i < q → get_or z (first + i) (pos 0) ≡ with_whole_product (first + i) (base + row listed i) l scratch z₀
  pub before : (p : ℕ) → p < first + from → get_or z p (pos 0) ≡ get_or z₀ p (pos 0)
  pub after : (p : ℕ) → first + q ≤ p → get_or z p (pos 0) ≡ get_or z₀ p (pos 0)

-- ---- the stored entries up to the sums' rows

-- the stored entry at p, whose product may be added to the sums; the rows before q are less than its row
pub record AddWholeStoredInput (x : ColumnSums) (p q : ℕ) (z : List ℤ) : Type 0 where
  pub small : x.n ≤ max_dimension
  pub stored : p < length x.rows
  pub weighed : p < length x.values
  pub inside : row x.rows p < x.n
  pub room : queue_start x.n + pair_total x.n ≤ length x.scratch
  pub ordered : q ≤ x.count
  pub long : x.count ≤ length x.listed
  pub fits : x.first + x.count ≤ length z
  pub rows_inside : (i : ℕ) → i < x.count → (x.j ≤ row x.listed i) × (row x.listed i < x.n)
  pub ascends : Ascends x.listed 0 x.count
  pub passed : (i : ℕ) → i < q → row x.listed i < row x.rows p
  pub behind : (i : ℕ) → BelowAt x i → entry_counts x p ≡ true → x.first + x.count ≤ factor_place x i p
  pub known : (i : ℕ) → BelowAt x i → entry_counts x p ≡ true → factor_place x i p < length z
  pub product_small : (i : ℕ) → BelowAt x i → entry_counts x p ≡ true → Small (whole_term x z i p)
  pub sum_small : (i : ℕ) → BelowAt x i → entry_counts x p ≡ true → row x.rows p ≤ row x.listed i → Small (get_or z (x.first + i) (pos 0) +ℤ whole_term x z i p)

-- it is added to each sum whose row is not less; the rows from q to before m are less, and behind the sums all numbers are as they were
pub record StoredAdded (x : ColumnSums) (p q m : ℕ) (z₀ z : List ℤ) : Type 0 where
  pub from : q ≤ m
  pub upto : m ≤ x.count
  pub less : (i : ℕ) → q ≤ i → i < m → row x.listed i < row x.rows p
  pub long : length z ≡ length z₀
  pub added : (i : ℕ) → i < x.count → get_or z (x.first + i) (pos 0) ≡ get_or z₀ (x.first + i) (pos 0) +ℤ low_term x z₀ i p
  pub later : (k : ℕ) → x.first + x.count ≤ k → get_or z k (pos 0) ≡ get_or z₀ k (pos 0)

-- the sums are cleared
pub record LowInput (x : ColumnSums) (b : ℕ) (z : List ℤ) : Type 0 where
  pub sums : WholeSumsInput x b z
  pub cleared : (q : ℕ) → q < x.count → get_or z (x.first + q) (pos 0) ≡ pos 0

-- the sums over the stored entries before p, of which those up to the sum's row count
pub record LowAdded (x : ColumnSums) (p : ℕ) (z₀ z : List ℤ) : Type 0 where
  pub long : length z ≡ length z₀
  pub sums : (q : ℕ) → q < x.count → get_or z (x.first + q) (pos 0) ≡ sum_from (low_term x z₀ q) x.s p
  pub later : (k : ℕ) → x.first + x.count ≤ k → get_or z k (pos 0) ≡ get_or z₀ k (pos 0)

-- ---- the greater ones

-- what the stored entry at p adds, where the position of the inverse's entry is `base` words past its row
abbrev pub word_term : ℕ → List ℕ → List ℤ → List ℕ → List ℤ → ℕ → ℤ
word_term base rows values scratch z p = whole_value values p *ℤ get_or z (get_or scratch (base + row rows p) 0) (pos 0)

-- a sum and the stored entry at p, whose product and the sum with it are small
pub record HighTermInput (base p : ℕ) (total : ℤ) (rows : List ℕ) (values : List ℤ) (scratch : List ℕ) (z : List ℤ) : Type 0 where
  pub stored : p < length rows
  pub weighed : p < length values
  pub words : whole_nonzero values p ≡ true → (base + row rows p < length scratch) × (get_or scratch (base + row rows p) 0 < length z)
  pub product_small : whole_nonzero values p ≡ true → Small (word_term base rows values scratch z p)
  pub sum_small : Small (total +ℤ word_term base rows values scratch z p)

-- the stored entries from f to below e, whose products and sums are small
pub record HighSumInput (base f e : ℕ) (rows : List ℕ) (values : List ℤ) (scratch : List ℕ) (z : List ℤ) : Type 0 where
  pub ordered : f ≤ e
  pub stored : e ≤ length rows
  pub weighed : e ≤ length values
  pub words : (p : ℕ) → f ≤ p → p < e → whole_nonzero values p ≡ true → (base + row rows p < length scratch) × (get_or scratch (base + row rows p) 0 < length z)
  pub product_small : (p : ℕ) → f ≤ p → p < e → whole_nonzero values p ≡ true → Small (word_term base rows values scratch z p)
  pub sum_small : (p : ℕ) → f ≤ p → p ≤ e → Small (sum_from (word_term base rows values scratch z) f p)

-- the sum of the row at q; the stored entries before f are not of greater rows
pub record AddHighInput (x : ColumnSums) (q f : ℕ) (z : List ℤ) : Type 0 where
  pub small : x.n ≤ max_dimension
  pub column : Column x.rows (length x.values) x.s x.e
  pub inside : (p : ℕ) → x.s ≤ p → p < x.e → row x.rows p < x.n
  pub room : queue_start x.n + pair_total x.n ≤ length x.scratch
  pub one : q < x.count
  pub long : x.count ≤ length x.listed
  pub fits : x.first + x.count ≤ length z
  pub row_inside : row x.listed q < x.n
  pub from : x.s ≤ f
  pub upto : f ≤ x.e
  pub passed : (p : ℕ) → x.s ≤ p → p < f → row x.rows p ≤ row x.listed q
  pub known : (p : ℕ) → BelowAt x q → CountsAt x p → factor_place x q p < length z
  pub product_small : (p : ℕ) → BelowAt x q → CountsAt x p → Small (whole_term x z q p)
  pub sum_small : (p : ℕ) → BelowAt x q → x.s ≤ p → p ≤ x.e → Small (sum_from (high_term x z q) x.s p)
  pub total_small : BelowAt x q → Small (get_or z (x.first + q) (pos 0) +ℤ sum_from (high_term x z q) x.s x.e)

-- the greater ones are added to it; the stored entries from f to before m are not of greater rows, and all other numbers are as they were
pub record HighAdded (x : ColumnSums) (q f m : ℕ) (z₀ z : List ℤ) : Type 0 where
  pub from : f ≤ m
  pub upto : m ≤ x.e
  pub less : (p : ℕ) → f ≤ p → p < m → row x.rows p ≤ row x.listed q
  pub long : length z ≡ length z₀
  pub added : BelowAt x q → get_or z (x.first + q) (pos 0) ≡ get_or z₀ (x.first + q) (pos 0) +ℤ sum_from (high_term x z₀ q) x.s x.e
  pub others : (k : ℕ) → (k ≡ x.first + q → ⊥) → get_or z k (pos 0) ≡ get_or z₀ k (pos 0)

-- the sums have the products up to their rows
pub record HighsInput (x : ColumnSums) (b : ℕ) (z : List ℤ) : Type 0 where
  pub sums : WholeSumsInput x b z
  pub lows : (q : ℕ) → BelowAt x q → get_or z (x.first + q) (pos 0) ≡ sum_from (low_term x z q) x.s x.e

-- the sums before q are whole; the others, and all numbers behind them, are as they were
pub record HighsAdded (x : ColumnSums) (q : ℕ) (z₀ z : List ℤ) : Type 0 where
  pub long : length z ≡ length z₀
  pub done : (i : ℕ) → BelowAt x i → i < q → get_or z (x.first + i) (pos 0) ≡ sum_from (whole_term x z₀ i) x.s x.e
  pub rest : (i : ℕ) → q ≤ i → i < x.count → get_or z (x.first + i) (pos 0) ≡ get_or z₀ (x.first + i) (pos 0)
  pub later : (k : ℕ) → x.first + x.count ≤ k → get_or z k (pos 0) ≡ get_or z₀ k (pos 0)

-- ---- whether sums can be taken without a test

-- m is at least a size and those of the numbers from s to below e
pub record SizesWithin (s e start m : ℕ) (z : List ℤ) : Type 0 where
  pub least : start ≤ m
  pub sizes : (p : ℕ) → s ≤ p → p < e → nat_abs (get_or z p (pos 0)) ≤ m

-- the values from s to below e, multiplied with numbers of at most a size, give no sum beyond 2 ^ 53
pub record SumsFit (s e most : ℕ) (values : List ℤ) : Type 0 where
  pub greatest : ℕ
  pub sizes : (p : ℕ) → s ≤ p → p < e → nat_abs (whole_value values p) ≤ greatest
  pub few : (e - s) * (greatest * most) ≤ 2 ^ 53

-- the numbers from `first` to below `size` are of at most a size
abbrev pub MostFrom : ℕ → ℕ → ℕ → List ℤ → Type 0
MostFrom first most size z = (p : ℕ) → first ≤ p → p < size → nat_abs (get_or z p (pos 0)) ≤ most

-- the sum over column j's stored entries, with the inverse's entries in a list, of the row at q
abbrev pub sum_of : ColumnSums → List ℤ → ℕ → Reply ℤ
sum_of x z q = whole_sum x.rows x.values x.j (whole_inverse_at x.n x.scratch z (row x.listed q)) x.s x.e

-- if b, the sums of the rows below the diagonal are stored; the numbers behind the column are as they were
pub record Summed (x : ColumnSums) (b : Bool) (z₀ z : List ℤ) : Type 0 where
  pub long : length z ≡ length z₀
  pub sums : b ≡ true → (q : ℕ) → BelowAt x q → answered (get_or z (x.first + q) (pos 0)) ≡ sum_of x z₀ q
  pub later : (p : ℕ) → x.first + x.count ≤ p → get_or z p (pos 0) ≡ get_or z₀ p (pos 0)

-- if summed, the sum of each row below the diagonal, as the list has it, is the recurrence's
abbrev pub WholeSumsStored : ColumnSums → Bool → List ℤ → Type 0
WholeSumsStored x summed z = summed ≡ true → (q : ℕ) → BelowAt x q → answered (get_or z (x.first + q) (pos 0)) ≡ sum_of x z q
