-- What a reader of a reply knows: the pairs that the chain lists begin with start at a request, each is a dependency of the one before, the last is the
-- pair that was asked for, no chain is shorter, and of another as short the last pair in which they differ is higher by column then row.
-- Assumes nothing.
use Rattle.std.specs.Prelude.{ℕ, ◌+◌, ◌-◌, ◌≤◌, ◌<◌, min, max, ◌≡◌, Bool, true, ◌⊎◌, List, length, get_or}
use Rattle.lists.specs.Tabulate.{tabulate}
use Rattle.columns.specs.Kept.{nonzero, pattern}
use Rattle.closed_set.specs.ClosedSet.{Needed, Leads}
use Rattle.closed_set.specs.Requests.{requested}
use Rattle.chains.specs.Chain.{Chain, LowerBack}
use Rattle.dependency_chain.specs.Chain.{ChainCall}

-- the first k pairs of two lists
abbrev pub first_pairs : ℕ → List ℕ → List ℕ → List (ℕ × ℕ)
first_pairs k rows columns = tabulate (λ i. (get_or rows i 0, get_or columns i 0)) k

-- the first k places of two lists hold the chain to (r, c)
pub record ChainAnswer (desc : ℕ → List ℕ) (req : ℕ → ℕ → Bool) (r c k : ℕ) (rows columns : List ℕ) : Type 0 where
  pub some : 0 < k
  pub requested : req (get_or rows 0 0) (get_or columns 0 0) ≡ true
  pub leads : (i : ℕ) → i + 1 < k → Leads desc (get_or rows i 0) (get_or columns i 0) (get_or rows (i + 1) 0) (get_or columns (i + 1) 0)
  pub last_row : get_or rows (k - 1) 0 ≡ r
  pub last_column : get_or columns (k - 1) 0 ≡ c
  pub shortest : (m : List (ℕ × ℕ)) → Chain desc req m r c → k ≤ length m
  pub lowest : (m : List (ℕ × ℕ)) → Chain desc req m r c → length m ≡ k → (m ≡ first_pairs k rows columns) ⊎ LowerBack (first_pairs k rows columns) m

-- ---- of a reply
module _ (x : ChainCall) where
  abbrev pub desc : ℕ → List ℕ
  desc = pattern x.factor.starts x.factor.rows (nonzero x.factor.values)

  abbrev pub req : ℕ → ℕ → Bool
  req = requested x.request_rows x.request_columns

  -- the pair that is asked for is in the closed set of the requests
  abbrev pub Asked : Type 0
  Asked = Needed desc req (max x.row x.column) (min x.row x.column)
