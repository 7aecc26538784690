-- A call for the chain to a pair: what it is handed, what it refuses in document 02's order, what it answers and leaves.
-- Assumes nothing.
use Rattle.std.specs.Prelude.{ℕ, min, max, ◌≡◌, List, [], ◌∷◌, ◌++◌, ltb, leb, length, Float}
use Rattle.lists.specs.Overwrite.{overwrite, cleared}
use Rattle.refusal.specs.Steps.{Step, Reply, first, after}
use Rattle.refusal.specs.Groups.{grouped}
use Rattle.pairs.specs.Scratch.{chain_words}
use Rattle.columns.specs.Columns.{bound_steps, FactorLists, factor_lists}
use Rattle.columns.specs.Stored.{stored_steps}
use Rattle.columns.specs.Diagonal.{diagonal_steps}
use Rattle.columns.specs.Kept.{nonzero, pattern}
use Rattle.closed_set.specs.Requests.{requested}
use Rattle.chains.specs.ChainOf.{chain_of}
use Rattle.selection.specs.RequestSteps.{request_bound_steps, request_steps}
use Rattle.levels.specs.Written.{rows_of, columns_of}

-- what a call is handed to read: a factor, two lists of requests with their dimension, and a pair
pub record ChainCall : Type 0 where
  pub factor : FactorLists Float
  pub dimension : ℕ
  pub request_rows : List ℕ
  pub request_columns : List ℕ
  pub row : ℕ
  pub column : ℕ

-- a call, from a function's parameters in their order
abbrev pub chain_call : ℕ → List ℕ → List ℕ → List Float → ℕ → List ℕ → List ℕ → ℕ → ℕ → ChainCall
chain_call n starts rows values dimension request_rows request_columns row column = record {
  factor = factor_lists n starts rows values;
  dimension = dimension;
  request_rows = request_rows;
  request_columns = request_columns;
  row = row;
  column = column;
}

-- 7: fewer words of scratch; 5: an index of the pair that is n or more
unfoldable pub seek_steps : ℕ → ℕ → ℕ → ℕ → List Step
seek_steps n scratch row column = (7, ltb scratch (chain_words n)) ∷ (5, leb n row) ∷ (5, leb n column) ∷ []

-- 7: a list shorter than a chain
unfoldable pub chain_room_steps : List (ℕ × ℕ) → ℕ → ℕ → List Step
chain_room_steps chain rowsRoom columnsRoom = (7, ltb rowsRoom (length chain)) ∷ (7, ltb columnsRoom (length chain)) ∷ []

module _ (x : ChainCall) where
  -- the chain to the pair, row and column exchanged if row < column; no pairs where it is not in the closed set of the requests
  abbrev pub chain_to : List (ℕ × ℕ)
  chain_to =
      chain_of x.factor.n (pattern x.factor.starts x.factor.rows (nonzero x.factor.values)) (requested x.request_rows x.request_columns) (max x.row x.column) (min x.row x.column)

  -- 1 of the factor and of the requests; 2, 3 and 18; 4 and 5; 6; 7 of the scratch and 5 of the pair
  abbrev pub asked_groups : ℕ → List (List Step)
  asked_groups scratch =
      (bound_steps x.factor.n (length x.factor.rows) ++ request_bound_steps (length x.request_rows))
      ∷ stored_steps x.factor
      ∷ request_steps x.factor.n x.dimension x.request_rows x.request_columns
      ∷ diagonal_steps x.factor
      ∷ seek_steps x.factor.n scratch x.row x.column
      ∷ []

  -- what is refused before the chain is looked for
  unfoldable pub asked_steps : ℕ → List Step
  asked_steps scratch = grouped (asked_groups scratch)

  -- and last
  unfoldable pub chain_steps : ℕ → ℕ → ℕ → List Step
  chain_steps scratch rowsRoom columnsRoom = asked_steps scratch ++ chain_room_steps chain_to rowsRoom columnsRoom

-- a chain listed: the reply, and the chain written to the front of its lists
pub record Listed (chain : List (ℕ × ℕ)) (chainRows chainColumns : List ℕ) (reply : Reply ℕ) (chainRows' chainColumns' : List ℕ) : Type 0 where
  pub answer : reply ≡ first (chain_room_steps chain (length chainRows) (length chainColumns)) (length chain)
  pub rows_after : chainRows' ≡ after (chain_room_steps chain (length chainRows) (length chainColumns)) (overwrite (rows_of chain) chainRows) chainRows
  pub columns_after : chainColumns' ≡ after (chain_room_steps chain (length chainRows) (length chainColumns)) (overwrite (columns_of chain) chainColumns) chainColumns

-- the reply and the lists: the scratch is cleared wherever the chain was looked for, the chain is written to the front of its lists
pub record ChainListed (x : ChainCall) (scratch chainRows chainColumns : List ℕ) (reply : Reply ℕ) (scratch' chainRows' chainColumns' : List ℕ) : Type 0 where
  pub answer : reply ≡ first (chain_steps x (length scratch) (length chainRows) (length chainColumns)) (length (chain_to x))
  pub scratch_after : scratch' ≡ after (asked_steps x (length scratch)) (cleared (chain_words x.factor.n) scratch) scratch
  pub rows_after : chainRows' ≡ after (chain_steps x (length scratch) (length chainRows) (length chainColumns)) (overwrite (rows_of (chain_to x)) chainRows) chainRows
  pub columns_after : chainColumns' ≡ after (chain_steps x (length scratch) (length chainRows) (length chainColumns)) (overwrite (columns_of (chain_to x)) chainColumns) chainColumns
