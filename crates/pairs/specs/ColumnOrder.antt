-- Pairs (r, c) with c ≤ r < n column by column, the rows of each column ascending: their places, and how many of them a set has.
-- Assumes nothing.
use Prim.Native.Nat.{ℕ, zero, suc, ◌+◌, ◌-◌}
use Rattle.std.specs.Prelude.{Bool, List}
use Rattle.bits.specs.Bits.{bit_at}
use Rattle.lists.specs.Cells.{cell_count}

-- where column c starts
unfoldable pub col_start : ℕ → ℕ → ℕ
col_start n zero = 0
col_start n (suc c) = col_start n c + (n - c)

-- the place of (r, c), column by column
abbrev pub column_place : ℕ → ℕ → ℕ → ℕ
column_place n r c = col_start n c + (r - c)

-- the set that words say: a pair is in it if the bit at its place is set
abbrev pub column_marking : ℕ → List ℕ → ℕ → ℕ → Bool
column_marking n s r c = bit_at s (column_place n r c)

-- a set of pairs by column then row, and the rows of a column
abbrev pub by_column : (ℕ → ℕ → Bool) → ℕ → ℕ → Bool
by_column S c r = S r c

abbrev pub column_first : ℕ → ℕ
column_first c = c

abbrev pub column_end : ℕ → ℕ → ℕ
column_end n c = n

-- how many pairs a set has
abbrev pub set_size : ℕ → (ℕ → ℕ → Bool) → ℕ
set_size n S = cell_count (by_column S) column_first (column_end n) n
