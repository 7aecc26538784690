-- Laws of specs/Entries.antt.
use Rattle.std.specs.Prelude.{ℕ, ◌+◌, ◌≡◌, Bool, length}
use Rattle.lists.specs.Tabulate.{tabulate-length}
use Rattle.pairs.specs.ColumnOrder.{set_size}
use Rattle.pairs.proofs.ColumnOrder.{set_size-length}
use Rattle.entries.specs.Entries.{column_count, entry_starts, entry_rows, entry_values}

pub entry_starts-length : (n : ℕ) (S : ℕ → ℕ → Bool) → length (entry_starts n S) ≡ n + 1
entry_starts-length n S = tabulate-length (column_count n S) (n + 1)

pub entry_rows_length : (n : ℕ) (S : ℕ → ℕ → Bool) → length (entry_rows n S) ≡ set_size n S
entry_rows_length n S = set_size-length n S _

pub entry_values-length : {A : Type 0} (n : ℕ) (S : ℕ → ℕ → Bool) (Z : ℕ → ℕ → A) → length (entry_values n S Z) ≡ set_size n S
entry_values-length n S Z = set_size-length n S _
