-- Where the exact recurrence for a diagonal of ones exceeds 2 ^ 53 over a set of pairs, and that this is what the exact case excludes.
-- Assumes nothing.
use Rattle.std.specs.Prelude.{ℕ, ◌≤◌, ◌<◌, ◌≡◌, Bool, true, ◌&&◌, ◌||◌, ◌↔◌, List, ℤ, pos}
use Rattle.lists.specs.Test.{any, any_in}
use Rattle.takahashi.specs.Entries.{Entry}
use Rattle.takahashi.specs.Recurrence.{at, RecurrenceClosed}
use Rattle.exact.specs.ExactCase.{unit_table}
use Rattle.exact.specs.Checked.{beyond, sum_exceeds}

-- the entry (i, j) of a table, or a product or a running sum of the recurrence that gives it, is beyond 2 ^ 53: one line for entries below and on the
-- diagonal, since `at Z j k` is Z k j
abbrev pub entry_exceeds : (ℕ → List (Entry ℤ)) → (ℕ → ℕ → ℤ) → ℕ → ℕ → Bool
entry_exceeds desc Z i j = beyond (Z i j) || sum_exceeds (at Z i) (pos 0) (desc j)

-- some pair of the set has such an entry
unfoldable pub set_exceeds : ℕ → (ℕ → List (Entry ℤ)) → (ℕ → ℕ → ℤ) → (ℕ → ℕ → Bool) → Bool
set_exceeds n desc Z S = any (λ j. any_in (λ i. S i j && entry_exceeds desc Z i j) j n) n

-- ---- a set given as a test, and as pairs
module _ (n : ℕ) (desc : ℕ → List (Entry ℤ)) (S : ℕ → ℕ → Bool) (In : ℕ → ℕ → Type 0)
    (same : (i j : ℕ) → j ≤ i → i < n → (S i j ≡ true) ↔ In i j) (closed : RecurrenceClosed n desc In) where
  abbrev pub Z : ℕ → ℕ → ℤ
  Z = unit_table n desc
