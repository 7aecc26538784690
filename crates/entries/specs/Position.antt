-- Where a set's pairs stand among the result's entries: what stands at a member's position, and which member has a position.
-- Assumes nothing.
use Rattle.std.specs.Prelude.{ℕ, ◌+◌, ◌≤◌, ◌<◌, ◌≡◌, Bool, true, List, get_or}
use Rattle.pairs.specs.Scratch.{queue_start}
use Rattle.pairs.specs.ColumnOrder.{column_place}
use Rattle.entries.specs.Entries.{position}

-- the position of each member of a set stands in the scratch, in the word of its place
abbrev pub Positioned : ℕ → (ℕ → ℕ → Bool) → List ℕ → Type 0
Positioned n S s = (r c : ℕ) → c ≤ r → r < n → S r c ≡ true → get_or s (queue_start n + column_place n r c) 0 ≡ position n S r c
