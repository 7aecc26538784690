-- Laws of specs/Layout.antt.
use Rattle.std.specs.Prelude.{ℕ, ◌/◌, ◌≤◌, ◌<◌, ◌≡◌, List, get_or}
use Rattle.bits.proofs.Bits.{bit_same}
use Rattle.pairs.specs.Scratch.{queue_start}
use Rattle.pairs.proofs.Scratch.{queue_start_mark}
use Rattle.pairs.specs.ColumnOrder.{column_place, column_marking}
use Rattle.pairs.proofs.ColumnOrder.{column_place_below}

-- ---- words whose marks are as they were have the same set
pub marks_same : (n : ℕ) (s s₀ : List ℕ) → ((p : ℕ) → p < queue_start n → get_or s p 0 ≡ get_or s₀ p 0) → (r c : ℕ) → c ≤ r → r < n
    → column_marking n s r c ≡ column_marking n s₀ r c
marks_same n s s₀ same r c h l =
    bit_same s s₀ (column_place n r c) (same (column_place n r c / 32) (queue_start_mark n (column_place n r c) (column_place_below n r c h l)))
