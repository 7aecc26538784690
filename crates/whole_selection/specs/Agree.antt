-- A factor of whole numbers and the same factor in f64: what is kept is the same, and selected entries in f64 accept it wherever their lists have room, with
-- the same set and the same diagnosis.
-- Assumes nothing.
use Rattle.std.specs.Prelude.{ℕ, ◌+◌, ◌≤◌, ◌<◌, ◌≡◌, List, ℤ, Float}
use Rattle.refusal.specs.Steps.{Reply, refused, answered}
use Rattle.columns.specs.Columns.{start, row, value}
use Rattle.columns.specs.WholeFactor.{whole_value}
use Rattle.exact.specs.Multiple.{Whole}
use Rattle.selection.specs.Call.{Call, call}
use Rattle.whole_selection.specs.Call.{WholeCall}

-- the float at each entry that is not above the diagonal is the whole number there; above it nothing is asked
abbrev pub SameNumbers : WholeCall → List Float → Type 0
SameNumbers x values =
    (c p : ℕ) → c < x.factor.n → start x.factor.starts c ≤ p → p < start x.factor.starts (c + 1) → c ≤ row x.factor.rows p
    → Whole (value values p) (whole_value x.factor.values p)

-- the call in f64 with the same factor, requests and limit
abbrev pub float_call : WholeCall → List Float → Call
float_call x values =
    call x.factor.n x.factor.starts x.factor.rows values x.dimension x.request_rows x.request_columns x.limit

-- two lookups find equal numbers, or refuse alike
abbrev pub SameFound : Reply Float → Reply ℤ → Type 0
SameFound (answered v) (answered z) = Whole v z
SameFound (answered v) (refused k) = ⊥
SameFound (refused k) (answered z) = ⊥
SameFound (refused k) (refused l) = k ≡ l
