-- How many places the column search looks at: the first place of a part, then its middle, then those of what lies below the middle or above it.
-- Assumes nothing.
use Rattle.std.specs.Prelude.{ℕ, zero, suc, ◌+◌, ◌/◌, cond, List, [], ◌∷◌, eqb, ltb, length, take, drop}
use Rattle.columns.specs.Columns.{row}

-- the looks at a part, of which at most k halves are taken; what lies below the middle has the first place in it
unfoldable pub looks_in : ℕ → List ℕ → ℕ → ℕ
looks_in zero part r = 0
looks_in (suc k) [] r = 0
looks_in (suc k) (x ∷ xs) r =
    let part = x ∷ xs in
    let mid = length part / 2 in
    cond (eqb x r) 1
    (cond (eqb (row part mid) r) 2
    (2 + cond (ltb r (row part mid)) (looks_in k (take mid part) r) (looks_in k (drop (mid + 1) part) r)))

-- all of them, repeats included
abbrev pub looks : List ℕ → ℕ → ℕ
looks part r = looks_in (length part) part r
