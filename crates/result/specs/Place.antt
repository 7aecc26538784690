-- The place of a row between two ends of a column's rows, and in a part of them: 8 where it is absent.
-- Assumes nothing.
use Rattle.std.specs.Prelude.{ℕ, ◌+◌, ◌-◌, ◌≤◌, ◌<◌, ◌≡◌, Bool, eqb, length}
use Rattle.std.proofs.Math.Bool.{not}
use mathlib.Core.List.{List, [], ◌∷◌}
use Rattle.lists.specs.Test.{any_in}
use Rattle.lists.specs.Place.{place_from}
use Rattle.refusal.specs.Steps.{Reply, refused, answered, first}
use Rattle.columns.specs.Columns.{row}
use Rattle.columns.specs.Factor.{Ascends}

-- the row at p is r
abbrev pub is_row : List ℕ → ℕ → ℕ → Bool
is_row rows r p = eqb (row rows p) r

-- r is a row between s and e
abbrev pub holds : List ℕ → ℕ → ℕ → ℕ → Bool
holds rows r s e = any_in (is_row rows r) s e

-- the first place from s to below e whose row is r
abbrev pub place_of : List ℕ → ℕ → ℕ → ℕ → ℕ
place_of rows r s e = place_from rows r s (e - s)

-- that place, or 8 where r is absent
unfoldable pub place_in : List ℕ → ℕ → ℕ → ℕ → Reply ℕ
place_in rows r s e = first ((8, not (holds rows r s e)) ∷ []) (place_of rows r s e)

-- b places further
abbrev pub shifted : ℕ → Reply ℕ → Reply ℕ
shifted b (refused k) = refused k
shifted b (answered p) = answered (b + p)

-- the place of r in a part of the rows that starts at b
abbrev pub sought : ℕ → List ℕ → ℕ → Reply ℕ
sought b part r = shifted b (place_in part r 0 (length part))

-- a part of the rows ascends
abbrev pub Ascending : List ℕ → Type 0
Ascending part = Ascends part 0 (length part)

-- p is a place between s and e, and its row is r
pub record Stands (rows : List ℕ) (r s e p : ℕ) : Type 0 where
  pub from : s ≤ p
  pub below : p < e
  pub there : row rows p ≡ r
