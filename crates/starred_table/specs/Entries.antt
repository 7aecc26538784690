-- What the answer of a call with a lookup shows.
-- Assumes nothing.
use Rattle.std.specs.Prelude.{ℕ, Bool, false, eqb, Float}
use Rattle.std.specs.Float.Ieee.{eq}
use Rattle.refusal.specs.Steps.{refused, answered}
use Rattle.selected_entry.specs.SelectedEntry.{EntryAnswer, refused_with, too_large, looked}

-- the lookup found this value
abbrev pub is_value : EntryAnswer → Float → Bool
is_value (looked (answered z)) v = eq z v
is_value (looked (refused k)) v = false
is_value too_large v = false
is_value (refused_with k) v = false

-- the lookup gave 8
abbrev pub is_absent : EntryAnswer → Bool
is_absent (looked (answered z)) = false
is_absent (looked (refused k)) = eqb k 8
is_absent too_large = false
is_absent (refused_with k) = false

-- the call was refused with this number
abbrev pub is_refused : EntryAnswer → ℕ → Bool
is_refused (looked z) number = false
is_refused too_large number = false
is_refused (refused_with k) number = eqb k number
