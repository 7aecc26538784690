-- What a search's answer says: a place, or document 01's number.
-- Assumes nothing.
use Rattle.std.specs.Prelude.{ℕ, Some, None, Option}
use Rattle.refusal.specs.Steps.{Reply, refused, answered}

-- the place found, or 8 where the row is absent
abbrev pub place_reply : Option ℕ → Reply ℕ
place_reply (Some p) = answered p
place_reply None = refused 8
