-- The steps of the variances along a track: what holds past them; 8 and 20 by the worst fault; the list of all runs. Assumes nothing.
use Prim.Native.Nat.{ℕ, ◌≤◌, ◌<◌}
use Rattle.track_variances.specs.Track.{max_width}

-- a width that passes
pub record Width (cells width : ℕ) : Type 0 where
  pub wide : 0 < width
  pub few : width ≤ max_width
  pub long : width ≤ cells
