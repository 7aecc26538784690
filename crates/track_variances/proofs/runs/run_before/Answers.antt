use native.Mathlib.Omega.{arith}
use Prim.Native.Nat.{ℕ, ◌+◌, ◌-◌, ◌≤◌, ◌<◌}
use mathlib.Core.Path.{◌≡◌, ap₂, ◌∙◌}
use lib.ListN.{length}
use mathlib.Core.List.{List}
use lib.IntN.{ℤ, ◌-ℤ◌}
use mir.Syntax.{w64}
use mir.Val.{to_z, of_z}
use Rattle.integers.specs.Size.{SizeWithin}
use Rattle.integers.proofs.Size.{size_minus}
use Rattle.columns.specs.WholeFactor.{whole_value}
use Rattle.whole_steps.specs.Machine.{held, fits_both}
use Rattle.track_variances.specs.Track.{track_entry}
use Rattle.track_variances.specs.Slots.{MayCome}
use Rattle.track_variances.proofs.Slots.{before_sliding, run_small, slot_small, joined_small}
use Rattle.track_variances.proofs.Laws.{entries_symmetric}
use Rattle.track_variances.proofs.runs.run_before.Goals as goal

module _ {starts rows : List ℕ} {values : List ℤ} {track : List ℕ} {k c : ℕ} {list : List ℤ} (M : MayCome starts rows values track k c list) where
  some : 0 < length list
  some = omega (arith, M.long, M.ready.long)

  room : k ≤ c → c - k + 1 < length list
  room h = omega (arith, h, M.inside, M.long, M.ready.wide)

  -- the run before and its first cell's strip, as they are read back
  run_is : k ≤ c → {z : ℤ} → z ≡ whole_value list (c - k) → to_z w64 (of_z w64 z) ≡ whole_value list (c - k)
  run_is h e = held (omega arith) e (run_small M h)

  strip_small : k ≤ c → SizeWithin 4503599627370496 (whole_value list (c - k + 1))
  strip_small h = slot_small M (c - k + 1) (omega arith) (omega (arith, h, M.ready.wide))

  strip_is : k ≤ c → {z : ℤ} → z ≡ whole_value list (c - k + 1) → to_z w64 (of_z w64 z) ≡ whole_value list (c - k + 1)
  strip_is h e = held (omega arith) e (strip_small h)

pub minus-requires : goal.minus-requires
minus-requires c =
    let M = c.requires in
    let h = c.if-c-k.false in
    fits_both ◌-ℤ◌ (run_is M h c.whole_at-2.ensures) (strip_is M h c.whole_at-3.ensures) (omega arith) (size_minus (run_small M h) (strip_small M h))

pub returns : goal.returns
returns c =
    let a = c.args in
    let M = c.requires in
    let h = c.if-c-k.false in
    held (omega arith)
    (c.minus.ensures ∙ ap₂ ◌-ℤ◌ (run_is M h c.whole_at-2.ensures) (strip_is M h c.whole_at-3.ensures)
    ∙ before_sliding (track_entry a.starts.now a.rows.now a.values.now a.track.now) (entries_symmetric a.starts.now a.rows.now a.values.now a.track.now) a.k a.c a.list.now M.slots M.ready.wide h (room M h))
    (joined_small M)
