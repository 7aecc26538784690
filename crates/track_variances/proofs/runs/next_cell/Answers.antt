use native.Mathlib.Omega.{arith}
use Prim.Native.Nat.{ℕ, ◌+◌, ◌-◌, ◌<◌}
use mathlib.Core.Path.{◌≡◌, ap, ap₂, ◌∙◌}
use lib.ListN.{length}
use mathlib.Core.List.{List}
use lib.IntN.{ℤ, ◌+ℤ◌}
use mir.Syntax.{w64}
use mir.Val.{to_z, of_z}
use Rattle.integers.specs.Size.{SizeWithin}
use Rattle.integers.proofs.Size.{size_sum}
use Rattle.whole_steps.specs.Machine.{held, fits_both}
use Rattle.run_sums.specs.Runs.{block_sum}
use Rattle.run_sums.specs.Slide.{strip}
use Rattle.track_variances.specs.Track.{track_entry}
use Rattle.track_variances.specs.Slots.{MayCome}
use Rattle.track_variances.proofs.Slots.{slots_next, come_joins, joined_small, coming_small}
use Rattle.track_variances.proofs.Laws.{entries_symmetric}
use Rattle.track_variances.proofs.runs.next_cell.Goals as goal

module _ {starts rows : List ℕ} {values : List ℤ} {track : List ℕ} {k c : ℕ} {list : List ℤ} (M : MayCome starts rows values track k c list) where
  abbrev entries : ℕ → ℕ → ℤ
  entries = track_entry starts rows values track

  abbrev f : ℕ
  f = c + 1 - k

  -- the run before, and the strip of the cell that comes, as they are read back
  before_is : {z : ℤ} → z ≡ block_sum entries (c - f) f → to_z w64 (of_z w64 z) ≡ block_sum entries (c - f) f
  before_is e = held (omega arith) e (joined_small M)

  strip_is : {z : ℤ} {g : ℕ} → z ≡ strip entries c g (c - g) → g ≡ f → to_z w64 (of_z w64 z) ≡ strip entries c f (c - f)
  strip_is e q = held (omega arith) (e ∙ ap (λ (i : ℕ). strip entries c i (c - i)) q) (coming_small M)

  sum_fits : SizeWithin 1157425104234217472 (block_sum entries (c - f) f +ℤ strip entries c f (c - f))
  sum_fits = size_sum (joined_small M) (coming_small M)

  -- the place of the run is in the list
  place : f < length list
  place = omega (arith, M.inside, M.long, M.ready.wide, M.ready.long)

pub sum-requires : goal.sum-requires
sum-requires c =
    let M = c.requires in
    fits_both ◌+ℤ◌ (before_is M c.run_before-before.ensures) (strip_is M c.come-strip.ensures.value c.joined-f.ensures) (omega arith) (sum_fits M)

pub returns : goal.returns
returns c =
    let a = c.args in
    let M = c.requires in
    let E = track_entry a.starts.now a.rows.now a.values.now a.track.now in
    let symmetric = entries_symmetric a.starts.now a.rows.now a.values.now a.track.now in
    slots_next E symmetric a.k a.c a.list.now M.slots M.ready.wide _ c.joined-f.ensures c.come-strip.ensures.come
    (held (omega arith) (c.sum.ensures ∙ ap₂ ◌+ℤ◌ (before_is M c.run_before-before.ensures) (strip_is M c.come-strip.ensures.value c.joined-f.ensures)) (sum_fits M)
    ∙ come_joins E symmetric a.k a.c M.ready.wide)
