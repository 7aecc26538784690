use native.Mathlib.Omega.{arith}
use native.Mathlib.Nat.{le_refl}
use Prim.Native.Nat.{ℕ, ◌≤◌, ◌<◌, ◌-◌, ◌+◌}
use mathlib.Core.Path.{◌≡◌, ap, ap₂, sym, subst, ◌∙◌}
use mathlib.Core.List.{List}
use lib.IntN.{ℤ, ◌+ℤ◌}
use Rattle.integers.specs.Size.{SizeWithin}
use Rattle.integers.proofs.Size.{size_is, size_sum}
use Rattle.integers.proofs.Sum.{sum_next}
use Rattle.columns.specs.WholeFactor.{whole_value}
use Rattle.whole_steps.specs.Machine.{held, fits_both}
use Rattle.whole_pairs.specs.Entry.{entry_or_zero}
use Rattle.run_sums.specs.Slide.{line_sum}
use Rattle.track_variances.specs.Track.{track_entry, max_track_entry}
use Rattle.track_variances.proofs.Sizes.{later_small, before_line}
use Rattle.track_variances.specs.Slots.{MayCome, Met, Come}
use Rattle.track_variances.proofs.Slots.{met_more, met_all, slot_small}
use Rattle.track_variances.proofs.cells.come.Goals as goal

module _ {starts rows : List ℕ} {values : List ℤ} {track : List ℕ} {k c f : ℕ} {list : List ℤ} (M : MayCome starts rows values track k c list) (e : f ≡ c + 1 - k) where
  abbrev entries : ℕ → ℕ → ℤ
  entries = track_entry starts rows values track

  -- the run's first cell is not after the cell that comes, and less than k before it
  in_order : (f ≤ c) × (c < f + k)
  in_order = let w = M.ready.wide in (omega arith, omega arith)

  line_fits : (m : ℕ) → m ≤ c - f → SizeWithin 1125899906842624 (line_sum entries c f m)
  line_fits m h = before_line M.ready c f in_order.0 in_order.1 M.inside m h

  own_small : SizeWithin max_track_entry (entries c c)
  own_small = later_small M.ready c c (le_refl _) (omega (arith, M.ready.wide)) M.inside

  lines_fit : SizeWithin 2251799813685248 (line_sum entries c f (c - f) +ℤ line_sum entries c f (c - f))
  lines_fit = let l = line_fits (c - f) (le_refl _) in size_sum l l

  strip_fits : SizeWithin 2252899325313024 (entries c c +ℤ (line_sum entries c f (c - f) +ℤ line_sum entries c f (c - f)))
  strip_fits = size_sum own_small lines_fit

  -- in the loop
  module _ (p : ℕ) (below : p < c) (from : f ≤ p) where
    entry_small : SizeWithin max_track_entry (entries c p)
    entry_small = later_small M.ready p c (omega (arith, below)) (omega (arith, from, in_order.1)) M.inside

    line_next : line_sum entries c f (p - f) +ℤ entries c p ≡ line_sum entries c f (p + 1 - f)
    line_next =
        let q : p ≡ f + (p - f) = omega (arith, from) in
        let next : p + 1 - f ≡ p - f + 1 = omega (arith, from) in
        ap (λ (i : ℕ). line_sum entries c f (p - f) +ℤ entries c i) q
        ∙ sym (sum_next (λ b. entries c (f + b)) (p - f)) ∙ ap (line_sum entries c f) (sym next)

    line_fits_next : SizeWithin 1126999418470400 (line_sum entries c f (p - f) +ℤ entries c p)
    line_fits_next = size_sum (line_fits (p - f) (omega (arith, below))) entry_small

    slot_fits : (l : List ℤ) → Met entries c f p list l → SizeWithin 4503599627370496 (whole_value l (p + 1))
    slot_fits l N =
        let w = M.ready.wide in
        size_is (sym (N.back (p + 1) (omega arith))) (slot_small M (p + 1) (omega (arith, from)) (omega (arith, below)))

pub sum-line-requires : goal.sum-line-requires
sum-line-requires c =
    let a = c.args in
    let M = c.requires.may_come in
    let e = c.requires.f_value in
    let below = c.loop-p-test.true in
    let from = c.loop-p.auto.p in
    let z = held (omega arith) (c.entry_or_zero-z.ensures ∙ ap₂ (entry_or_zero a.starts.now a.rows.now a.values.now) c.at-row.ensures c.at.ensures) (entry_small M e c.loop-p.p below from) in
    fits_both ◌+ℤ◌ c.loop-p.invariant.line_is z (omega arith) (line_fits_next M e c.loop-p.p below from)

pub add_twice-requires : goal.add_twice-requires
add_twice-requires c =
    let a = c.args in
    let M = c.requires.may_come in
    let e = c.requires.f_value in
    let below = c.loop-p-test.true in
    let from = c.loop-p.auto.p in
    let z = held (omega arith) (c.entry_or_zero-z.ensures ∙ ap₂ (entry_or_zero a.starts.now a.rows.now a.values.now) c.at-row.ensures c.at.ensures) (entry_small M e c.loop-p.p below from) in
    (slot_fits M e c.loop-p.p below from c.loop-p.list c.loop-p.invariant.met, size_is (sym z) (entry_small M e c.loop-p.p below from))

pub loop-p-preserved : goal.loop-p-preserved
loop-p-preserved c =
    let a = c.args in
    let M = c.requires.may_come in
    let e = c.requires.f_value in
    let E = track_entry a.starts.now a.rows.now a.values.now a.track.now in
    let l = c.loop-p in
    let below = c.loop-p-test.true in
    let from = c.loop-p.auto.p in
    let z = held (omega arith) (c.entry_or_zero-z.ensures ∙ ap₂ (entry_or_zero a.starts.now a.rows.now a.values.now) c.at-row.ensures c.at.ensures) (entry_small M e c.loop-p.p below from) in
    record {
      line_is = held (omega arith) (c.sum-line.ensures ∙ ap₂ ◌+ℤ◌ l.invariant.line_is z) (line_fits_next M e l.p below from) ∙ line_next M e l.p below from;
      met = subst (Met E a.c a.f (l.p + 1) a.list.now) (sym c.add_twice.ensures)
          (met_more E a.c a.f l.p a.list.now l.list l.invariant.met from _ (ap (λ (x : ℤ). whole_value l.list (l.p + 1) +ℤ (x +ℤ x)) z));
    }

pub sum-requires : goal.sum-requires
sum-requires c =
    let a = c.args in
    let M = c.requires.may_come in
    let e = c.requires.f_value in
    let E = track_entry a.starts.now a.rows.now a.values.now a.track.now in
    let at_end : c.loop-p.p ≡ a.c = omega (arith, c.loop-p-test.false, c.loop-p.auto.p-end (in_order M e).0) in
    let line = c.loop-p.invariant.line_is ∙ ap (λ (i : ℕ). line_sum E a.c a.f (i - a.f)) at_end in
    fits_both ◌+ℤ◌ line line (omega arith) (lines_fit M e)

pub sum-requires-2 : goal.sum-requires-2
sum-requires-2 c =
    let a = c.args in
    let M = c.requires.may_come in
    let e = c.requires.f_value in
    let E = track_entry a.starts.now a.rows.now a.values.now a.track.now in
    let at_end : c.loop-p.p ≡ a.c = omega (arith, c.loop-p-test.false, c.loop-p.auto.p-end (in_order M e).0) in
    let line = c.loop-p.invariant.line_is ∙ ap (λ (i : ℕ). line_sum E a.c a.f (i - a.f)) at_end in
    let own = held (omega arith) (c.entry_or_zero-own.ensures ∙ ap₂ (entry_or_zero a.starts.now a.rows.now a.values.now) c.at-row.ensures c.at-row.ensures) (own_small M e) in
    let lines = held (omega arith) (c.sum.ensures ∙ ap₂ ◌+ℤ◌ line line) (lines_fit M e) in
    fits_both ◌+ℤ◌ own lines (omega arith) (strip_fits M e)

pub returns-clause-come : goal.returns-clause-come
returns-clause-come c =
    let a = c.args in
    let M = c.requires.may_come in
    let e = c.requires.f_value in
    let E = track_entry a.starts.now a.rows.now a.values.now a.track.now in
    let l = c.loop-p in
    let at_end : l.p ≡ a.c = omega (arith, c.loop-p-test.false, l.auto.p-end (in_order M e).0) in
    let own = held (omega arith) (c.entry_or_zero-own.ensures ∙ ap₂ (entry_or_zero a.starts.now a.rows.now a.values.now) c.at-row.ensures c.at-row.ensures) (own_small M e) in
    subst (Come E a.c a.f a.list.now) (sym c.put.ensures)
    (met_all E a.c a.f a.list.now l.list (subst (λ (i : ℕ). Met E a.c a.f i a.list.now l.list) at_end l.invariant.met) (in_order M e).0 _ own)
