use Prim.Native.Nat.{ℕ, ◌<◌}
use native.Mathlib.Omega.{arith}
use mathlib.Core.List.{List}
use mathlib.Core.Path.{◌≡◌, ap, ◌∙◌}
use lib.ListN.{set, length}
use lib.Ieee.{Float, nan}
use Rattle.lists.specs.Overwrite.{filled, filled_none, filled_more}
use Rattle.columns.specs.Kept.{f0}
use Rattle.result.specs.Lookup.{dimension, diagonal_of, mark_of, diagonals, coverage}
use Rattle.lookup.proofs.diagonal_list.write_diagonals.Goals as goal

pub loop-c-init : goal.loop-c-init
loop-c-init c = (filled_none _ _, filled_none _ _)

pub loop-c-preserved : goal.loop-c-preserved
loop-c-preserved c =
    let l = c.loop-c in
    let a = c.args in
    let f = diagonal_of nan f0 a.starts.now a.rows.now a.values.now in
    let g = mark_of nan a.starts.now a.rows.now a.values.now in
    let room : l.c < length a.output.now = omega (arith, c.loop-c-test.true, c.requires.starts_in_bounds) in
    let marks-room : l.c < length a.marks.now = omega (arith, c.loop-c-test.true, c.requires.starts_in_bounds) in (
      ap (set l.output l.c) c.diagonal-d.ensures.value_value
          ∙ ap (λ (x : List Float). set x l.c (f l.c)) l.invariant.0
          ∙ filled_more f a.output.now l.c room,
      ap (set l.marks l.c) c.diagonal-d.ensures.mark_value
          ∙ ap (λ (x : List ℕ). set x l.c (g l.c)) l.invariant.1
          ∙ filled_more g a.marks.now l.c marks-room,
    )

pub returns : goal.returns
unfolding diagonals coverage filled
returns c =
    let l = c.loop-c in
    let a = c.args in
    let e : l.c ≡ dimension a.starts.now = omega (arith, c.loop-c-test.false, l.auto.c-end) in
    record {
      output_after = l.invariant.0 ∙ ap (λ (k : ℕ). filled (diagonal_of nan f0 a.starts.now a.rows.now a.values.now) k a.output.now) e;
      marks_after = l.invariant.1 ∙ ap (λ (k : ℕ). filled (mark_of nan a.starts.now a.rows.now a.values.now) k a.marks.now) e;
    }
