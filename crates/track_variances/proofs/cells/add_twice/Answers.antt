use native.Mathlib.Omega.{arith}
use mathlib.Core.Path.{refl, ap, ap₂, sym, ◌∙◌}
use lib.ListN.{set}
use lib.Seq.{set_out}
use lib.IntN.{ℤ, ◌+ℤ◌}
use Rattle.integers.proofs.Size.{size_sum}
use Rattle.whole_steps.specs.Machine.{held, fits_both}
use Rattle.track_variances.proofs.cells.add_twice.Goals as goal

pub returns-then-list-t : goal.returns-then-list-t
returns-then-list-t c = sym (set_out _ _ _ c.if-list-t.true)

pub sum-requires : goal.sum-requires
sum-requires c =
    let z = held {y = c.args.z} (omega arith) refl c.requires.1 in
    fits_both ◌+ℤ◌ z z (omega arith) (size_sum c.requires.1 c.requires.1)

pub sum-requires-2 : goal.sum-requires-2
sum-requires-2 c =
    let z = held {y = c.args.z} (omega arith) refl c.requires.1 in
    let there = held (omega arith) c.whole_at-there.ensures c.requires.0 in
    let two = size_sum c.requires.1 c.requires.1 in
    let twice = held (omega arith) (c.sum.ensures ∙ ap₂ ◌+ℤ◌ z z) two in
    fits_both ◌+ℤ◌ there twice (omega arith) (size_sum c.requires.0 two)

pub returns : goal.returns
returns c =
    let z = held {y = c.args.z} (omega arith) refl c.requires.1 in
    let there = held (omega arith) c.whole_at-there.ensures c.requires.0 in
    let two = size_sum c.requires.1 c.requires.1 in
    let twice = held (omega arith) (c.sum.ensures ∙ ap₂ ◌+ℤ◌ z z) two in
    ap (λ (x : ℤ). set c.args.list.now c.args.t x) (held (omega arith) (c.sum-2.ensures ∙ ap₂ ◌+ℤ◌ there twice) (size_sum c.requires.0 two))
