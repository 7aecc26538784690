use Prim.Native.Nat.{◌*◌, min}
use native.Mathlib.Omega.{arith}
use mathlib.Core.Path.{◌≡◌, ap₂, ◌∙◌}
use Rattle.lists.specs.Select.{tally}
use Rattle.bits.specs.Bits.{bit_at}
use Rattle.pattern_lists.proofs.CountLaws.{stored_less, count_past}
use Rattle.pattern_lists.proofs.marks.count_eight.Goals as goal

pub returns-then-end-place : goal.returns-then-end-place
returns-then-end-place c = let a = c.args in
    count_past a.end (a.w * 32) 256 a.marks.now c.if-end-place.true

pub count_bits-requires : goal.count_bits-requires
count_bits-requires c = let I = c.requires.0 in
    let e = c.min.ensures in
    (omega (arith, e, c.if-end-place.false), omega (arith, e, I.small), stored_less I c.min.result (omega (arith, e)))

pub returns : goal.returns
returns c = let e = c.min.ensures in
    let a = c.args in
    let q : a.w * 32 ≡ min a.end (a.w * 32) = omega (arith, c.if-end-place.false) in
    c.count_bits.ensures ∙ ap₂ (tally (bit_at a.marks.now)) q e
