use native.Mathlib.Omega.{arith}
use Prim.Native.Nat.{ℕ, ◌-◌, ◌+◌}
use mathlib.Core.Path.{◌≡◌, ap, sym, ◌∙◌}
use lib.ListN.{length}
use Prim.Native.Nat.{◌/◌}
use mathlib.Core.Path.{subst}
use lib.ListN.{set, length-set}
use Rattle.matrix_market.specs.Decimal.{decimal}
use Rattle.matrix_market.proofs.Decimal.{decimal_some, decimal_longer}
use Rattle.requests_writer.specs.Lines.{Wrote}
use Rattle.requests_writer.proofs.ByteLaws.{LastDigits, digits_start, digits_inside, digits_more, digits_end_lem}
use Rattle.requests_writer.proofs.numbers.write_number.Goals as goal

pub overflow_add-next : goal.overflow_add-next
overflow_add-next c = omega (arith, c.number_length.ensures, c.requires)

pub overflow_sub-i : goal.overflow_sub-i
overflow_sub-i c = omega (arith, c.number_length.ensures, decimal_some c.args.x)

pub loop-y-init : goal.loop-y-init
loop-y-init c = let a = c.args in
    let e : a.place + c.number_length.result - 1 + 1 ≡ a.place + length (decimal a.x) = omega (arith, c.number_length.ensures, decimal_some a.x) in
    (digits_start a.x a.place a.text.now c.requires _ e, ap (λ (k : ℕ). a.place + k) c.number_length.ensures)

pub bounds-text-i : goal.bounds-text-i
bounds-text-i c = digits_inside _ _ _ c.requires _ _ _ c.loop-y.invariant.0

pub overflow_sub-i-in-loop-y : goal.overflow_sub-i-in-loop-y
overflow_sub-i-in-loop-y c = let l = c.loop-y in
    omega (arith, l.invariant.0.place_is, decimal_longer l.y c.loop-y-test.true, decimal_some (l.y / 10))

pub loop-y-preserved : goal.loop-y-preserved
loop-y-preserved c = let l = c.loop-y in
    let a = c.args in
    (subst (λ (d : ℕ). LastDigits a.x a.place a.text.now (set l.text l.i d) (l.i - 1) (l.y / 10)) (sym c.digit_byte.ensures) (digits_more _ _ _ c.requires _ _ _ l.invariant.0 c.loop-y-test.true), l.invariant.1)

pub bounds-text-i-2 : goal.bounds-text-i-2
bounds-text-i-2 c = digits_inside _ _ _ c.requires _ _ _ c.loop-y.invariant.0

pub shape_of-text : goal.shape_of-text
shape_of-text c = length-set c.loop-y.text c.loop-y.i _ ∙ c.loop-y.invariant.0.long

pub returns : goal.returns
returns c = let l = c.loop-y in
    let a = c.args in
    subst (λ (d : ℕ). Wrote (decimal a.x) a.place a.text.now (set l.text l.i d) (a.place + c.number_length.result)) (sym c.digit_byte-2.ensures) (digits_end_lem _ _ _ c.requires _ _ _ l.invariant.0 c.loop-y-test.false _ l.invariant.1)
