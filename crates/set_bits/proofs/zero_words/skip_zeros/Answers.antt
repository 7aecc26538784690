use native.Mathlib.Omega.{arith}
use mathlib.Core.Path.{◌≡◌}
use Rattle.set_bits.proofs.ZeroLaws.{zeros_more}
use Rattle.set_bits.proofs.zero_words.skip_zeros.Goals as goal

pub loop-w-init : goal.loop-w-init
loop-w-init c = c.skip_fours-start.ensures

pub returns-then-words-w-ne0 : goal.returns-then-words-w-ne0
returns-then-words-w-ne0 c = record { before = c.loop-w.invariant; stops = λ l. c.if-words-w-ne0.true }

pub loop-w-preserved : goal.loop-w-preserved
loop-w-preserved c = zeros_more c.loop-w.invariant c.loop-w-test.true c.if-words-w-ne0.false

pub returns : goal.returns
returns c =
    let e : c.loop-w.w ≡ c.args.end = omega (arith, c.loop-w.invariant.upto) in
    record { before = rw e at c.loop-w.invariant; stops = λ l. absurd (omega arith) }
