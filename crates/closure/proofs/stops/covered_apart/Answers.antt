use Rattle.closure.specs.Covered.{covered_none, covered_more}
use borrow.Author.Rules.{rules}
use native.Mathlib.Omega.{arith}
use mathlib.Core.Path.{◌≡◌}
use mathlib.Core.Bool.{false≢true}
use Rattle.closure.proofs.stops.covered_apart.Goals as goal

pub loop-i-init : goal.loop-i-init
loop-i-init g c = (search rules, search rules, covered_none)

pub next_place-j-requires : goal.next_place-j-requires
next_place-j-requires g c = record { place_input = search rules; values_lent = c.requires.values_lent }

pub returns-then-e-j : goal.returns-then-e-j
returns-then-e-j g c t = absurd (false≢true t)

pub loop-i-preserved : goal.loop-i-preserved
loop-i-preserved g c = let l = c.loop-i in
    let P = c.next_place-j.ensures in
    (omega (arith, P.from), P.upto, covered_more l.invariant.0 l.invariant.2 P c.if-e-j.false)

pub returns : goal.returns
returns g c t = let l = c.loop-i in
    let q : l.i ≡ c.args.b = omega (arith, c.requires.covered_input.ordered) in
    rw q at l.invariant.2
