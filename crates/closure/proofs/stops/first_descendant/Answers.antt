use Rattle.lists.specs.Test.{any_in_none, any_in_more}
use native.Mathlib.Omega.{arith}
use mathlib.Core.Path.{◌≡◌, sym, ◌∙◌}
use Rattle.closure.proofs.stops.first_descendant.Goals as goal

pub loop-q-init : goal.loop-q-init
loop-q-init g c = any_in_none _ _

pub kept_below-requires : goal.kept_below-requires
kept_below-requires g c = (omega (arith, c.requires.column.stored), omega (arith, c.requires.column.stored, c.requires.values_lent))

pub returns-then-kept_below : goal.returns-then-kept_below
returns-then-kept_below g c = let i = c.loop-q in
    record { from = i.auto.q; upto = omega arith; before = i.invariant; kept = λ l. sym c.kept_below.ensures ∙ c.if-kept_below.true }

pub loop-q-preserved : goal.loop-q-preserved
loop-q-preserved g c = let i = c.loop-q in
    any_in_more _ _ _ i.auto.q i.invariant (sym c.kept_below.ensures ∙ c.if-kept_below.false)

pub returns : goal.returns
returns g c = let i = c.loop-q in
    let h = c.requires.column.ordered in
    let e : i.q ≡ c.args.e = omega arith in
    record { from = h; upto = omega arith; before = rw e at i.invariant; kept = λ l. absurd (omega arith) }
