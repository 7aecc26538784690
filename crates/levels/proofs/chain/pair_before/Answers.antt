use native.Mathlib.Omega.{arith}
use Prim.Native.Nat.{ℕ}
use mathlib.Core.Path.{◌≡◌, ap₂, sym, subst, ◌∙◌}
use mathlib.Core.Bool.{false, ◌||◌}
use Rattle.lists.specs.Test.{any, any_none, any_more}
use Rattle.columns.specs.Kept.{nonzero, pattern}
use Rattle.levels.specs.Levels.{level_word}
use Rattle.levels.proofs.BackLaws.{either, back_above, back_beside, back_none}
use Rattle.levels.proofs.chain.pair_before.Goals as goal

pub loop-j-init : goal.loop-j-init
loop-j-init c = any_none _

pub leads-requires : goal.leads-requires
leads-requires c = let B = c.requires in
    record { small = B.small; factor = B.factor; room = B.room; ordered = omega (arith, B.ordered); inside = omega (arith, B.ordered, B.inside) }

pub returns-then-leads : goal.returns-then-leads
returns-then-leads c = let a = c.args in
    let desc = pattern a.starts.now a.rows.now (nonzero a.values.now) in
    let W = level_word a.n a.scratch.now in
    let told = back_above desc W a.level a.r a.c c.loop-j.j c.loop-j.auto.j-end c.loop-j.invariant (sym c.leads.ensures ∙ c.if-leads.true) in
    record { row_value = told.0; column_value = told.1 }

pub leads-requires-in-loop-j : goal.leads-requires-in-loop-j
leads-requires-in-loop-j c = let B = c.requires in
    record { small = B.small; factor = B.factor; room = B.room; ordered = omega (arith, B.ordered); inside = omega (arith, B.ordered, B.inside) }

pub returns-then-leads-2 : goal.returns-then-leads-2
returns-then-leads-2 c = let a = c.args in
    let desc = pattern a.starts.now a.rows.now (nonzero a.values.now) in
    let W = level_word a.n a.scratch.now in
    let told = back_beside desc W a.level a.r a.c c.loop-j.j c.loop-j.auto.j-end c.loop-j.invariant (sym c.leads.ensures ∙ c.if-leads.false) (sym c.leads-in-loop-j.ensures ∙ c.if-leads-2.true) in
    record { row_value = told.0; column_value = told.1 }

pub loop-j-preserved : goal.loop-j-preserved
loop-j-preserved c = let a = c.args in
    let desc = pattern a.starts.now a.rows.now (nonzero a.values.now) in
    let W = level_word a.n a.scratch.now in
    let t : either desc W a.level a.r a.c c.loop-j.j ≡ false = ap₂ ◌||◌ (sym c.leads.ensures ∙ c.if-leads.false) (sym c.leads-in-loop-j.ensures ∙ c.if-leads-2.false) in
    any_more (either desc W a.level a.r a.c) c.loop-j.j c.loop-j.invariant t

pub leads-requires-2 : goal.leads-requires-2
leads-requires-2 c = let B = c.requires in
    record { small = B.small; factor = B.factor; room = B.room; ordered = omega (arith, B.ordered); inside = omega (arith, B.ordered, B.inside) }

pub returns-then-leads-3 : goal.returns-then-leads-3
returns-then-leads-3 c = let a = c.args in
    let desc = pattern a.starts.now a.rows.now (nonzero a.values.now) in
    let W = level_word a.n a.scratch.now in
    let e : c.loop-j.j ≡ a.c = omega arith in
    let told = back_above desc W a.level a.r a.c a.c (omega arith) (subst (λ (k : ℕ). any (either desc W a.level a.r a.c) k ≡ false) e c.loop-j.invariant) (sym c.leads-2.ensures ∙ c.if-leads-3.true) in
    record { row_value = told.0; column_value = told.1 }

pub returns : goal.returns
returns c = let a = c.args in
    let desc = pattern a.starts.now a.rows.now (nonzero a.values.now) in
    let W = level_word a.n a.scratch.now in
    let e : c.loop-j.j ≡ a.c = omega arith in
    let told = back_none desc W a.level a.r a.c (subst (λ (k : ℕ). any (either desc W a.level a.r a.c) k ≡ false) e c.loop-j.invariant) (sym c.leads-2.ensures ∙ c.if-leads-3.false) in
    record { row_value = told.0; column_value = told.1 }
