use Rattle.fill.specs.KeptPattern.{unmarked_at}
use Rattle.lists.specs.Test.{any_in_none, any_in_more, any_in-hit}
use mathlib.Core.Path.{subst, ◌≡◌, sym, ◌∙◌}
use mathlib.Core.Bool.{true, false}
use native.Mathlib.Omega.{arith}
use Prim.Native.Nat.{ℕ, ◌<◌}
use Rattle.fill.proofs.kept_pattern.unmarked_column.Goals as goal

pub loop-p-init : goal.loop-p-init
loop-p-init c = any_in_none _ _

pub unmarked_entry-requires : goal.unmarked_entry-requires
unmarked_entry-requires c = let i = c.loop-p in
    (c.requires.small, subst (λ (k : ℕ). k < c.args.n) (sym c.at.ensures) (c.requires.inside i.p i.auto.p (omega arith)), c.requires.room)

pub returns-then-unmarked_entry : goal.returns-then-unmarked_entry
returns-then-unmarked_entry c = let z = c.args in
    let i = c.loop-p in
    let t : unmarked_at z.n z.scratch.now z.rows.now z.values.now z.c i.p ≡ true =
    rw (← c.at.ensures) (sym c.unmarked_entry.ensures ∙ c.if-unmarked_entry.true) in
    sym (any_in-hit (unmarked_at z.n z.scratch.now z.rows.now z.values.now z.c) z.s z.e i.p i.auto.p (omega arith) t)

pub loop-p-preserved : goal.loop-p-preserved
loop-p-preserved c = let z = c.args in
    let i = c.loop-p in
    let t : unmarked_at z.n z.scratch.now z.rows.now z.values.now z.c i.p ≡ false =
    rw (← c.at.ensures) (sym c.unmarked_entry.ensures ∙ c.if-unmarked_entry.false) in any_in_more (unmarked_at z.n z.scratch.now z.rows.now z.values.now z.c) z.s i.p i.auto.p
    i.invariant t
