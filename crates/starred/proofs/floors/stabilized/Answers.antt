use Rattle.starred_table.specs.Stabilized.{stabilized_as}
use lib.Ieee.{eq}
use borrow.Author.Tests.{eq-eqb, ne_eqb}
use mathlib.Core.Bool.{Bool, ◌&&◌}
use Prim.Native.Nat.{◌-◌}
use mathlib.Core.Path.{ap, sym, ◌∙◌}
use Rattle.std.specs.Prelude.{Result}
use Rattle.refusal.specs.declared.Refusal.{Refusal}
use Rattle.floor.specs.declared.StabilizedVariance.{StabilizedVariance}
use Rattle.refusal.specs.Refusal.{reply_of}
use Rattle.starred.proofs.floors.stabilized.Goals as goal

pub returns-then-v-hits : goal.returns-then-v-hits
returns-then-v-hits c = let a = c.args in
    sym
    (ap (λ (x : Result StabilizedVariance Refusal). stabilized_as (reply_of x) a.floor a.hits) c.in-Ok.is
    ∙ ap (λ (b : Bool). b && eq c.in-Ok.v.floor a.floor) (ne_eqb _ _ c.if-v-hits.true))

pub returns-else-v-hits : goal.returns-else-v-hits
returns-else-v-hits c = let a = c.args in
    sym
    (ap (λ (x : Result StabilizedVariance Refusal). stabilized_as (reply_of x) a.floor a.hits) c.in-Ok.is
    ∙ ap (λ (b : Bool). b && eq c.in-Ok.v.floor a.floor) (eq-eqb _ _ c.if-v-hits.false))
