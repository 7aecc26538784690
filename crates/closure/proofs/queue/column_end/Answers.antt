use mathlib.Core.Logic.{inl, inr}
use native.Mathlib.Omega.{arith}
use mathlib.Core.Path.{refl}
use Rattle.closure.proofs.queue.column_end.Goals as goal

pub overflow_sub-stop : goal.overflow_sub-stop
overflow_sub-stop c = omega (arith, c.requires.after (omega (arith, c.at-end.ensures, c.if-stop-end.true)))

pub returns-then-at-r : goal.returns-then-at-r
returns-then-at-r c = inr (omega (arith, c.at-end.ensures, c.if-stop-end.true), refl, omega (arith, c.at.ensures, c.if-at-r.true))

pub returns-else-at-r : goal.returns-else-at-r
returns-else-at-r c = inl c.at-end.ensures

pub returns-else-stop-end : goal.returns-else-stop-end
returns-else-stop-end c = inl c.at-end.ensures
