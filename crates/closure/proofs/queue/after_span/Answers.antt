use mathlib.Core.Bool.{Bool, cond}
use mathlib.Core.Path.{sym, ap, ◌∙◌}
use lib.ListN.{get_or}
use borrow.Author.Tests.{eq-eqb, ne_eqb}
use Rattle.closure.proofs.queue.after_span.Goals as goal

pub returns-then-at-head : goal.returns-then-at-head
returns-then-at-head c = let s = c.args in
    c.at-then-at-head.ensures
    ∙ sym (ap (λ (b : Bool). cond b (get_or s.span_ends.now s.c 0) s.head) (eq-eqb _ _ (sym c.at.ensures ∙ c.if-at-head.true)))

pub returns : goal.returns
returns c = let s = c.args in
    sym (ap (λ (b : Bool). cond b (get_or s.span_ends.now s.c 0) s.head) (ne_eqb _ _ (λ q. c.if-at-head.false (c.at.ensures ∙ q))))
