use mathlib.Core.Path.{sym, ◌∙◌}
use Rattle.result.proofs.Halving.{standing_here, standing_none}
use Rattle.column_search.proofs.halving.standing_at.Goals as goal

pub returns-then-at-r : goal.returns-then-at-r
returns-then-at-r c = sym (standing_here c.args.rows.now c.args.r c.args.p (sym c.at.ensures ∙ c.if-at-r.true))

pub returns : goal.returns
returns c = sym (standing_none c.args.rows.now c.args.r c.args.p (λ q. c.if-at-r.false (c.at.ensures ∙ q)))
