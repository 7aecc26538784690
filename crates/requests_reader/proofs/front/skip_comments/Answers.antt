use Rattle.requests_reader.proofs.HeaderLaws.{skip_comments_start, skip_comments_more, skip_comments_stop, skip_comments_end}
use borrow.Author.Rules.{rules}
use native.Mathlib.Omega.{arith}
use mathlib.Core.Path.{refl}
use Rattle.requests_reader.proofs.front.skip_comments.Goals as goal

pub loop-i-init : goal.loop-i-init
loop-i-init c = skip_comments_start _ _ (search rules)

pub returns-in_default : goal.returns-in_default
returns-in_default c = skip_comments_stop _ _ _ c.loop-i.invariant (search rules) c.in_default.ensures

pub loop-i-smaller : goal.loop-i-smaller
loop-i-smaller c = omega (arith, c.in-Some.ensures.past_it refl)

pub loop-i-preserved : goal.loop-i-preserved
loop-i-preserved c = skip_comments_more _ _ _ c.loop-i.invariant (search rules) _ c.in-Some.ensures

pub returns : goal.returns
returns c = skip_comments_end _ _ _ c.loop-i.invariant (search rules)
