use borrow.Author.Tests.{not-true}
use Rattle.closure.specs.Covered.{place_zero, place_none}
use mathlib.Core.Path.{sym, ◌∙◌}
use Rattle.std.proofs.Common.{ap}
use Rattle.std.specs.Prelude.{not}
use Rattle.closure.proofs.stops.next_place.Goals as goal

pub returns-then-not-is_kept : goal.returns-then-not-is_kept
returns-then-not-is_kept g c = place_zero _ _ c.requires.place_input.ordered (sym c.is_kept.ensures ∙ not-true _ (ap not c.if-not-is_kept.true))

pub returns-then-is_kept : goal.returns-then-is_kept
returns-then-is_kept g c = record {
  from = c.first_from-k.ensures.from;
  upto = c.first_from-k.ensures.upto;
  kept = λ l t. sym c.is_kept-then-at-r.ensures ∙ c.if-is_kept.true;
  same = λ l t. sym c.at.ensures ∙ c.if-at-r.true ∙ c.at-r.ensures;
}

pub returns-else-is_kept : goal.returns-else-is_kept
returns-else-is_kept g c = place_none c.requires.place_input.ordered

pub returns-else-at-r : goal.returns-else-at-r
returns-else-at-r g c = place_none c.requires.place_input.ordered

pub returns-else-k-e : goal.returns-else-k-e
returns-else-k-e g c = place_none c.requires.place_input.ordered
