use lib.ListN.{set}
use mir.Syntax.{w64}
use mir.Val.{to_z, of_z}
use mir.ValLaws.{to_z-of_z}
use Rattle.exact.specs.Checked.{beyond}
use Rattle.whole_route.specs.Route.{last_step}
use mathlib.Core.Path.{◌≡◌, refl, ap, sym, ◌∙◌}
use Rattle.whole_route.proofs.store_entry.Goals as goal

z-is-Then-is_beyond : (l : goal.Then-is_beyond) → to_z w64 (of_z w64 l.last_step-z.result) ≡ last_step l.args.i l.args.j l.args.sum
z-is-Then-is_beyond l =
    to_z-of_z w64 l.last_step-z.result (record { sfits = l.last_step-z.type_inv }) ∙ l.last_step-z.ensures
    ∙ ap (last_step l.args.i l.args.j) (to_z-of_z w64 l.args.sum l.ranges.sum)

z-is-Else-is_beyond : (l : goal.Else-is_beyond) → to_z w64 (of_z w64 l.last_step-z.result) ≡ last_step l.args.i l.args.j l.args.sum
z-is-Else-is_beyond l =
    to_z-of_z w64 l.last_step-z.result (record { sfits = l.last_step-z.type_inv }) ∙ l.last_step-z.ensures
    ∙ ap (last_step l.args.i l.args.j) (to_z-of_z w64 l.args.sum l.ranges.sum)

told-Then-is_beyond : (b : goal.Then-is_beyond) →
    beyond (last_step b.args.i b.args.j b.args.sum) ≡ b.is_beyond.result
told-Then-is_beyond b = ap beyond (sym (z-is-Then-is_beyond b)) ∙ sym b.is_beyond.ensures

told-Else-is_beyond : (b : goal.Else-is_beyond) →
    beyond (last_step b.args.i b.args.j b.args.sum) ≡ b.is_beyond.result
told-Else-is_beyond b = ap beyond (sym (z-is-Else-is_beyond b)) ∙ sym b.is_beyond.ensures

pub returns-then-is_beyond : goal.returns-then-is_beyond
returns-then-is_beyond c = record { tells = sym (told-Then-is_beyond c ∙ c.if-is_beyond.true); leaves = refl }

pub returns : goal.returns
returns c = let a = c.args in
    record { tells = sym (told-Else-is_beyond c ∙ c.if-is_beyond.false); leaves = ap (set a.work.now a.q) (z-is-Else-is_beyond c) }
