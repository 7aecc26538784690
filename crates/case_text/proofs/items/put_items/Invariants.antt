use Rattle.std.specs.Prelude.{◌≡◌}
use Rattle.case_text.specs.Items.{past_items, placed}
use Rattle.lists.specs.Overwrite.{filled}
use Rattle.case_text.proofs.items.put_items.Given as goal

abbrev pub invariant-loop-i : goal.invariant-loop-i
invariant-loop-i g l = (l.q ≡ past_items l.text l.p l.i) × (l.list ≡ filled (placed g.F.Form.here l.text l.p) l.i l.initial.list)
