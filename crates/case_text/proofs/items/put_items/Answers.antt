use Rattle.std.proofs.Common.{arith, ◌<◌, length}
use Rattle.case_text.specs.Items.{placed}
use Rattle.case_text.proofs.ItemLaws.{past_items_none, item-read, item-past, filled-step}
use Rattle.lists.specs.Overwrite.{filled_none}
use Rattle.case_text.proofs.items.put_items.Goals as goal

pub loop-i-init : goal.loop-i-init
loop-i-init g c = (past_items_none _ _, filled_none _ _)

pub loop-i-preserved : goal.loop-i-preserved
loop-i-preserved g c =
    let at = c.loop-i in
    let room : at.i < length c.args.list.now = omega arith in
    let e = at.invariant.0 in
    let a = c.skip_blanks-q.ensures in
    (item-past _ _ _ _ _ e a _ c.skip_word-q.ensures, filled-step (placed g.F.Form.here c.args.text.now c.args.p) _ _ _ _ room (item-read _ _ _ _ _ e a g.F.Form.here _ c.read-item.ensures) at.invariant.1)
