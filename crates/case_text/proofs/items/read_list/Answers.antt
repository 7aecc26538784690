use Rattle.std.proofs.Common.{◌∙◌}
use Rattle.case_text.specs.Items.{placed}
use Rattle.case_text.proofs.TextLaws.{smaller}
use Rattle.case_text.proofs.ItemLaws.{listing}
use Rattle.case_text.proofs.items.read_list.Goals as goal

pub returns : goal.returns
returns g c = listing (placed g.F.Form.here) _ _ _ _ _ _ _ _ c.skip_blanks-at.ensures c.decimal-items.ensures c.skip_word.ensures
    (c.min-count.ensures ∙ smaller _ _) c.put_items.ensures
