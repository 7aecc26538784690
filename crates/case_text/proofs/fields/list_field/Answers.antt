use Rattle.case_text.specs.Items.{placed}
use Rattle.case_text.proofs.ItemLaws.{listing_at}
use Rattle.case_text.proofs.fields.list_field.Goals as goal

pub returns : goal.returns
returns g c = listing_at (placed g.F.Form.here) _ _ _ _ c.skip_to.ensures c.read_list.ensures
