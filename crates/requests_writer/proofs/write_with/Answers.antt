use mathlib.Core.Path.{◌∙◌}
use Rattle.requests_writer.proofs.WriterLaws.{set_requests}
use Rattle.requests_writer.proofs.write_with.Goals as goal

pub write_marked-requires : goal.write_marked-requires
write_marked-requires c = (c.requires.small, c.mark_requests.ensures.long ∙ c.requires.all)

pub returns : goal.returns
returns c = let a = c.args in
    set_requests a.n a.rows.now a.columns.now a.marks.now a.text.now c.mark_requests.ensures c.write_marked.ensures
