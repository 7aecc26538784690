use Rattle.file_lines.proofs.PlaceLaws.{form_none, form_more, triple_not, triple}
use mathlib.Core.Path.{sym, ◌∙◌}
use Rattle.file_lines.proofs.read_triple.Goals as goal

pub returns-in_err-a : goal.returns-in_err-a
returns-in_err-a c = rw c.from_residual.ensures (let a = c.args in triple_not _ _ (form_none 2 a.text.now a.p c.in_err-a.ensures))

pub returns-in_err-rest : goal.returns-in_err-rest
returns-in_err-rest c =
    rw c.from_residual-in_err-rest.ensures (triple_not _ _ (form_more 2 _ _ _ _ c.in_ok-a.ensures ∙ sym c.in_err-rest.ensures.line.shaped))

pub returns : goal.returns
returns c = triple _ _ _ _ c.in_ok-a.ensures _ _ _ c.in_ok-rest.ensures
