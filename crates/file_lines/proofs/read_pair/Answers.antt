use Rattle.file_lines.proofs.PlaceLaws.{form_none, form_more, pair_not, pair_cut, pair_whole}
use mathlib.Core.Path.{◌∙◌}
use Rattle.file_lines.proofs.read_pair.Goals as goal

pub returns-in_err-a : goal.returns-in_err-a
returns-in_err-a c = rw c.from_residual.ensures (let a = c.args in pair_not _ _ (form_none 1 a.text.now a.p c.in_err-a.ensures))

pub returns-in_err-b : goal.returns-in_err-b
returns-in_err-b c = rw c.from_residual-in_err-b.ensures (pair_not _ _ (form_more 1 _ _ _ _ c.in_ok-a.ensures ∙ form_none 0 c.args.text.now c.in_ok-a.a.next c.in_err-b.ensures))

pub returns-in_default : goal.returns-in_default
returns-in_default c = pair_cut _ _ _ _ c.in_ok-a.ensures _ _ _ c.in_ok-b.ensures c.in_default.ensures

pub returns : goal.returns
returns c = pair_whole _ _ _ _ c.in_ok-a.ensures _ _ _ c.in_ok-b.ensures c.in-Ok.ensures
