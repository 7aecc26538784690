use Rattle.case_text.specs.Text.{past_blanks, number_at}
use mathlib.Core.Path.{ap, ◌∙◌}
use Rattle.case_text.proofs.fields.number_field.Goals as goal

pub returns : goal.returns
returns c = let text = c.args.text.now in
    c.decimal.ensures ∙ ap (number_at 10 text) (c.skip_blanks.ensures ∙ ap (past_blanks text) c.skip_to.ensures)
