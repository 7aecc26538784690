use mathlib.Core.Path.{sym, ◌∙◌}
use Rattle.weight_ranges.proofs.Laws.{row_lows, row_highs, row_outside, row_repeated, row_passed}
use Rattle.weight_ranges.proofs.Repeats.{repeats}
use Rattle.weight_ranges.proofs.checks.check_row.Goals as goal

pub returns-then-columns-lows : goal.returns-then-columns-lows
returns-then-columns-lows c = row_lows _ _ _ _ c.if-columns-lows.true

pub returns-then-columns-highs : goal.returns-then-columns-highs
returns-then-columns-highs c = row_highs _ _ _ _ c.if-columns-lows.false c.if-columns-highs.true

pub returns-then-index_outside : goal.returns-then-index_outside
returns-then-index_outside c = row_outside _ _ _ _ c.if-columns-lows.false c.if-columns-highs.false (sym c.index_outside.ensures ∙ c.if-index_outside.true)

pub returns-then-n-columns : goal.returns-then-n-columns
returns-then-n-columns c = let inside = sym c.index_outside.ensures ∙ c.if-index_outside.false in
    row_repeated _ _ _ _ c.if-columns-lows.false c.if-columns-highs.false inside (repeats c.args.n c.args.columns.now inside c.if-n-columns.true)

pub returns-then-some_repeated : goal.returns-then-some_repeated
returns-then-some_repeated c = row_repeated _ _ _ _ c.if-columns-lows.false c.if-columns-highs.false (sym c.index_outside.ensures ∙ c.if-index_outside.false) (sym c.some_repeated.ensures ∙ c.if-some_repeated.true)

pub returns : goal.returns
returns c = row_passed _ _ _ _ c.if-columns-lows.false c.if-columns-highs.false (sym c.index_outside.ensures ∙ c.if-index_outside.false) (sym c.some_repeated.ensures ∙ c.if-some_repeated.false)
