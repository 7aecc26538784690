use Rattle.track_variances.proofs.Laws.{width_none, width_wide, width_long, width_passed}
use Rattle.track_variances.proofs.checks.check_width.Goals as goal

pub returns-then-width-eq0 : goal.returns-then-width-eq0
returns-then-width-eq0 c = width_none _ _ c.if-width-eq0.true

pub returns-then-width-gt-MAX_WIDTH : goal.returns-then-width-gt-MAX_WIDTH
returns-then-width-gt-MAX_WIDTH c = width_wide _ _ c.if-width-eq0.false c.if-width-gt-MAX_WIDTH.true

pub returns-then-cells-width : goal.returns-then-cells-width
returns-then-cells-width c = width_long _ _ c.if-width-eq0.false c.if-width-gt-MAX_WIDTH.false c.if-cells-width.true

pub returns : goal.returns
returns c = width_passed _ _ c.if-width-eq0.false c.if-width-gt-MAX_WIDTH.false c.if-cells-width.false
