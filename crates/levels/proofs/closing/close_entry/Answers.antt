use Prim.Native.Nat.{ℕ}
use mathlib.Core.Path.{ap, sym, ◌∙◌}
use mathlib.Core.Bool.{Bool, ◌&&◌}
use Rattle.pairs.specs.Pair.{ordered}
use Rattle.columns.specs.Columns.{row}
use Rattle.levels.specs.Levels.{raised_none, raised_cong}
use Rattle.levels.proofs.closing.close_entry.Goals as goal

pub returns-then-kept_below : goal.returns-then-kept_below
returns-then-kept_below c = let g = c.args in
    raised_cong
    (λ x y o l.
    ap (λ (d : ℕ). ordered g.r d x y) c.at.ensures
    ∙ sym (ap (λ (b : Bool). b && ordered g.r (row g.rows.now g.p) x y) (sym c.kept_below.ensures ∙ c.if-kept_below.true)))
    c.insert_level.ensures

pub returns : goal.returns
returns c = let g = c.args in
    raised_none _ (λ x y. ap (λ (b : Bool). b && ordered g.r (row g.rows.now g.p) x y) (sym c.kept_below.ensures ∙ c.if-kept_below.false)) c.requires.levels
