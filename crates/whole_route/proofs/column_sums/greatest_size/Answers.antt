use mathlib.Core.Path.{ap, ◌∙◌}
use lib.IntN.{nat_abs}
use mir.Syntax.{w64}
use mir.ValLaws.{to_z-of_z}
use Rattle.whole_route.proofs.FitLaws.{sizes_none, sizes_more}
use Rattle.whole_route.proofs.column_sums.greatest_size.Goals as goal

pub loop-p-init : goal.loop-p-init
loop-p-init c = sizes_none _ _ _

pub loop-p-preserved : goal.loop-p-preserved
loop-p-preserved c =
    sizes_more c.loop-p.invariant
    (c.size.ensures ∙ ap nat_abs (to_z-of_z w64 c.whole_at.result (record { sfits = c.whole_at.type_inv }) ∙ c.whole_at.ensures)) c.max-most.ensures
