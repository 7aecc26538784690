use Rattle.pairs.proofs.Pair.{ordered_turned}
use Rattle.levels.specs.Levels.{raised_cong}
use Rattle.levels.proofs.insert_level.Goals as goal

-- src/lib.rt:45:9
pub returns-then-a-b : goal.returns-then-a-b
returns-then-a-b c = let a = c.args in
    raised_cong (λ r k o l. ordered_turned a.b a.a r k) c.insert_ordered_level.ensures
