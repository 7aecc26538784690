use Prim.Native.Nat.{◌-◌}
use Rattle.columns.specs.Kept.{nonzero, pattern}
use Rattle.levels.specs.Levels.{level_word}
use Rattle.levels.specs.Back.{levels_back}
use Rattle.levels.proofs.WriteLaws.{Writing}
use Rattle.levels.proofs.chain.write_chain.Given as goal

abbrev pub invariant-loop-k : goal.invariant-loop-k
invariant-loop-k l = Writing (pattern l.starts l.rows (nonzero l.values)) (level_word l.n l.scratch) (levels_back (pattern l.starts l.rows (nonzero l.values)) (level_word l.n l.scratch) (l.level - 1) l.r l.c) l.n l.row l.column l.k
    l.initial.chain_rows l.initial.chain_columns l.chain_rows l.chain_columns
