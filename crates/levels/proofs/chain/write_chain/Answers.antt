use native.Mathlib.Omega.{arith}
use Prim.Native.Nat.{◌-◌, ◌+◌}
use mathlib.Core.Path.{◌≡◌, ◌∙◌}
use Rattle.columns.specs.Kept.{nonzero, pattern}
use Rattle.levels.specs.Levels.{level_word}
use Rattle.levels.specs.Back.{levels_back, levels_back-length}
use Rattle.levels.specs.Written.{rows_of, columns_of}
use Rattle.levels.proofs.BackLaws.{back_range}
use Rattle.levels.proofs.WriteLaws.{overwrite_set, map_long, writing_last, writing_step, writing_end}
use Rattle.levels.proofs.chain.write_chain.Goals as goal

pub loop-k-init : goal.loop-k-init
loop-k-init c = let I = c.requires in
    let a = c.args in
    let desc = pattern a.starts.now a.rows.now (nonzero a.values.now) in
    writing_last desc (level_word a.n a.scratch.now) a.n a.r a.c (a.level - 1) a.chain_rows.now a.chain_columns.now I.back.ordered I.back.inside (omega (arith, I.positive, I.rows_room)) (omega (arith, I.positive, I.columns_room))

pub pair_before-before-requires : goal.pair_before-before-requires
pair_before-before-requires c = let B = c.requires.back in
    let T = c.loop-k.invariant in
    record { small = B.small; factor = B.factor; room = B.room; ordered = T.ordered; inside = T.inside }

pub overflow_cast-chain_rows-in-loop-k : goal.overflow_cast-chain_rows-in-loop-k
overflow_cast-chain_rows-in-loop-k c = let a = c.args in
    let desc = pattern a.starts.now a.rows.now (nonzero a.values.now) in
    let g = back_range desc (level_word a.n a.scratch.now) (c.loop-k.k - 1 + 1) c.loop-k.row c.loop-k.column c.loop-k.invariant.ordered in
    omega (arith, c.pair_before-before.ensures.row_value, g.1, c.loop-k.invariant.inside, c.requires.back.small)

pub overflow_cast-chain_columns-in-loop-k : goal.overflow_cast-chain_columns-in-loop-k
overflow_cast-chain_columns-in-loop-k c = let a = c.args in
    let desc = pattern a.starts.now a.rows.now (nonzero a.values.now) in
    let g = back_range desc (level_word a.n a.scratch.now) (c.loop-k.k - 1 + 1) c.loop-k.row c.loop-k.column c.loop-k.invariant.ordered in
    omega (arith, c.pair_before-before.ensures.row_value, c.pair_before-before.ensures.column_value, g.0, g.1, c.loop-k.invariant.inside, c.requires.back.small)

pub loop-k-preserved : goal.loop-k-preserved
loop-k-preserved c = let a = c.args in
    let desc = pattern a.starts.now a.rows.now (nonzero a.values.now) in
    let W = level_word a.n a.scratch.now in
    let g = back_range desc W (c.loop-k.k - 1 + 1) c.loop-k.row c.loop-k.column c.loop-k.invariant.ordered in
    writing_step desc W c.loop-k.invariant c.loop-k-test.true c.pair_before-before.result.row c.pair_before-before.result.column c.pair_before-before.ensures.row_value c.pair_before-before.ensures.column_value
    (omega (arith, c.pair_before-before.ensures.row_value, c.pair_before-before.ensures.column_value, g.0))
    (omega (arith, c.pair_before-before.ensures.row_value, g.1, c.loop-k.invariant.inside))

pub returns : goal.returns
returns c = let a = c.args in
    let desc = pattern a.starts.now a.rows.now (nonzero a.values.now) in
    let W = level_word a.n a.scratch.now in
    let whole = levels_back desc W (a.level - 1) a.r a.c in
    let e : c.loop-k.k ≡ 0 = omega arith in
    let n = levels_back-length desc W (a.level - 1) a.r a.c in
    let T = writing_end desc W e c.loop-k.invariant in record { chain_rows_after = T.0 ∙ overwrite_set (rows_of whole) a.chain_rows.now (a.level - 1) a.r (omega (arith, n, map_long (λ p. p.0) whole)); chain_columns_after = T.1 ∙ overwrite_set (columns_of whole) a.chain_columns.now (a.level - 1) a.c (omega (arith, n, map_long (λ p. p.1) whole)) }
