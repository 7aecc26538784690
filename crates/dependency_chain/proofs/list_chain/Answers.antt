use native.Mathlib.Omega.{arith}
use Prim.Native.Nat.{ℕ, ◌<◌, ◌-◌}
use mathlib.Core.Path.{◌≡◌, ap, sym, ◌∙◌}
use mathlib.Core.List.{List}
use Rattle.columns.specs.Kept.{nonzero, pattern}
use Rattle.levels.specs.Levels.{level_word}
use Rattle.levels.specs.Back.{levels_back, levels_chain, levels_chain_none, levels_chain_some, levels_chain-length}
use Rattle.levels.specs.Written.{rows_of, columns_of}
use Rattle.lists.specs.Overwrite.{overwrite}
use Rattle.dependency_chain.proofs.ListLaws.{listed_none, listed_rows_short, listed_columns_short, listed_written}
use Rattle.dependency_chain.proofs.list_chain.Goals as goal

pub returns-then-level-eq0 : goal.returns-then-level-eq0
returns-then-level-eq0 c = let a = c.args in
    let desc = pattern a.starts.now a.rows.now (nonzero a.values.now) in
    let W = level_word a.n a.scratch.now in
    let m = levels_chain-length desc W a.r a.c in
    listed_none (levels_chain desc W a.r a.c) a.chain_rows.now a.chain_columns.now (levels_chain_none desc W a.r a.c (sym c.requires.own ∙ c.if-level-eq0.true))

pub returns-then-chain_rows-level : goal.returns-then-chain_rows-level
returns-then-chain_rows-level c = let a = c.args in
    let desc = pattern a.starts.now a.rows.now (nonzero a.values.now) in
    let W = level_word a.n a.scratch.now in
    let m = levels_chain-length desc W a.r a.c in
    listed_rows_short (levels_chain desc W a.r a.c) a.chain_rows.now a.chain_columns.now (omega (arith, m, c.requires.own, c.if-chain_rows-level.true))

pub returns-then-chain_columns-level : goal.returns-then-chain_columns-level
returns-then-chain_columns-level c = let a = c.args in
    let desc = pattern a.starts.now a.rows.now (nonzero a.values.now) in
    let W = level_word a.n a.scratch.now in
    let m = levels_chain-length desc W a.r a.c in
    listed_columns_short (levels_chain desc W a.r a.c) a.chain_rows.now a.chain_columns.now (omega (arith, m, c.requires.own, c.if-chain_rows-level.false)) (omega (arith, m, c.requires.own, c.if-chain_columns-level.true))

pub write_chain-requires : goal.write_chain-requires
write_chain-requires c = record {
  back = c.requires.back;
  positive = omega (arith, c.if-level-eq0.false);
  short = c.requires.short;
  rows_room = omega (arith, c.if-chain_rows-level.false);
  columns_room = omega (arith, c.if-chain_columns-level.false);
}

pub returns : goal.returns
returns c = let a = c.args in
    let desc = pattern a.starts.now a.rows.now (nonzero a.values.now) in
    let W = level_word a.n a.scratch.now in
    let m = levels_chain-length desc W a.r a.c in
    let p : 0 < W a.r a.c = omega (arith, c.if-level-eq0.false, c.requires.own) in
    let q = levels_chain_some desc W a.r a.c p in
    let k : levels_back desc W (a.level - 1) a.r a.c ≡ levels_chain desc W a.r a.c =
    ap (λ (i : ℕ). levels_back desc W (i - 1) a.r a.c) c.requires.own ∙ sym q in
    listed_written (levels_chain desc W a.r a.c) a.chain_rows.now a.chain_columns.now
    (omega (arith, m, c.requires.own, c.if-chain_rows-level.false))
    (omega (arith, m, c.requires.own, c.if-chain_columns-level.false))
    (omega (arith, m, c.requires.own))
    (c.write_chain.ensures.chain_rows_after ∙ ap (λ (l : List (ℕ × ℕ)). overwrite (rows_of l) a.chain_rows.now) k)
    (c.write_chain.ensures.chain_columns_after ∙ ap (λ (l : List (ℕ × ℕ)). overwrite (columns_of l) a.chain_columns.now) k)
