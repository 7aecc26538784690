use native.Mathlib.Omega.{arith}
use Rattle.pairs.proofs.Scratch.{chain_words_levels}
use Rattle.pairs.proofs.ColumnOrder.{column_place_below}
use Rattle.dependency_chain.proofs.ListLaws.{seek_level, seek_listed, seek_cleared}
use Rattle.dependency_chain.proofs.seek_chain.Goals as goal

pub level_pairs-requires : goal.level_pairs-requires
level_pairs-requires c = record {
  factor = c.requires.factor;
  marks = record { small = c.requires.small; requests = c.requires.requests; room = omega (arith, c.requires.room, chain_words_levels c.args.n) };
}

pub column_place-requires : goal.column_place-requires
column_place-requires c = (c.requires.small, c.requires.ordered, c.requires.inside)

pub at-level-requires : goal.at-level-requires
at-level-requires c = let a = c.args in
    omega (arith, c.column_place.ensures, column_place_below a.n a.r a.c c.requires.ordered c.requires.inside, c.level_pairs.ensures.long, c.requires.room, chain_words_levels a.n)

pub list_chain-answer-requires : goal.list_chain-answer-requires
list_chain-answer-requires c = let a = c.args in
    seek_level a.n a.starts.now a.rows.now a.values.now a.request_rows.now a.request_columns.now a.r a.c a.scratch.now _ c.requires c.level_pairs.ensures
    c.at-level.result c.column_place.result c.at-level.ensures c.column_place.ensures

pub chain_words-requires : goal.chain_words-requires
chain_words-requires c = c.requires.small

pub clear-requires : goal.clear-requires
clear-requires c = omega (arith, c.chain_words.ensures, c.level_pairs.ensures.long, c.requires.room)

pub returns : goal.returns
returns c = let a = c.args in
    let A = c.level_pairs.ensures in record { listed = seek_listed a.n a.starts.now a.rows.now a.values.now a.request_rows.now a.request_columns.now a.r a.c a.scratch.now _ c.requires A c.list_chain-answer.ensures; scratch_after = seek_cleared a.n a.starts.now a.rows.now a.values.now a.request_rows.now a.request_columns.now a.r a.c a.scratch.now _ c.requires A c.clear.ensures c.chain_words.ensures }
