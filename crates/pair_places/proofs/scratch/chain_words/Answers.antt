use native.Mathlib.Omega.{arith}
use Rattle.pairs.proofs.Scratch.{chain_words_total}
use Rattle.pair_places.proofs.scratch.chain_words.Goals as goal

pub returns : goal.returns
returns c = omega (arith, c.pair_total.ensures.0, chain_words_total c.args.n)
