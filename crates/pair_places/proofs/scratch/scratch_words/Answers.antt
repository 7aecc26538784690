use native.Mathlib.Omega.{arith}
use Rattle.pairs.proofs.Scratch.{scratch_words_total}
use Rattle.pair_places.proofs.scratch.scratch_words.Goals as goal

pub returns : goal.returns
returns c = omega (arith, c.mark_words.ensures.0, c.pair_total.ensures.0, scratch_words_total c.args.n)
