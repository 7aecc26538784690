use mathlib.Core.Path.{◌∙◌}
use Rattle.pairs.proofs.Scratch.{queue_start_total}
use Rattle.pair_places.proofs.scratch.queue_start.Goals as goal

pub returns : goal.returns
returns c = (c.mark_words.ensures.0 ∙ queue_start_total c.args.n, c.mark_words.ensures.1)
