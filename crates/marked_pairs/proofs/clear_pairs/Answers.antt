use Prim.Native.Nat.{ℕ}
use native.Mathlib.Omega.{arith}
use mathlib.Core.Path.{ap, ◌∙◌}
use Rattle.lists.specs.Overwrite.{cleared}
use Rattle.pairs.proofs.Scratch.{queue_start_words}
use Rattle.marked_pairs.proofs.InsertLaws.{pairs_none}
use Rattle.marked_pairs.proofs.clear_pairs.Goals as goal

pub clear-requires : goal.clear-requires
clear-requires c = omega (arith, c.mark_words.ensures.0, queue_start_words c.args.n, c.requires.1)

pub returns : goal.returns
returns c = pairs_none c.requires.1 (c.clear.ensures ∙ ap (λ (m : ℕ). cleared m c.args.scratch.now) c.mark_words.ensures.0)
