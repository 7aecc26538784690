use Prim.Native.Nat.{ℕ}
use mathlib.Core.Path.{ap, ◌∙◌}
use Rattle.lists.specs.Overwrite.{cleared}
use Rattle.pair_places.proofs.scratch.clear_scratch.Goals as goal

pub returns : goal.returns
returns c = c.clear.ensures ∙ ap (λ (t : ℕ). cleared t c.args.scratch.now) c.scratch_words.ensures
