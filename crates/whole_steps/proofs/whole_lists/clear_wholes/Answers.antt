use Prim.Native.Nat.{ℕ}
use lib.IntN.{ℤ, pos}
use Rattle.std.proofs.Common.{ap, ◌∙◌, List, ◌++◌, drop}
use Rattle.std.proofs.Math.ListN.{replicate}
use Rattle.std.proofs.lemmas.List.{length-take-le}
use Rattle.lists.specs.Written.{filled-one}
use Rattle.whole_steps.proofs.whole_lists.clear_wholes.Goals as goal

pub returns : goal.returns
returns c =
    let wholes = c.args.wholes.now in
    let m = c.args.m in
    let new = c.fill.ensures.after (λ _ same. same) ∙ ap (λ (k : ℕ). replicate k (pos 0)) (length-take-le m wholes c.requires) in
    ap (λ (l : List ℤ). l ++ drop m wholes) new ∙ filled-one (pos 0) m wholes
