use Prim.Native.Nat.{ℕ}
use Rattle.std.proofs.Common.{ap, ◌∙◌, List, ◌++◌, drop}
use Rattle.std.proofs.Math.ListN.{replicate}
use Rattle.std.proofs.lemmas.List.{length-take-le}
use Rattle.lists.specs.Written.{filled-one}
use Rattle.words.proofs.clear.Goals as goal

pub returns : goal.returns
returns c =
    let words = c.args.words.now in
    let m = c.args.m in
    let new = c.fill.ensures.after (λ _ same. same) ∙ ap (λ (k : ℕ). replicate {A = ℕ} k 0) (length-take-le m words c.requires) in
    ap (λ (l : List ℕ). l ++ drop m words) new ∙ filled-one 0 m words
