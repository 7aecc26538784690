use Rattle.std.specs.Prelude.{◌≡◌, ◌-◌, ◌<◌, length, ℕ, List, ◌++◌}
use Rattle.std.proofs.Common.{arith, sym, ap, ◌∙◌, ext_get_or, length-drop, length-take-le}
use Rattle.std.proofs.lemmas.List.{length-replicate, get_or-replicate}
use Rattle.std.proofs.Math.ListN.{take, drop, replicate}
use Rattle.lists.specs.Tabulate.{tabulate, tabulate-length, tabulate_at}
use Rattle.lists.specs.Overwrite.{splice, overwrite}
use Rattle.pattern_lists.proofs.marks.repeat_row.Goals as goal

-- one value, k times
repeated : (x k : ℕ) → replicate k x ≡ tabulate (λ _. x) k
repeated x k =
    ext_get_or 0 _ _ (length-replicate k x ∙ sym (tabulate-length _ k))
    (λ i h. let l : i < k = omega (arith, length-replicate k x) in get_or-replicate k i x 0 l ∙ sym (tabulate_at (λ _. x) k i 0 l))

-- and written from the place s on
spliced : (x s k : ℕ) (l xs : List ℕ) → xs ≡ tabulate (λ _. x) k → take s l ++ (xs ++ drop k (drop s l)) ≡ splice s (tabulate (λ _. x) k) l
unfolding splice overwrite
spliced x s k l xs same = rw same (ap (λ (j : ℕ). take s l ++ (tabulate (λ _. x) k ++ drop j (drop s l))) (sym (tabulate-length _ k)))

pub returns : goal.returns
returns c = let a = c.args in
    let k = a.e - a.s in
    let n : length (take k (drop a.s a.rows.now)) ≡ k = length-take-le k _ (omega (arith, length-drop a.s a.rows.now)) in
    spliced a.r a.s k a.rows.now _ (c.fill.ensures.after (λ _ same. same) ∙ ap (λ (j : ℕ). replicate j a.r) n ∙ repeated a.r k)
