-- What a reply tells of the steps: refused exactly if one holds, answered exactly if none does, and then with the answer.
-- Assumes nothing.
use Rattle.std.specs.Prelude.{ℕ, ◌+◌, ◌≡◌, refl, List}
use Rattle.std.proofs.Common.{arith, sym, ap, ◌∙◌}
use Rattle.refusal.specs.Steps.{Step, Reply, refused, answered, first, verdict, settle, Passed}
use Rattle.refusal.proofs.Steps.{first_refused, first_passed}

abbrev number : {A : Type 0} → Reply A → ℕ
number (refused k) = k + 1
number (answered a) = 0

module _ {A : Type 0} (steps : List Step) (a : A) where
  pub told-refused : {k : ℕ} → refused k ≡ first steps a → verdict steps ≡ refused k
  told-refused {k} e = go (verdict steps) refl
    where
      go : (v : Reply (Unit {0})) → verdict steps ≡ v → verdict steps ≡ refused k
      go (refused j) q =
          let w : j + 1 ≡ k + 1 = ap number (sym (first_refused steps j a q) ∙ sym e) in
          let z : j ≡ k = omega arith in
          q ∙ ap (λ (i : ℕ). refused i) z
      go (answered tt) q =
          let w : k + 1 ≡ 0 = ap number (e ∙ first_passed steps a q) in
          absurd (omega arith)

  pub told_passed : {d : A} → answered d ≡ first steps a → Passed steps
  told_passed {d} e = go (verdict steps) refl
    where
      go : (v : Reply (Unit {0})) → verdict steps ≡ v → Passed steps
      go (refused j) q =
          let w : 0 ≡ j + 1 = ap number (e ∙ first_refused steps j a q) in
          absurd (omega arith)
      go (answered tt) q = q

  pub told_answer : {d : A} → answered d ≡ first steps a → d ≡ a
  told_answer {d} e = ap (settle a) (e ∙ first_passed steps a (told_passed e))
