use borrow.Author.Rules.{rules}
use Prim.Native.Nat.{ℕ, ◌+◌}
use lib.IntN.{ℤ}
use mathlib.Core.Bool.{Bool, cond}
use mathlib.Core.List.{List}
use mathlib.Core.Path.{ap, sym, ◌∙◌}
use mir.Syntax.{w64}
use mir.ValLaws.{to_z-of_z}
use Rattle.case_text.specs.Text.{number_at, not_below, negated}
use Rattle.case_text.proofs.TextLaws.{begins_within}
use Rattle.case_text.proofs.whole_number.Goals as goal

-- the number at p, by whether the byte - stands there
abbrev either : List ℕ → ℕ → Bool → ℤ
either text p minus = cond minus (negated (number_at 10 text (p + 1))) (not_below (number_at 10 text p))

pub overflow_add-p : goal.overflow_add-p
overflow_add-p c = let within = begins_within _ _ _ (sym c.begins.ensures ∙ c.if-begins.true) in
    search rules

pub returns-then-begins : goal.returns-then-begins
returns-then-begins c = let n = c.negated in
    let a = c.args in
    to_z-of_z w64 n.result (record { sfits = n.type_inv }) ∙ n.ensures ∙ ap negated c.decimal.ensures
    ∙ sym (ap (either a.text.now a.p) (sym c.begins.ensures ∙ c.if-begins.true))

pub returns : goal.returns
returns c = let n = c.not_below in
    let a = c.args in
    to_z-of_z w64 n.result (record { sfits = n.type_inv }) ∙ n.ensures ∙ ap not_below c.decimal-2.ensures
    ∙ sym (ap (either a.text.now a.p) (sym c.begins.ensures ∙ c.if-begins.false))
