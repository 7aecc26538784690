use Prim.Native.Nat.{ℕ, ◌<◌, ◌-◌, ◌+◌}
use Rattle.case_text.specs.Text.{digit_more, digit_at, number_from}
use Rattle.case_text.proofs.TextLaws.{number_from_end, number_from_stop, number_from_more}
use borrow.Author.Rules.{rules}
use borrow.Author.Tests.{lt-ltb, le-ltb}
use lib.Dec.{ltb}
use lib.ListN.{length}
use mathlib.Core.Bool.{true, false}
use mathlib.Core.Path.{◌≡◌, refl, ap, sym, ◌∙◌}
use Rattle.case_text.proofs.number_in_base.Goals as goal

pub loop-i-init : goal.loop-i-init
loop-i-init c = refl

pub returns-then-d-base : goal.returns-then-d-base
returns-then-d-base c = let at = c.loop-i in
    let a = c.args in
    let h : digit_at a.base a.text.now at.i ≡ false = ap (λ (d : ℕ). ltb d a.base) (sym c.digit-d.ensures) ∙ le-ltb _ _ c.if-d-base.true in
    sym (at.invariant ∙ number_from_stop _ _ _ _ _ h)

pub loop-i-preserved : goal.loop-i-preserved
loop-i-preserved c = let at = c.loop-i in
    let a = c.args in
    let d = c.digit-d.ensures in
    let h : digit_at a.base a.text.now at.i ≡ true = ap (λ (d : ℕ). ltb d a.base) (sym d) ∙ lt-ltb _ _ c.if-d-base.false in
    let l : at.i < length a.text.now = search rules in
    let m = ap (digit_more a.base at.value) (sym d) ∙ sym c.digit_more-value.ensures in
    at.invariant ∙ number_from_more _ _ _ _ _ l h ∙ ap (λ (x : ℕ). number_from a.base a.text.now x (at.i + 1) (length a.text.now - (at.i + 1))) m

pub returns : goal.returns
returns c = let at = c.loop-i in
    sym (at.invariant ∙ number_from_end _ _ _ _ _ (search rules))
