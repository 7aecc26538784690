use native.Mathlib.Omega.{arith}
use Prim.Native.Nat.{ℕ, ◌≤◌, ◌<◌, ◌-◌, ◌+◌}
use mathlib.Core.Path.{◌≡◌, ap, ap₂, sym, ◌∙◌}
use lib.ListN.{get_or}
use Rattle.result.specs.Halving.{standing}
use Rattle.result.proofs.Halving.{candidate-run, candidate-halving}
use Rattle.result.proofs.Halving.{halved_place_none, halved_place_first, halved_place_below, halved_place_above, halved_place-candidate}
use Rattle.column_search.proofs.halving.find_by_halving.Goals as goal

pub returns-then-e-s : goal.returns-then-e-s
returns-then-e-s c = let a = c.args in
    let xs = a.rows.now in
    sym (halved_place_none xs a.r a.s a.e c.if-e-s.true)

pub returns-then-first-r : goal.returns-then-first-r
returns-then-first-r c = let a = c.args in
    let xs = a.rows.now in
    let some : a.s < a.e = omega (arith, c.if-e-s.false) in
    sym (halved_place_first xs a.r a.s a.e some (sym c.at-first.ensures ∙ c.if-first-r.true))

pub returns-then-r-first : goal.returns-then-r-first
returns-then-r-first c = let a = c.args in
    let xs = a.rows.now in
    let some : a.s < a.e = omega (arith, c.if-e-s.false) in
    sym (halved_place_below xs a.r a.s a.e some (omega (arith, c.at-first.ensures, c.if-r-first.true)))

pub returns-then-last-r : goal.returns-then-last-r
returns-then-last-r c = let a = c.args in
    let xs = a.rows.now in
    let some : a.s < a.e = omega (arith, c.if-e-s.false) in
    let n : get_or xs a.s 0 ≡ a.r → ⊥ = λ q. c.if-first-r.false (c.at-first.ensures ∙ q) in
    let lo : get_or xs a.s 0 ≤ a.r = omega (arith, c.if-r-first.false, c.at-first.ensures) in
    sym (halved_place_above xs a.r a.s a.e some n lo (omega (arith, c.at-last.ensures, c.if-last-r.true)))

pub returns-then-last-first : goal.returns-then-last-first
returns-then-last-first c = let a = c.args in
    let xs = a.rows.now in
    let some : a.s < a.e = omega (arith, c.if-e-s.false) in
    let n : get_or xs a.s 0 ≡ a.r → ⊥ = λ q. c.if-first-r.false (c.at-first.ensures ∙ q) in
    let lo : get_or xs a.s 0 ≤ a.r = omega (arith, c.if-r-first.false, c.at-first.ensures) in
    let hi : a.r ≤ get_or xs (a.e - 1) 0 = omega (arith, c.at-last.ensures, c.if-last-r.false) in
    let q : get_or xs (a.e - 1) 0 - get_or xs a.s 0 ≡ a.e - 1 - a.s = omega (arith, c.if-last-first.true, c.at-first.ensures, c.at-last.ensures) in
    c.standing_at.ensures
    ∙ ap (λ (d : ℕ). standing xs a.r (a.s + (a.r - d))) c.at-first.ensures
    ∙ ap (standing xs a.r) (sym (candidate-run xs a.r a.s a.e q))
    ∙ sym (halved_place-candidate xs a.r a.s a.e some n lo hi)

pub returns : goal.returns
returns c = let a = c.args in
    let xs = a.rows.now in
    let some : a.s < a.e = omega (arith, c.if-e-s.false) in
    let n : get_or xs a.s 0 ≡ a.r → ⊥ = λ q. c.if-first-r.false (c.at-first.ensures ∙ q) in
    let lo : get_or xs a.s 0 ≤ a.r = omega (arith, c.if-r-first.false, c.at-first.ensures) in
    let hi : a.r ≤ get_or xs (a.e - 1) 0 = omega (arith, c.at-last.ensures, c.if-last-r.false) in
    let q : get_or xs (a.e - 1) 0 - get_or xs a.s 0 ≡ a.e - 1 - a.s → ⊥ = λ h. c.if-last-first.false (ap₂ ◌-◌ c.at-last.ensures c.at-first.ensures ∙ h) in
    c.halve_for.ensures
    ∙ ap (standing xs a.r) (sym (candidate-halving xs a.r a.s a.e q))
    ∙ sym (halved_place-candidate xs a.r a.s a.e some n lo hi)
