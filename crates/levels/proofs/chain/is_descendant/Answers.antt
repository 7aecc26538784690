use borrow.Author.Rules.{rules}
use native.Mathlib.Omega.{arith}
use Prim.Native.Nat.{ℕ, ◌≤◌, ◌<◌, ◌+◌}
use mathlib.Core.Path.{sym, subst₂, ◌∙◌}
use lib.ListN.{length}
use Rattle.columns.specs.Columns.{start}
use Rattle.columns.specs.Kept.{nonzero}
use Rattle.columns.specs.Factor.{FirstFrom}
use Rattle.columns.proofs.Factor.{starts_end}
use Rattle.levels.proofs.BackLaws.{descends_past, descends_other, descends_here}
use Rattle.levels.proofs.chain.is_descendant.Goals as goal

-- the place found, between the column's ends
first-Then-end-p : (f : goal.Then-end-p) →
    let a = f.args in
    FirstFrom a.d a.rows.now (start a.starts.now a.j) (start a.starts.now (a.j + 1)) f.first_from-p.result
first-Then-end-p f =
    let a = f.args in
    subst₂ (λ (i j : ℕ). FirstFrom a.d a.rows.now i j f.first_from-p.result) f.at.ensures f.at-end.ensures f.first_from-p.ensures

-- the place found, between the column's ends
first-Then-at-d : (f : goal.Then-at-d) →
    let a = f.args in
    FirstFrom a.d a.rows.now (start a.starts.now a.j) (start a.starts.now (a.j + 1)) f.first_from-p.result
first-Then-at-d f =
    let a = f.args in
    subst₂ (λ (i j : ℕ). FirstFrom a.d a.rows.now i j f.first_from-p.result) f.at.ensures f.at-end.ensures f.first_from-p.ensures

-- the place found, between the column's ends
first-After-kept_below : (f : goal.After-kept_below) →
    let a = f.args in
    FirstFrom a.d a.rows.now (start a.starts.now a.j) (start a.starts.now (a.j + 1)) f.first_from-p.result
first-After-kept_below f =
    let a = f.args in
    subst₂ (λ (i j : ℕ). FirstFrom a.d a.rows.now i j f.first_from-p.result) f.at.ensures f.at-end.ensures f.first_from-p.ensures

pub overflow_add-j : goal.overflow_add-j
overflow_add-j c = let n = c.requires.0.starts_rise.columns in
    search rules

pub at-end-requires : goal.at-end-requires
at-end-requires c = omega (arith, c.requires.0.starts_rise.columns, c.requires.1)

pub at-requires : goal.at-requires
at-requires c = omega (arith, c.requires.0.starts_rise.columns, c.requires.1)

pub first_from-p-requires : goal.first_from-p-requires
first_from-p-requires c = let a = c.args in
    let w : start a.starts.now a.j ≤ start a.starts.now (a.j + 1) = c.requires.0.starts_rise.rising a.j c.requires.1 in
    let m : start a.starts.now (a.j + 1) ≤ length a.rows.now = starts_end c.requires.0.starts_rise (a.j + 1) (omega (arith, c.requires.1)) in
    (omega (arith, w, c.at.ensures, c.at-end.ensures), omega (arith, m, c.at-end.ensures))

pub returns-then-end-p : goal.returns-then-end-p
returns-then-end-p c = sym (descends_past (nonzero c.args.values.now) c.requires.0 c.args.j c.args.d _ c.requires.1 (first-Then-end-p c) (omega (arith, c.if-end-p.true, c.at-end.ensures)))

pub at-requires-2 : goal.at-requires-2
at-requires-2 c = let a = c.args in
    let m : start a.starts.now (a.j + 1) ≤ length a.rows.now = starts_end c.requires.0.starts_rise (a.j + 1) (omega (arith, c.requires.1)) in
    omega (arith, m, c.if-end-p.false, c.at-end.ensures)

pub returns-then-at-d : goal.returns-then-at-d
returns-then-at-d c = sym (descends_other (nonzero c.args.values.now) c.requires.0 c.args.j c.args.d _ c.requires.1 (first-Then-at-d c) (λ q. c.if-at-d.true (c.at-2.ensures ∙ q)))

pub kept_below-requires : goal.kept_below-requires
kept_below-requires c = let a = c.args in
    let m : start a.starts.now (a.j + 1) ≤ length a.rows.now = starts_end c.requires.0.starts_rise (a.j + 1) (omega (arith, c.requires.1)) in
    let l : c.first_from-p.result < length a.rows.now = omega (arith, m, c.if-end-p.false, c.at-end.ensures) in
    (l, omega (arith, l, c.requires.0.valued))

pub returns : goal.returns
returns c = c.kept_below.ensures
    ∙ descends_here (nonzero c.args.values.now) c.requires.0 c.args.j c.args.d _ c.requires.1 (first-After-kept_below c) (omega (arith, c.if-end-p.false, c.at-end.ensures)) (sym c.at-2.ensures ∙ c.if-at-d.false)
