use native.Mathlib.Omega.{arith}
use Prim.Native.Nat.{ℕ}
use mathlib.Core.Path.{◌≡◌, ap, sym, ◌∙◌}
use lib.ListN.{get_or}
use mathlib.Core.Bool.{Bool, true, false, ◌&&◌, and-true, and-false}
use lib.Dec.{eqb}
use borrow.Author.Tests.{eq-eqb, ne_eqb}
use Rattle.pairs.proofs.ColumnOrder.{column_place_below}
use Rattle.columns.specs.Kept.{nonzero, pattern}
use Rattle.closed_set.specs.ClosedSet.{descends}
use Rattle.levels.specs.Levels.{level_word}
use Rattle.levels.proofs.chain.leads.Goals as goal

-- the word looked at
word-Then-at-level : (t : goal.Then-at-level) →
    let a = t.args in
    t.at.result ≡ level_word a.n a.scratch.now a.a a.j
word-Then-at-level t =
    let a = t.args in
    t.at.ensures ∙ ap (λ (k : ℕ). get_or a.scratch.now k 0) t.column_place.ensures

-- the word looked at
word-After-is_descendant : (t : goal.After-is_descendant) →
    let a = t.args in
    t.at.result ≡ level_word a.n a.scratch.now a.a a.j
word-After-is_descendant t =
    let a = t.args in
    t.at.ensures ∙ ap (λ (k : ℕ). get_or a.scratch.now k 0) t.column_place.ensures

pub at-requires : goal.at-requires
at-requires c = let a = c.args in
    omega (arith, c.column_place.ensures, column_place_below a.n a.a a.j c.requires.ordered c.requires.inside, c.requires.room)

pub returns-then-at-level : goal.returns-then-at-level
returns-then-at-level c = let a = c.args in
    let desc = pattern a.starts.now a.rows.now (nonzero a.values.now) in
    let q : eqb (level_word a.n a.scratch.now a.a a.j) a.level ≡ false = ne_eqb _ _ (λ e. c.if-at-level.true (word-Then-at-level c ∙ e)) in
    sym (ap (λ (b : Bool). descends desc a.j a.d && b) q ∙ and-false (descends desc a.j a.d))

pub returns : goal.returns
returns c = let a = c.args in
    let desc = pattern a.starts.now a.rows.now (nonzero a.values.now) in
    let q : eqb (level_word a.n a.scratch.now a.a a.j) a.level ≡ true = eq-eqb _ _ (sym (word-After-is_descendant c) ∙ c.if-at-level.false) in
    c.is_descendant.ensures ∙ sym (ap (λ (b : Bool). descends desc a.j a.d && b) q ∙ and-true (descends desc a.j a.d))
