use mathlib.Core.Path.{ap₂, subst, subst₂}
use mathlib.Core.Bool.{cond}
use lib.IntN.{ℤ}
use lib.ListN.{set}
use mir.Syntax.{w64}
use mir.Val.{SFits, to_z, of_z}
use mir.ValLaws.{to_z-of_z}
use Rattle.columns.specs.Columns.{start}
use Rattle.pairs.specs.ColumnOrder.{column_marking}
use Rattle.entries.proofs.Position.{position_below}
use Rattle.exact.specs.Multiple.{Small}
use Rattle.exact.specs.Checked.{beyond}
use Rattle.entries.specs.WholeTable.{whole_table}
use Rattle.whole_route.specs.Number.{number_reply, SmallNumber}
use Rattle.whole_route.specs.Sums.{whole_inverse_at, whole_sum, WholeSumInput}
use Rattle.whole_route.proofs.SumLaws.{sum_small}
use Rattle.whole_route.specs.Route.{last_step}
use Rattle.whole_route.proofs.EntryLaws.{entry_sum_input, entry_stopped, entry_number}
use borrow.Author.Rules.{rules}
use native.Mathlib.Omega.{arith}
use Prim.Native.Nat.{ℕ, ◌+◌}
use mathlib.Core.Path.{◌≡◌, refl, ap, sym, ◌∙◌}
use Rattle.whole_route.proofs.whole_entry.Goals as goal
use Rattle.whole_route.proofs.whole_entry.Goals.{After-entry_sum-sum, In-Some}

-- the sum's reply, by the column's own ends
sum_is : (c : After-entry_sum-sum) →
    let a = c.args in
    number_reply c.entry_sum-sum.result
    ≡ whole_sum a.rows.now a.values.now a.j (whole_inverse_at a.n a.scratch.now a.work.now a.i) (start a.starts.now a.j) (start a.starts.now (a.j + 1))
sum_is c =
    let a = c.args in
    c.entry_sum-sum.ensures
    ∙ ap₂ (whole_sum a.rows.now a.values.now a.j (whole_inverse_at a.n a.scratch.now a.work.now a.i)) c.requires.start_is c.requires.end_is

fits_number : (c : In-Some) → SFits w64 c.in-Some.x
fits_number c = search rules

pub entry_sum-sum-requires : goal.entry_sum-sum-requires
entry_sum-sum-requires c = let a = c.args in
    let E = c.requires in
    subst₂ (λ (x y : ℕ). WholeSumInput a.n a.i a.j x y a.rows.now a.values.now a.scratch.now a.work.now) (sym E.start_is) (sym E.end_is)
    (entry_sum_input E)

pub store_entry-requires : goal.store_entry-requires
store_entry-requires c = let a = c.args in
    let E = c.requires in
    let t = goal.at.store_entry-requires c in
    let b = position_below a.n (column_marking a.n a.scratch.now) a.i a.j a.n E.ordered E.inside (omega (arith, E.ordered, E.inside)) E.member in
    let small = subst SmallNumber (ap number_reply c.in-Some.is)
    (subst SmallNumber (sym (sum_is t.After-entry_sum-sum))
    (sum_small a.rows.now a.values.now a.j (whole_inverse_at a.n a.scratch.now a.work.now a.i) (start a.starts.now a.j) (start a.starts.now (a.j + 1)))) in
    record { small = subst Small (sym (to_z-of_z w64 c.in-Some.x (fits_number t.In-Some))) small; fits = omega (arith, b, E.position_is, E.fits) }

pub returns-in-None : goal.returns-in-None
returns-in-None c = record { tells = entry_stopped c.requires (sum_is (goal.at.returns-in-None c).After-entry_sum-sum) (ap number_reply c.in-None.is); leaves = refl }

pub returns-in-Some : goal.returns-in-Some
returns-in-Some c = let a = c.args in
    let t = goal.at.returns-in-Some c in
    let N = entry_number c.requires (sym (ap number_reply c.in-Some.is) ∙ sum_is t.After-entry_sum-sum) in
    let z : last_step a.i a.j (to_z w64 (of_z w64 c.in-Some.x)) ≡ whole_table a.n a.starts.now a.rows.now a.values.now a.i a.j =
    ap (last_step a.i a.j) (to_z-of_z w64 c.in-Some.x (fits_number t.In-Some)) ∙ N.0 in
    record {
      tells = c.store_entry.ensures.tells ∙ ap beyond z ∙ N.1;
      leaves = c.store_entry.ensures.leaves ∙ ap (λ (x : ℤ). cond c.store_entry.result a.work.now (set a.work.now a.q x)) z;
    }
