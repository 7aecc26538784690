use mathlib.Core.Path.{◌≡◌, sym, ap, ap₂, subst, ◌∙◌}
use mathlib.Core.Bool.{cond}
use lib.ListN.{get_or, set}
use lib.IntN.{ℤ, pos}
use mir.Syntax.{w64}
use mir.Val.{to_z, of_z}
use mir.ValLaws.{to_z-of_z}
use Rattle.exact.specs.Multiple.{Small}
use Rattle.exact.specs.Checked.{beyond}
use Rattle.entries.specs.WholeTable.{whole_table}
use Rattle.whole_route.specs.Number.{SmallNumber}
use Rattle.whole_route.specs.Sums.{whole_inverse_at, whole_sum}
use Rattle.whole_route.specs.Route.{last_step}
use Rattle.whole_route.proofs.SumLaws.{sum_small}
use Rattle.whole_route.proofs.EntryLaws.{entry_place, entry_number}
use Rattle.whole_route.proofs.summed_entry.Goals as goal

number_is-After-store_entry-arg-1 : (c : goal.After-store_entry-arg-1) → let a = c.args in to_z w64 (of_z w64 c.whole_at-sum.result) ≡ get_or a.work.now a.q (pos 0)
number_is-After-store_entry-arg-1 c = to_z-of_z w64 c.whole_at-sum.result (record { sfits = c.whole_at-sum.type_inv }) ∙ c.whole_at-sum.ensures

number_is-After-work-1 : (c : goal.After-work-1) → let a = c.args in to_z w64 (of_z w64 c.whole_at-sum.result) ≡ get_or a.work.now a.q (pos 0)
number_is-After-work-1 c = to_z-of_z w64 c.whole_at-sum.result (record { sfits = c.whole_at-sum.type_inv }) ∙ c.whole_at-sum.ensures

number_small : (s : goal.After-store_entry-arg-1) → Small (get_or s.args.work.now s.args.q (pos 0))
number_small s =
    let a = s.args in
    subst SmallNumber (sym s.requires.pos_value) (sum_small a.rows.now a.values.now a.j (whole_inverse_at a.n a.scratch.now a.work.now a.i) a.s a.e)

pub whole_at-sum-requires : goal.whole_at-sum-requires
whole_at-sum-requires c = entry_place c.requires.entry_input

pub store_entry-requires : goal.store_entry-requires
store_entry-requires c = record { small = subst Small (sym (number_is-After-store_entry-arg-1 c)) (number_small c); fits = entry_place c.requires.entry_input }

pub returns : goal.returns
returns c = let a = c.args in
    let E = c.requires.entry_input in
    let N = entry_number E
    (c.requires.pos_value ∙ ap₂ (whole_sum a.rows.now a.values.now a.j (whole_inverse_at a.n a.scratch.now a.work.now a.i)) E.start_is E.end_is) in
    let z : last_step a.i a.j (to_z w64 (of_z w64 c.whole_at-sum.result)) ≡ whole_table a.n a.starts.now a.rows.now a.values.now a.i a.j =
    ap (last_step a.i a.j) (number_is-After-work-1 c) ∙ N.0 in
    record {
      tells = c.store_entry.ensures.tells ∙ ap beyond z ∙ N.1;
      leaves = c.store_entry.ensures.leaves ∙ ap (λ (x : ℤ). cond c.store_entry.result a.work.now (set a.work.now a.q x)) z;
    }
