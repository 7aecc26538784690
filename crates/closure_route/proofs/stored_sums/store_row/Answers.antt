use native.Mathlib.Omega.{arith}
use Prim.Native.Nat.{ℕ, ◌+◌}
use mathlib.Core.Path.{refl, sym, ap, subst, ◌∙◌}
use lib.ListN.{length}
use Rattle.closure_route.specs.Column.{SumColumn, sum_column, terms_of}
use Rattle.closure_route.specs.Sums.{entry_sum, SumInput}
use Rattle.closure_route.proofs.StoredLaws.{one_stored}
use Rattle.closure_route.proofs.stored_sums.store_row.Goals as goal

-- the column of the one sum
abbrev column-After-at-i : goal.After-at-i → SumColumn
column-After-at-i s =
    let a = s.args in
    sum_column a.n a.j a.q (a.q + 1) a.s a.e a.rows.now a.values.now a.result_rows.now a.scratch.now

-- the column of the one sum
abbrev column-After-entry_sum-sum : goal.After-entry_sum-sum → SumColumn
column-After-entry_sum-sum s =
    let a = s.args in
    sum_column a.n a.j a.q (a.q + 1) a.s a.e a.rows.now a.values.now a.result_rows.now a.scratch.now

pub entry_sum-sum-requires : goal.entry_sum-sum-requires
entry_sum-sum-requires c = let P = c.requires in
    let q = c.args.q in
    subst (λ (i : ℕ). SumInput (terms_of (column-After-at-i c)) i (length c.args.result_values.now)) (sym c.at-i.ensures)
    (P.storing.sums q (omega arith, omega arith, P.below q (omega arith) (omega arith)))

pub returns : goal.returns
returns c = let x = column-After-entry_sum-sum c in
    let z = c.args.result_values.now in
    one_stored x refl z (omega (arith, c.requires.storing.fits)) c.entry_sum-sum.result
    (c.entry_sum-sum.ensures ∙ ap (λ (i : ℕ). entry_sum (terms_of x) z i) c.at-i.ensures)
