use Prim.Native.Nat.{ℕ, ◌+◌}
use mathlib.Core.Path.{sym, ap, ◌∙◌}
use Rattle.lists.specs.Test.{any_in}
use Rattle.columns.specs.Columns.{outside_at}
use Rattle.closure_route.proofs.UpperLaws.{rests_idle, sums_stored}
use Rattle.closure_route.proofs.stored_sums.store_rows.Goals as goal

pub add_products-requires : goal.add_products-requires
add_products-requires c = let C = c.clear_part.ensures in
    record { sums = rw C.long c.requires.0; cleared = C.holds }

pub add_rests-requires : goal.add_rests-requires
add_rests-requires c = record { sums = rw (c.add_products.ensures.long ∙ c.clear_part.ensures.long) c.requires.0; zeros_are = c.has_zero-zeros.ensures }

pub returns-then-has_greater : goal.returns-then-has_greater
returns-then-has_greater c = sums_stored c.requires.0 c.clear_part.ensures c.add_products.ensures c.add_rests.ensures

pub returns-else-has_greater : goal.returns-else-has_greater
returns-else-has_greater c = let a = c.args in
    sums_stored c.requires.0 c.clear_part.ensures c.add_products.ensures
    (rests_idle c.requires.0 _ (ap (λ (i : ℕ). any_in (outside_at (i + 1) a.rows.now) a.s a.e) (sym c.at.ensures) ∙ sym c.has_greater.ensures ∙ c.if-has_greater.false))
