use Rattle.columns.proofs.Diagonal.{diagonal_value, first_from_diagonal}
use Rattle.columns.specs.Kept.{nonzero}
use Rattle.columns.proofs.Factor.{factor_column}
use native.Mathlib.Omega.{arith}
use Prim.Native.Nat.{◌<◌}
use mathlib.Core.Path.{◌≡◌, sym}
use lib.ListN.{length}
use Rattle.kept_entries.proofs.diagonal.diagonal.Goals as goal

-- the place that is found is that of the kept diagonal
found-After-first_from-p : (c : goal.After-first_from-p) →
    c.first_from-p.result ≡ (c.requires.1.diagonal c.args.c c.requires.2).place
found-After-first_from-p c =
    first_from_diagonal (nonzero c.args.values.now) c.requires.0 c.requires.2 (c.requires.1.diagonal c.args.c c.requires.2)
    (rw (c.at.ensures, c.at-2.ensures) at c.first_from-p.ensures)

-- the place that is found is that of the kept diagonal
found-After-shared_slice_known-4-1 : (c : goal.After-shared_slice_known-4-1) →
    c.first_from-p.result ≡ (c.requires.1.diagonal c.args.c c.requires.2).place
found-After-shared_slice_known-4-1 c =
    first_from_diagonal (nonzero c.args.values.now) c.requires.0 c.requires.2 (c.requires.1.diagonal c.args.c c.requires.2)
    (rw (c.at.ensures, c.at-2.ensures) at c.first_from-p.ensures)

-- which is within the values
within-After-first_from-p : (c : goal.After-first_from-p) →
    (c.requires.1.diagonal c.args.c c.requires.2).place < length c.args.values.now
within-After-first_from-p c =
    omega (arith, (c.requires.1.diagonal c.args.c c.requires.2).below, (factor_column c.requires.0 c.args.c c.requires.2).weighed)

-- which is within the values
within-After-shared_slice_known-4-1 : (c : goal.After-shared_slice_known-4-1) →
    (c.requires.1.diagonal c.args.c c.requires.2).place < length c.args.values.now
within-After-shared_slice_known-4-1 c =
    omega (arith, (c.requires.1.diagonal c.args.c c.requires.2).below, (factor_column c.requires.0 c.args.c c.requires.2).weighed)

pub first_from-p-requires : goal.first_from-p-requires
first_from-p-requires c = let C = factor_column c.requires.0 c.args.c c.requires.2 in
    rw (c.at.ensures, c.at-2.ensures) (C.ordered, C.stored)

pub offset_bounds-values-p : goal.offset_bounds-values-p
offset_bounds-values-p c = omega (arith, found-After-first_from-p c, within-After-first_from-p c)

pub bounds-values-p : goal.bounds-values-p
bounds-values-p c = omega (arith, found-After-shared_slice_known-4-1 c, within-After-shared_slice_known-4-1 c)

pub returns : goal.returns
returns c = rw (found-After-shared_slice_known-4-1 c) (sym (diagonal_value c.args.values.now (c.requires.1.diagonal c.args.c c.requires.2)))
