use native.Mathlib.Omega.{arith}
use mathlib.Core.Path.{refl}
use lib.IntN.{◌*ℤ◌}
use mir.Syntax.{w64}
use mir.ValLaws.{to_z-of_z}
use Rattle.integers.proofs.Size.{size_product}
use Rattle.whole_steps.specs.Machine.{held, fits_both}
use Rattle.weight_ranges.proofs.terms.times_range.Goals as goal

pub product-requires : goal.product-requires
product-requires c = let p = c.requires in
    fits_both ◌*ℤ◌ (to_z-of_z w64 c.args.c c.ranges.c) (held (omega arith) refl c.requires.1) (omega arith) (size_product p.0 p.1)

pub product-requires-2 : goal.product-requires-2
product-requires-2 c = fits_both ◌*ℤ◌ (to_z-of_z w64 c.args.c c.ranges.c) (held (omega arith) refl c.requires.2) (omega arith) (size_product c.requires.0 c.requires.2)
