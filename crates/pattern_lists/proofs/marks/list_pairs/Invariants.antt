use Prim.Native.Nat.{◌/◌, min}
use mathlib.Core.Path.{◌≡◌}
use lib.ListN.{length}
use Rattle.pairs.specs.Pair.{pair_total}
use Rattle.set_bits.specs.Zeros.{Zeros}
use Rattle.pattern_lists.specs.Listing.{PairsListed}
use Rattle.pattern_lists.proofs.marks.list_pairs.Given as goal

abbrev pub invariant-loop-r : goal.invariant-loop-r
invariant-loop-r l = PairsListed l.marks l.r l.initial.rows l.initial.columns l.rows l.columns l.count × (l.place ≡ pair_total l.r) × Zeros l.marks (min (l.place / 32) l.w) (length l.marks) l.w
