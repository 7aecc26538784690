use native.Mathlib.Omega.{arith}
use mathlib.Core.Path.{sym, ap, subst, ◌∙◌}
use Rattle.bits.specs.Bits.{with_bit}
use Rattle.pairs.specs.Marks.{Added, single}
use Rattle.pairs.proofs.Marks.{added_pair}
use Rattle.pattern_lists.proofs.marks.mark_pair.Goals as goal

pub row_place-requires : goal.row_place-requires
row_place-requires c = let p = c.requires in (p.small, omega (arith, p.ordered, p.small))

pub set_bit-requires : goal.set_bit-requires
set_bit-requires c = omega (arith, c.row_place.ensures, c.requires.inside)

pub returns : goal.returns
returns c = let words = c.args.marks.now in
    subst (Added (single c.args.r c.args.c) words) (sym (c.set_bit.ensures ∙ ap (with_bit words) c.row_place.ensures)) (added_pair c.requires)
