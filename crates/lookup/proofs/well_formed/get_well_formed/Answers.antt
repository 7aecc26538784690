use Prim.Native.Nat.{max, min}
use mathlib.Core.Path.{ap, sym, ◌∙◌}
use lib.ListN.{length}
use lib.Ieee.{nan}
use Rattle.result.specs.Lookup.{value_at}
use Rattle.result.proofs.Halving.{place_within_inside}
use Rattle.lookup.proofs.well_formed.get_well_formed.Goals as goal

pub value_at-requires : goal.value_at-requires
value_at-requires c = let a = c.args in
    record {
      below = λ p q.
          place_within_inside a.starts.now a.rows.now (length a.values.now) (max a.row a.col) (min a.row a.col) p
          (sym c.pair_place_within.ensures ∙ q);
    }

pub returns : goal.returns
returns c = c.value_at.ensures nan ∙ ap (value_at nan c.args.values.now) c.pair_place_within.ensures
