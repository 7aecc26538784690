use Rattle.starred_table.specs.Table.{floor_answered, floor_written}
use Rattle.starred_table.specs.Stabilized.{stabilized_as}
use Rattle.floor.specs.declared.StabilizedVariance.{StabilizedVariance}
use Rattle.refusal.specs.Steps.{Reply}
use lib.Ieee.{Float, nan, neg, binary64, eq, of_int, of_bits}
use mathlib.Core.List.{List}
use mathlib.Core.Path.{ap, ◌∙◌}
use lib.ListN.{get_or}
use Rattle.starred.proofs.floors.floored.Goals as goal

pub expect-requires : goal.expect-requires
unfolding eq of_int of_bits neg
expect-requires c = c.stabilized.ensures
    ∙ ap (λ (r : Reply StabilizedVariance). stabilized_as r (of_bits binary64 0x4000_0000_0000_0000) 2) (c.stabilize_variances-s.ensures.replies ∙ floor_answered)

-- the other three: what stands in the list that the call leaves
pub expect-requires-2 : goal.expect-requires-2
unfolding eq of_int of_bits neg
expect-requires-2 c = ap (λ (l : List Float). eq (get_or l 0 nan) (of_bits binary64 0x4010_0000_0000_0000)) (c.stabilize_variances-s.ensures.output_after_lem ∙ floor_written _ _ _)

pub expect-requires-3 : goal.expect-requires-3
unfolding eq of_int of_bits neg
expect-requires-3 c = ap (λ (l : List Float). eq (get_or l 1 nan) (of_bits binary64 0x4000_0000_0000_0000)) (c.stabilize_variances-s.ensures.output_after_lem ∙ floor_written _ _ _)

pub expect-requires-4 : goal.expect-requires-4
unfolding eq of_int of_bits neg
expect-requires-4 c = ap (λ (l : List Float). eq (get_or l 2 nan) (of_bits binary64 0x4000_0000_0000_0000)) (c.stabilize_variances-s.ensures.output_after_lem ∙ floor_written _ _ _)
