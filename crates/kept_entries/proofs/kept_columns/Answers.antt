use Rattle.columns.specs.Kept.{kept_count}
use Rattle.columns.proofs.Kept.{factor_pairs_none, factor_pairs_next}
use Rattle.columns.proofs.Factor.{factor_column, starts_end}
use Rattle.lists.specs.Select.{tally_most}
use native.Mathlib.Omega.{arith}
use Prim.Native.Nat.{◌≤◌, ◌-◌, ◌+◌}
use mathlib.Core.Path.{◌≡◌, ap₂, sym}
use lib.ListN.{length, get_or}
use Rattle.kept_entries.proofs.kept_columns.Goals as goal

-- the count stays below the next start
bound : (g : _) (c : goal.After-kept_between-count g) →
    c.loop-c.count + c.kept_between-count.result ≤ get_or c.args.starts.now (c.loop-c.c + 1) 0
bound g c =
    let m : c.kept_between-count.result ≤ c.at-in-loop-c.result - c.at.result = rw c.kept_between-count.ensures (tally_most _ _ _) in
    omega (arith, c.requires.starts_rise.rising c.loop-c.c (omega arith))

-- which is within the rows
end : (g : _) (c : goal.After-kept_between-count g) →
    get_or c.args.starts.now (c.loop-c.c + 1) 0 ≤ length c.args.rows.now
end g c =
    starts_end c.requires.starts_rise (c.loop-c.c + 1) (omega arith)

-- what is added counts column c
counted : (g : _) (c : goal.After-kept_between-count g) →
    c.kept_between-count.result ≡ kept_count c.args.starts.now c.args.rows.now (g.T.StoredValue.kept c.args.values.now) c.loop-c.c
counted g c = rw (c.at.ensures, c.at-in-loop-c.ensures) at c.kept_between-count.ensures

pub loop-c-init : goal.loop-c-init
loop-c-init g c = (omega arith, sym (factor_pairs_none _ _ _))

pub kept_between-count-requires : goal.kept_between-count-requires
kept_between-count-requires g c = rw (c.at.ensures, c.at-in-loop-c.ensures) (factor_column c.requires c.loop-c.c (omega arith))

pub overflow_add-count : goal.overflow_add-count
overflow_add-count g c = omega (arith, bound g c, end g c)

pub loop-c-preserved : goal.loop-c-preserved
loop-c-preserved g c = (bound g c, rw factor_pairs_next (ap₂ ◌+◌ c.loop-c.invariant.1 (counted g c)))
