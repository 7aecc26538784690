use Rattle.requests_reader.proofs.StoreLaws.{store_start, store_end, store_known, store_fits, store_more}
use borrow.Author.Rules.{rules}
use native.Mathlib.Omega.{arith}
use Rattle.requests_reader.proofs.entries.store_entries.Goals as goal

pub loop-k-init : goal.loop-k-init
loop-k-init c = store_start _ _ _ _ _ c.requires.store_entries_input

pub known_entry-entry-requires : goal.known_entry-entry-requires
known_entry-entry-requires c = store_known _ _ _ _ _ _ _ _ _ c.loop-k.invariant (search rules)

pub lowered-requires : goal.lowered-requires
lowered-requires c = let fit = store_fits _ _ _ _ _ _ _ _ _ c.loop-k.invariant (search rules) _ _ _ c.known_entry-entry.ensures in
    (omega (arith, fit.0, fit.2), omega (arith, fit.1, fit.3))

pub lowered-requires-in-loop-k : goal.lowered-requires-in-loop-k
lowered-requires-in-loop-k c = let fit = store_fits _ _ _ _ _ _ _ _ _ c.loop-k.invariant (search rules) _ _ _ c.known_entry-entry.ensures in
    (omega (arith, fit.0, fit.2), omega (arith, fit.1, fit.3))

pub loop-k-preserved : goal.loop-k-preserved
loop-k-preserved c = store_more _ _ _ _ _ _ _ _ _ c.loop-k.invariant (search rules) _ _ _ c.known_entry-entry.ensures _ _ c.lowered.ensures c.lowered-in-loop-k.ensures
    (omega (arith, c.requires.store_entries_input.counted, c.requires.count_in_bounds)) (omega (arith, c.requires.store_entries_input.counted, c.requires.count_in_bounds))

pub returns : goal.returns
returns c = store_end _ _ _ _ _ _ _ _ _ c.loop-k.invariant (search rules)
