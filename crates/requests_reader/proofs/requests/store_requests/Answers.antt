use native.Mathlib.Omega.{arith}
use Rattle.requests_reader.proofs.RequestLaws.{count_none, count_some, stored_diagonals, stored_entries}
use Rattle.requests_reader.proofs.requests.store_requests.Goals as goal

pub store_diagonals-requires : goal.store_diagonals-requires
store_diagonals-requires c = let q = count_none c.args.n c.args.count c.if-count-eq0.true in
    (c.requires.store_entries_input.1, omega (arith, c.requires.count_in_bounds.0, q), omega (arith, c.requires.count_in_bounds.1, q))

pub returns-then-count-eq0 : goal.returns-then-count-eq0
returns-then-count-eq0 c = let a = c.args in
    stored_diagonals a.n a.text.now a.p a.count _ _ _ _ c.requires.store_entries_input.0 c.if-count-eq0.true c.store_diagonals.ensures

pub store_entries-requires : goal.store_entries-requires
store_entries-requires c = let q = count_some c.args.n c.args.count c.if-count-eq0.false in
    record { store_entries_input = c.requires.store_entries_input.0; count_in_bounds = (omega (arith, c.requires.count_in_bounds.0, q), omega (arith, c.requires.count_in_bounds.1, q)) }

pub returns : goal.returns
returns c = let a = c.args in
    stored_entries a.n a.text.now a.p a.count _ _ _ _ c.requires.store_entries_input.0 c.if-count-eq0.false c.store_entries.ensures
