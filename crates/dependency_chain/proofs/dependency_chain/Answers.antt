use Rattle.std.proofs.Common.{refl}
use Rattle.refusal.proofs.Returned.{returned}
use Prim.Native.Nat.{ℕ}
use mathlib.Core.Path.{sym}
use lib.ListN.{length}
use mathlib.Core.Path.{subst₂}
use Rattle.dependency_chain.specs.Chain.{chain_call}
use Rattle.dependency_chain.specs.Laws.{SeekInput}
use Rattle.dependency_chain.proofs.Laws.{asked_accepted}
use Rattle.dependency_chain.proofs.ListLaws.{chain_listed, chain_refused, listed_at}
use Rattle.dependency_chain.proofs.dependency_chain.Goals as goal

pub seek_chain-requires : goal.seek_chain-requires
seek_chain-requires c =
    let handed = chain_call c.args.n c.args.starts.now c.args.rows.now c.args.values.now c.args.dimension c.args.request_rows.now c.args.request_columns.now c.args.row c.args.column in
    let passed = sym c.in_ok-check_asked.ensures in
    let a = c.args in
    subst₂ (λ (i j : ℕ). SeekInput a.n a.starts.now a.rows.now (length a.values.now) a.request_rows.now a.request_columns.now i j a.scratch.now)
    (sym c.max.ensures) (sym c.min.ensures)
    (asked_accepted handed a.scratch.now passed)

pub returns-in_err-check_asked : goal.returns-in_err-check_asked
returns-in_err-check_asked c =
    let handed = chain_call c.args.n c.args.starts.now c.args.rows.now c.args.values.now c.args.dimension c.args.request_rows.now c.args.request_columns.now c.args.row c.args.column in
    let a = c.args in
    rw (returned _ _ c.from_residual.ensures.1 refl)
    (chain_refused handed a.scratch.now a.chain_rows.now a.chain_columns.now _ (sym c.in_err-check_asked.ensures))

pub returns : goal.returns
returns c =
    let handed = chain_call c.args.n c.args.starts.now c.args.rows.now c.args.values.now c.args.dimension c.args.request_rows.now c.args.request_columns.now c.args.row c.args.column in
    let passed = sym c.in_ok-check_asked.ensures in
    let a = c.args in
    chain_listed handed a.scratch.now a.chain_rows.now a.chain_columns.now passed
    (listed_at handed c.max.ensures c.min.ensures c.seek_chain.ensures.listed)
    c.seek_chain.ensures.scratch_after
