use Rattle.refusal.proofs.Returned.{returned_is}
use mathlib.Core.Path.{sym}
use Rattle.requests_writer.proofs.WriterLaws.{requests_refused}
use Rattle.requests_writer.proofs.write_requests.Goals as goal

pub write_accepted-requires : goal.write_accepted-requires
write_accepted-requires c = sym c.in_ok-check_written.ensures

pub returns-in_err-check_written : goal.returns-in_err-check_written
returns-in_err-check_written c = let a = c.args in
    rw (returned_is _ _ c.from_residual.ensures.1) (requests_refused a.dimension a.rows.now a.columns.now a.output.now a.scratch.now _ (sym c.in_err-check_written.ensures))

pub returns : goal.returns
returns c = c.write_accepted.ensures
