use Rattle.closure.proofs.Answer.{closes, requests_past, queue_closed}
use Rattle.closure.specs.Covered.{stops_none}
use native.Mathlib.Omega.{arith}
use Prim.Native.Nat.{ℕ}
use lib.ListN.{length-replicate, get_or-replicate}
use Rattle.refusal.specs.Bounds.{max_dimension}
use Rattle.closure.proofs.takahashi_dependency_closure.Goals as goal

pub returns-then-limit-requested_pairs : goal.returns-then-limit-requested_pairs
returns-then-limit-requested_pairs g c = closes (λ req R. requests_past (g.T.StoredValue.kept c.args.values.now) c.args.limit c.requires.closure_input req R c.if-limit-requested_pairs.true)

pub close_queue-requires : goal.close_queue-requires
close_queue-requires g c = let long = length-replicate {A = ℕ} max_dimension 0 in record {
  queue_input = record {
    small = c.requires.closure_input.small;
    factor = c.requires.closure_input.factor;
    stopped = stops_none c.requires.closure_input.unlisted;
    span_starts_fit = omega (arith, c.requires.closure_input.small);
    span_ends_fit = omega (arith, c.requires.closure_input.small);
    unset = λ a l. get_or-replicate {A = ℕ} max_dimension a 0 0 (omega (arith, c.requires.closure_input.small));
    marked = c.requires.closure_input.marked;
    low = c.if-limit-requested_pairs.false;
  };
  values_lent = c.requires.values_lent;
}

pub returns : goal.returns
returns g c = closes (λ req R. queue_closed (g.T.StoredValue.kept c.args.values.now) c.args.limit c.requires.closure_input req R c.close_queue.ensures)
