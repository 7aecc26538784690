use Rattle.refusal.specs.Steps.{each, Passed}
use Rattle.result.specs.Lookup.{column_faults}
use Rattle.column_search.proofs.result_check.check_each.Given as goal

abbrev pub invariant-loop-c : goal.invariant-loop-c
invariant-loop-c l = Passed (each (column_faults l.starts l.rows l.values) l.c)
