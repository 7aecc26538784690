use native.Mathlib.Omega.{arith}
use mathlib.Core.Path.{◌≡◌, ap, sym, ◌∙◌}
use Rattle.refusal.proofs.Steps.{each_none, each_more, each_refused}
use Rattle.refusal.specs.Refusal.{reply_of}
use Rattle.result.specs.Lookup.{dimension}
use Rattle.column_search.proofs.result_check.check_each.Goals as goal

pub loop-c-init : goal.loop-c-init
loop-c-init c = each_none _

pub returns-in-Err : goal.returns-in-Err
returns-in-Err c =
    sym (each_refused _ _ c.loop-c.c _ _ (omega arith) c.loop-c.invariant (sym c.check_column.ensures ∙ ap reply_of c.in-Err.is))

pub loop-c-preserved : goal.loop-c-preserved
loop-c-preserved c = each_more _ _ c.loop-c.invariant (sym c.check_column.ensures ∙ ap reply_of c.in_default.is)

pub returns : goal.returns
returns c =
    let e : c.loop-c.c ≡ dimension c.args.starts.now = omega arith in
    sym (rw e at c.loop-c.invariant)
