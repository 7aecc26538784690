use Rattle.std.specs.Prelude.{ℕ, Result}
use Rattle.std.proofs.Common.{refl, ap, sym, ◌∙◌}
use Rattle.std.proofs.lemmas.List.{get_or_read_under}
use Rattle.result.specs.Lookup.{value_at}
use Rattle.refusal.specs.declared.Refusal.{Refusal}
use Rattle.refusal.specs.Steps.{answered}
use Rattle.refusal.specs.Refusal.{reply_of}
use Rattle.refusal.proofs.Returned.{returned}
use Rattle.lookup.proofs.ordered.value_at.Goals as goal

pub bounds-values-p : goal.bounds-values-p
bounds-values-p g c = c.requires.below c.in_ok-p.p (ap reply_of c.in_ok-p.was)

pub returns-in_err-p : goal.returns-in_err-p
returns-in_err-p g c blank = returned _ _ c.from_residual.ensures.1 (ap (λ (q : Result ℕ Refusal). value_at blank c.args.values.now (reply_of q)) c.in_err-p.was)

pub returns : goal.returns
returns g c blank =
    ap answered (get_or_read_under _ _ _ _ blank c.index-values-p.is (c.requires.below c.in_ok-p.p (ap reply_of c.in_ok-p.was)) refl)
    ∙ sym (ap (λ (q : Result ℕ Refusal). value_at blank c.args.values.now (reply_of q)) c.in_ok-p.was)
