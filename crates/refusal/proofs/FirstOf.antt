-- Laws of specs/FirstOf.antt.
use Rattle.std.specs.Prelude.{◌≡◌, refl, List, ◌++◌}
use Rattle.std.proofs.Common.{sym, ap, ap₂, ◌∙◌}
use Rattle.refusal.specs.Steps.{Step, Reply, refused, answered, verdict}
use Rattle.refusal.proofs.Steps.{append-refused, append_passed}
use Rattle.refusal.specs.FirstOf.{or_else}

pub verdict-append : (steps rest : List Step) → verdict (steps ++ rest) ≡ or_else (verdict steps) (verdict rest)
verdict-append steps rest = go (verdict steps) refl
  where
    go : (v : Reply (Unit {0})) → verdict steps ≡ v → verdict (steps ++ rest) ≡ or_else (verdict steps) (verdict rest)
    go (refused k) e = append-refused steps rest k tt e ∙ sym (ap (λ (r : Reply (Unit {0})). or_else r (verdict rest)) e)
    go (answered tt) e = append_passed steps rest tt e ∙ sym (ap (λ (r : Reply (Unit {0})). or_else r (verdict rest)) e)

-- the replies of two checks, put together
pub verdicts : (steps rest : List Step) {a b c : Reply (Unit {0})} → c ≡ or_else a b → a ≡ verdict steps → b ≡ verdict rest → c ≡ verdict (steps ++ rest)
verdicts steps rest e p q = e ∙ ap₂ or_else p q ∙ sym (verdict-append steps rest)
