-- What `?` returns of a refusal: the same refusal.
-- Assumes nothing.
use Rattle.std.specs.Prelude.{◌≡◌, Result, Ok, Err, IsErrAnd}
use Rattle.std.proofs.Common.{sym, ap, ◌∙◌}
use Rattle.refusal.specs.declared.Refusal.{Refusal}
use Rattle.refusal.specs.Steps.{Reply, refused}
use Rattle.refusal.specs.Refusal.{refusal_number, reply_of}

pub returned_is : {A : Type 0} (r : Result A Refusal) (e : Refusal) → IsErrAnd r (λ x. x ≡ e) → r ≡ Err e
returned_is (Ok a) e h = absurd h
returned_is (Err x) e h = ap (λ (y : Refusal). Err y) h

-- its reply, where the steps reply the same
pub returned : {A : Type 0} (r : Result A Refusal) (e : Refusal) {v : Reply A} → IsErrAnd r (λ x. x ≡ e) → v ≡ refused (refusal_number e) → reply_of r ≡ v
returned r e h q = ap reply_of (returned_is r e h) ∙ sym q
