-- A check's answer as one number, and that it says what the reply says.
-- Assumes nothing.
use Rattle.std.specs.Prelude.{ℕ, ◌≡◌, refl, Ok, Err, Result}
use Rattle.refusal.specs.Steps.{Reply, refused, answered}
use Rattle.refusal.specs.Refusal.{refusal_number, reply_of}
use Rattle.refusal.specs.declared.Refusal.{Refusal}

-- 0 where a call is accepted, else the refusal's number
abbrev pub checked_number : Result (Unit {0}) Refusal → ℕ
checked_number (Ok tt) = 0
checked_number (Err r) = refusal_number r

-- the same of a reply
abbrev pub reply_number : {A : Type 0} → Reply A → ℕ
reply_number (refused k) = k
reply_number (answered a) = 0

pub checked_number-reply : (r : Result (Unit {0}) Refusal) → checked_number r ≡ reply_number (reply_of r)
checked_number-reply (Ok tt) = refl
checked_number-reply (Err r) = refl
