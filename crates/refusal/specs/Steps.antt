-- The lowest step decides: a call's reply is the number of the first condition that holds, or its answer where none does.
-- Assumes nothing.
use Prim.Native.Nat.{ℕ, zero, suc, ◌+◌}
use Rattle.std.specs.Prelude.{◌≡◌, Bool, true, false, List, [], ◌∷◌, ◌++◌}

-- a refusal's number and the condition for it
abbrev pub Step : Type 0
Step = ℕ × Bool

-- what a call replies: a refusal's number, or the answer
pub data Reply (A : Type 0) : Type 0 where
  refused : ℕ → Reply A
  answered : A → Reply A

-- one step before the later ones
abbrev pub decide : {A : Type 0} → Bool → ℕ → Reply A → Reply A
decide true k later = refused k
decide false k later = later

-- the number of the first condition that holds; the answer if none does
unfoldable pub first : {A : Type 0} → List Step → A → Reply A
first [] a = answered a
first (s ∷ rest) a = decide s.1 s.0 (first rest a)

-- as it was after a refusal, else anew
abbrev pub settle : {A : Type 0} → A → Reply A → A
settle old (refused k) = old
settle old (answered new) = new

-- what a lent list holds afterwards: `new` where no condition holds, else `old`
unfoldable pub after : {A : Type 0} → List Step → A → A → A
after steps new old = settle old (first steps new)

-- the steps of element 0, then those of element 1, .., n elements
unfoldable pub each : (ℕ → List Step) → ℕ → List Step
each f zero = []
each f (suc k) = each f k ++ f k

-- the reply where there is no answer but acceptance
abbrev pub verdict : List Step → Reply (Unit {0})
verdict steps = first steps tt

-- no condition holds
abbrev pub Passed : List Step → Type 0
Passed steps = verdict steps ≡ answered tt

-- each condition is false
abbrev pub Clear : List Step → Type 0
Clear [] = Unit
Clear (s ∷ rest) = (s.1 ≡ false) × Clear rest
