-- A call's steps as groups, one after the other: they pass exactly if each group passes, and the first group that refuses decides.
-- Assumes nothing.
use Rattle.std.specs.Prelude.{List, [], ◌∷◌, ◌++◌}
use Rattle.refusal.specs.Steps.{Step, Passed}

-- the steps of the first group, then those of the next, and so on
abbrev pub grouped : List (List Step) → List Step
grouped [] = []
grouped (g ∷ []) = g
grouped (g ∷ (h ∷ rest)) = g ++ grouped (h ∷ rest)

-- each group passes
abbrev pub AllPassed : List (List Step) → Type 0
AllPassed [] = Unit
AllPassed (g ∷ rest) = Passed g × AllPassed rest
