-- Laws of specs/Groups.antt.
use Rattle.std.specs.Prelude.{ℕ, ◌≡◌, refl, List, [], ◌∷◌, ◌++◌}
use Rattle.std.proofs.Common.{◌∙◌}
use Rattle.refusal.specs.Steps.{Step, refused, verdict, Passed, first}
use Rattle.refusal.proofs.Steps.{append-refused, append_passed, passed_append, passed_front, passed_back}
use Rattle.refusal.specs.Groups.{grouped, AllPassed}

pub groups_passed : (groups : List (List Step)) → Passed (grouped groups) → AllPassed groups
groups_passed [] p = tt
groups_passed (g ∷ []) p = (p, tt)
groups_passed (g ∷ (h ∷ rest)) p = (passed_front g (grouped (h ∷ rest)) p, groups_passed (h ∷ rest) (passed_back g (grouped (h ∷ rest)) p))

pub passed_groups : (groups : List (List Step)) → AllPassed groups → Passed (grouped groups)
unfolding first
passed_groups [] p = refl
passed_groups (g ∷ []) p = p.0
passed_groups (g ∷ (h ∷ rest)) p = passed_append g (grouped (h ∷ rest)) p.0 (passed_groups (h ∷ rest) p.1)

-- the first group that refuses decides
pub grouped-refused : (before : List (List Step)) (g : List Step) (later : List (List Step)) {k : ℕ} → AllPassed before → verdict g ≡ refused k
    → verdict (grouped (before ++ (g ∷ later))) ≡ refused k
grouped-refused [] g [] p e = e
grouped-refused [] g (h ∷ later) {k} p e = append-refused g (grouped (h ∷ later)) k tt e
grouped-refused (b ∷ []) g later p e = append_passed b (grouped (g ∷ later)) tt p.0 ∙ grouped-refused [] g later tt e
grouped-refused (b ∷ (d ∷ before)) g later p e =
    append_passed b (grouped (d ∷ (before ++ (g ∷ later)))) tt p.0 ∙ grouped-refused (d ∷ before) g later p.1 e

-- past all the others the last one does
pub grouped_last : (before : List (List Step)) (g : List Step) → AllPassed before → verdict (grouped (before ++ (g ∷ []))) ≡ verdict g
grouped_last [] g p = refl
grouped_last (b ∷ []) g p = append_passed b g tt p.0
grouped_last (b ∷ (d ∷ before)) g p = append_passed b (grouped (d ∷ (before ++ (g ∷ [])))) tt p.0 ∙ grouped_last (d ∷ before) g p.1
