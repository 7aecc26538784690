-- The marks of the diagonal list: 1 exactly where the lookup answers, and there the value beside it is that answer.
-- Assumes nothing.
use Rattle.std.specs.Prelude.{ℕ, ◌+◌, ◌<◌, ◌≡◌, refl, Bool, true, false, List, length, get_or, Float}
use Rattle.std.proofs.Common.{arith, le_refl, sym, ap, ◌∙◌}
use Rattle.std.specs.Float.{nan}
use Rattle.lists.specs.Sum.{bit}
use Rattle.lists.specs.Tabulate.{tabulate-length, tabulate_at}
use Rattle.refusal.specs.Steps.{Reply, refused, answered, settle}
use Rattle.columns.specs.Columns.{start}
use Rattle.columns.specs.Kept.{f0}
use Rattle.result.specs.Place.{holds}
use Rattle.result.proofs.Place.{holds_stands, place_in_absent}
use Rattle.result.specs.Lookup.{dimension, finds, value_at, lookup, mark_of, diagonals, coverage, WellFormed}
use Rattle.result.proofs.Laws.{diagonals_at, lookup_column, lookup_at}

module _ (starts rows : List ℕ) (values : List Float) where
  pub coverage-length : length (coverage starts rows values) ≡ dimension starts
  unfolding coverage
  coverage-length = tabulate-length _ (dimension starts)

  pub coverage_at : (c : ℕ) → c < dimension starts → get_or (coverage starts rows values) c 0 ≡ mark_of nan starts rows values c
  unfolding coverage
  coverage_at c l = tabulate_at _ (dimension starts) c 0 l

  module _ (c : ℕ) (inside : c < dimension starts) where
    -- where the lookup answers the mark is 1, and the value is that answer
    pub marked_found : (v : Float) → lookup starts rows values c c ≡ answered v → (get_or (coverage starts rows values) c 0 ≡ 1) × (get_or (diagonals starts rows values) c nan ≡ v)
    marked_found v e =
        (coverage_at c inside ∙ ap (λ (r : Reply Float). bit (finds r)) e, diagonals_at starts rows values c inside ∙ ap (settle f0) e)

    -- where it refuses the mark is 0, and the value is 0.0
    pub unmarked_refused : (k : ℕ) → lookup starts rows values c c ≡ refused k → (get_or (coverage starts rows values) c 0 ≡ 0) × (get_or (diagonals starts rows values) c nan ≡ f0)
    unmarked_refused k e =
        (coverage_at c inside ∙ ap (λ (r : Reply Float). bit (finds r)) e, diagonals_at starts rows values c inside ∙ ap (settle f0) e)

    -- a mark of 1 tells that the lookup answers with the value beside it
    pub found_marked : get_or (coverage starts rows values) c 0 ≡ 1 → lookup starts rows values c c ≡ answered (get_or (diagonals starts rows values) c nan)
    found_marked h = of (lookup starts rows values c c) refl
      where
        of : (r : Reply Float) → lookup starts rows values c c ≡ r → lookup starts rows values c c ≡ answered (get_or (diagonals starts rows values) c nan)
        of (answered v) e = e ∙ ap (λ (x : Float). answered x) (sym (marked_found v e).1)
        of (refused k) e = absurd (omega (arith, h, (unmarked_refused k e).0))

    -- in a well-formed result a mark of 0 tells that the lookup gives 8
    pub absent_unmarked : WellFormed starts rows (length values) → get_or (coverage starts rows values) c 0 ≡ 0 → lookup starts rows values c c ≡ refused 8
    absent_unmarked W h = of (holds rows c (start starts c) (start starts (c + 1))) refl
      where
        of : (b : Bool) → holds rows c (start starts c) (start starts (c + 1)) ≡ b → lookup starts rows values c c ≡ refused 8
        of true e =
            let f = holds_stands rows c (start starts c) (start starts (c + 1)) e in
            absurd (omega (arith, h, (marked_found _ (lookup_at nan starts rows values W c c (le_refl c) inside f.0 f.1)).0))
        of false e = lookup_column nan starts rows values W c c (le_refl c) inside ∙ ap (value_at nan values) (place_in_absent rows c _ _ e)
