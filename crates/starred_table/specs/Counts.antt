-- The counts and the ratio that a call's reply shows.
-- Assumes nothing.
use Rattle.std.specs.Prelude.{ℕ, ◌≡◌, refl, Bool, true, false, not, ◌&&◌, eqb, Float}
use Rattle.std.proofs.Common.{ap, ◌∙◌, eq-eqb}
use Rattle.std.specs.Float.Ieee.{eq}
use Rattle.refusal.specs.Steps.{Reply, refused, answered}
use Rattle.diagnostics.specs.declared.SelectedInverseDiagnostics.{SelectedInverseDiagnostics}
use Rattle.diagnostics.specs.declared.SelectedInverseStatus.TheVariants.{Complete, ClosureTooLarge}
use Rattle.diagnostics.specs.Diagnosis.{complete_of, diagnosis}

-- the test has that outcome
abbrev pub agrees : Bool → Bool → Bool
agrees true b = b
agrees false b = not b

-- whether a diagnosis has these counts and is complete or not
abbrev pub shows_of : SelectedInverseDiagnostics → ℕ → ℕ → ℕ → Bool → Bool
shows_of d requested closure factor complete =
    eqb d.requested_pairs requested && (eqb d.closure_pairs closure && (eqb d.factor_pairs factor && agrees complete (complete_of d.status)))

-- the same of a call's reply
abbrev pub counted_of : Reply SelectedInverseDiagnostics → ℕ → ℕ → ℕ → Bool → Bool
counted_of (answered d) requested closure factor complete = shows_of d requested closure factor complete
counted_of (refused k) requested closure factor complete = false

-- whether a reply has this ratio
abbrev pub has_ratio : Reply SelectedInverseDiagnostics → Float → Bool
has_ratio (answered d) ratio = eq d.closure_over_factor ratio
has_ratio (refused k) ratio = false

-- a diagnosis shows its own counts and status
pub shows_complete : (a b c limit : ℕ) → counted_of (answered (diagnosis a b c limit Complete)) a b c true ≡ true
unfolding diagnosis
shows_complete a b c limit = rw (eq-eqb a a refl, eq-eqb b b refl, eq-eqb c c refl)

pub shows_large : (a b c limit : ℕ) → counted_of (answered (diagnosis a b c limit ClosureTooLarge)) a b c false ≡ true
unfolding diagnosis
shows_large a b c limit = rw (eq-eqb a a refl, eq-eqb b b refl, eq-eqb c c refl)

-- so does a reply that is such an answer
pub counted_complete : {r : Reply SelectedInverseDiagnostics} (a b c limit : ℕ) → r ≡ answered (diagnosis a b c limit Complete) → counted_of r a b c true ≡ true
counted_complete a b c limit e = ap (λ (x : Reply SelectedInverseDiagnostics). counted_of x a b c true) e ∙ shows_complete a b c limit

pub counted_large : {r : Reply SelectedInverseDiagnostics} (a b c limit : ℕ) → r ≡ answered (diagnosis a b c limit ClosureTooLarge) → counted_of r a b c false ≡ true
counted_large a b c limit e = ap (λ (x : Reply SelectedInverseDiagnostics). counted_of x a b c false) e ∙ shows_large a b c limit
