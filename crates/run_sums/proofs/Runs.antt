-- Laws of specs/Runs.antt.
use Rattle.std.specs.Prelude.{ℕ, ◌-◌, ◌<◌, ◌≡◌, List, length, get_or, ℤ}
use Rattle.lists.specs.Tabulate.{tabulate-length, tabulate_at}
use Rattle.run_sums.specs.Runs.{run_sum, runs, run_sums}

pub run_sums-length : (Z : ℕ → ℕ → ℤ) (track : List ℕ) (k : ℕ) → length (run_sums Z track k) ≡ runs (length track) k
unfolding run_sums
run_sums-length Z track k = tabulate-length (run_sum Z track k) (runs (length track) k)

-- the variance that is listed for the run from place i on
pub run_sums_at : (Z : ℕ → ℕ → ℤ) (track : List ℕ) (k i : ℕ) (d : ℤ) → i < runs (length track) k → get_or (run_sums Z track k) i d ≡ run_sum Z track k i
unfolding run_sums
run_sums_at Z track k i d h = tabulate_at (run_sum Z track k) (runs (length track) k) i d h
