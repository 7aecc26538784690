use native.Mathlib.Omega.{arith}
use Prim.Native.Nat.{ℕ, ◌-◌}
use mathlib.Core.Path.{◌≡◌, ap, sym, ◌∙◌}
use mathlib.Core.List.{List, ◌++◌}
use lib.ListN.{length, drop}
use lib.IntN.{ℤ}
use Rattle.lists.specs.Overwrite.{overwrite}
use Rattle.whole_pairs.specs.Entry.{entry_or_zero}
use Rattle.run_sums.specs.Runs.{run_sums}
use Rattle.run_sums.proofs.Runs.{run_sums-length}
use Rattle.track_variances.proofs.runs.write_runs.Goals as goal

-- src/runs.rt:79:1
pub returns : goal.returns
unfolding overwrite
returns c = let a = c.args in
    let Z = entry_or_zero a.starts.now a.rows.now a.values.now in
    let new = run_sums Z a.track.now a.width in
    let n : length new ≡ length a.track.now - (a.width - 1) - 0 = run_sums-length Z a.track.now a.width ∙ omega (arith, c.requires.runs_ready.wide, c.requires.runs_ready.long) in
    ap (λ (l : List ℤ). l ++ drop (length a.track.now - (a.width - 1) - 0) a.output.now) c.all_cells.ensures
    ∙ ap (λ (k : ℕ). new ++ drop k a.output.now) (sym n)
