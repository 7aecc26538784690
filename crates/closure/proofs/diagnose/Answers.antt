use Rattle.closure.specs.Closure.{marked_set, marked_requested}
use Rattle.closure.proofs.Diagnosis.{count_small, counts_diagnosis}
use Rattle.closure.proofs.diagnose.Goals as goal

pub takahashi_dependency_closure-count-requires : goal.takahashi_dependency_closure-count-requires
takahashi_dependency_closure-count-requires g c = record { closure_input = c.requires.closure_input; values_lent = c.requires.values_lent }

pub selected_inverse_diagnostics-requires : goal.selected_inverse_diagnostics-requires
selected_inverse_diagnostics-requires g c = let a = c.args in
    let S = marked_set a.n a.scratch.now in
    let R = marked_requested a.n a.scratch.now in
    (count_small (g.T.StoredValue.kept a.values.now) a.limit c.requires.closure_input S R a.kept_pairs (c.takahashi_dependency_closure-count.ensures.counts S R), c.requires.kept_pairs_le_max_count)

pub returns : goal.returns
returns g c = let e = c.takahashi_dependency_closure-count.ensures in
    let a = c.args in
    record {
      answers = λ req R.
          counts_diagnosis (g.T.StoredValue.kept a.values.now) a.limit c.requires.closure_input req R a.kept_pairs (e.counts req R)
          c.status_within.ensures c.selected_inverse_diagnostics.ensures;
      leaves = e.leaves;
    }
