use mathlib.Core.Path.{◌≡◌}
use Rattle.whole_route.specs.Number.{number_reply, SmallNumber}
use Rattle.whole_route.specs.Sums.{whole_inverse_at, whole_sum}
use Rattle.whole_route.proofs.sums.entry_sum.Given as goal

abbrev pub invariant-loop-p : goal.invariant-loop-p
invariant-loop-p l = (number_reply l.sum ≡ whole_sum l.rows l.values l.j (whole_inverse_at l.n l.scratch l.inverse l.i) l.s l.p) × SmallNumber (number_reply l.sum)
