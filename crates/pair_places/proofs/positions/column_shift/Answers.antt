use native.Mathlib.Omega.{arith}
use native.Mathlib.Nat.{mul-add, mul-le-mul}
use Prim.Native.Nat.{ℕ, ◌+◌, ◌*◌, ◌-◌, ◌/◌, ◌≤◌, ◌<◌}
use mathlib.Core.Path.{◌≡◌, ap}
use Rattle.refusal.specs.Bounds.{max_dimension}
use Rattle.pairs.specs.ColumnOrder.{col_start}
use Rattle.pairs.proofs.ColumnOrder.{col_start-half}
use Rattle.pair_places.proofs.positions.column_shift.Goals as goal

-- as the code computes the shift of column c
shift-start : (n c : ℕ) → c < n → c * (2 * n - 1 - c) / 2 + c ≡ col_start n c
shift-start n c h =
    let q : 2 * n + 1 - c ≡ 2 * n - 1 - c + 2 = omega arith in
    omega (arith, col_start-half n c (omega arith), ap (λ (k : ℕ). c * k) q, mul-add c (2 * n - 1 - c) 2)

pub overflow_mul-result-2 : goal.overflow_mul-result-2
overflow_mul-result-2 c = let a = c.args in
    let h : a.c ≤ max_dimension = omega arith in
    let g : 2 * a.n - 1 - a.c ≤ 2 * max_dimension = omega arith in
    omega (arith, mul-le-mul h g)

pub returns : goal.returns
returns c = shift-start c.args.n c.args.c c.requires.1
