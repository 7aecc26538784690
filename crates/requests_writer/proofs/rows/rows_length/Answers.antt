use native.Mathlib.Omega.{arith}
use Prim.Native.Nat.{ℕ, ◌+◌}
use mathlib.Core.Path.{◌≡◌, ap, sym, ◌∙◌}
use lib.ListN.{length, get_or}
use lib.ListN.{take, length-append}
use Rattle.matrix_market.specs.Decimal.{decimal}
use Rattle.matrix_market.proofs.Decimal.{decimal_most}
use Rattle.requests_writer.specs.Lines.{entry_bytes, rows_bytes}
use Rattle.requests_writer.proofs.ByteLaws.{rows_none, rows_next, entry_length, entry_most}
use Rattle.requests_writer.proofs.rows.rows_length.Goals as goal

pub overflow_add-width : goal.overflow_add-width
overflow_add-width c = let a = c.args in omega (arith, c.number_length-width.ensures, decimal_most (a.c + 1), c.requires.column)

pub loop-k-init : goal.loop-k-init
loop-k-init c = record { total_is = sym (ap length (rows_none c.args.c c.args.rows.now)); most = omega arith }

pub overflow_add-total : goal.overflow_add-total
overflow_add-total c = let l = c.loop-k in
    let P = c.requires in
    let a = c.args in
    let r = get_or a.rows.now l.k 0 in
    let w = c.number_length-width.ensures in
    let g : length (decimal (c.at.result + 1)) ≡ length (decimal (r + 1)) = ap (λ (x : ℕ). length (decimal (x + 1))) c.at.ensures in
    let m = entry_most a.c r P.column (P.inside l.k c.loop-k-test.true) in
    let e = entry_length a.c r in
    let k< = c.loop-k-test.true in
    omega (arith, w, c.number_length.ensures, g, m, e)

pub overflow_add-total-in-loop-k : goal.overflow_add-total-in-loop-k
overflow_add-total-in-loop-k c = let l = c.loop-k in
    let P = c.requires in
    let a = c.args in
    let r = get_or a.rows.now l.k 0 in
    let w = c.number_length-width.ensures in
    let g : length (decimal (c.at.result + 1)) ≡ length (decimal (r + 1)) = ap (λ (x : ℕ). length (decimal (x + 1))) c.at.ensures in
    let m = entry_most a.c r P.column (P.inside l.k c.loop-k-test.true) in
    let e = entry_length a.c r in
    let k< = c.loop-k-test.true in
    omega (arith, w, c.number_length.ensures, g, m, e, l.invariant.most, l.auto.k-end, P.few)

pub loop-k-preserved : goal.loop-k-preserved
loop-k-preserved c = let l = c.loop-k in
    let P = c.requires in
    let a = c.args in
    let r = get_or a.rows.now l.k 0 in
    let w = c.number_length-width.ensures in
    let g : length (decimal (c.at.result + 1)) ≡ length (decimal (r + 1)) = ap (λ (x : ℕ). length (decimal (x + 1))) c.at.ensures in
    let m = entry_most a.c r P.column (P.inside l.k c.loop-k-test.true) in
    let e = entry_length a.c r in
    let k< = c.loop-k-test.true in
    let n = rows_next a.c a.rows.now l.k (omega (arith, k<, P.listed)) in
    let o = ap length n ∙ length-append (rows_bytes a.c (take l.k a.rows.now)) (entry_bytes a.c r) in
    record { total_is = omega (arith, w, c.number_length.ensures, g, e, o, l.invariant.total_is); most = omega (arith, w, c.number_length.ensures, g, m, e, l.invariant.most) }
