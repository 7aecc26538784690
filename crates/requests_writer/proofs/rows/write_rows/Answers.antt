use Prim.Native.Nat.{◌<◌}
use mathlib.Core.List.{List}
use Rattle.requests_writer.specs.Lines.{Wrote}
use native.Mathlib.Omega.{arith}
use Prim.Native.Nat.{ℕ, ◌≤◌, ◌+◌}
use mathlib.Core.Path.{◌≡◌, ap, sym, ◌∙◌}
use lib.ListN.{length, get_or}
use mathlib.Core.List.{◌++◌}
use lib.ListN.{take, length-append}
use Rattle.requests_writer.specs.Lines.{entry_bytes, rows_bytes}
use Rattle.requests_writer.proofs.ByteLaws.{wrote_none, wrote_more, wrote_cong, rows_none, rows_next, rows_mono}
use Rattle.requests_writer.proofs.rows.write_rows.Goals as goal

-- there is room for the next line
room_for : (c k count : ℕ) (rows : List ℕ) (place next : ℕ) (text₀ text : List ℕ) → k < count → count ≤ length rows
    → place + length (rows_bytes c (take count rows)) ≤ length text₀
    → Wrote (rows_bytes c (take k rows)) place text₀ text next
    → length text ≡ length text₀
    → (r : ℕ) → r ≡ get_or rows k 0
    → next + length (entry_bytes c r) ≤ length text
room_for c k count rows place next text₀ text h listed room W long r e =
    let n = ap length (rows_next c rows k (omega arith)) ∙ length-append (rows_bytes c (take k rows)) (entry_bytes c (get_or rows k 0)) in
    omega (arith, n, rows_mono c rows (k + 1) count (omega arith), W.next_is, ap (λ (x : ℕ). length (entry_bytes c x)) e)

pub loop-k-init : goal.loop-k-init
loop-k-init c = let a = c.args in
    wrote_cong (sym (rows_none a.c a.rows.now)) (wrote_none a.place a.text.now)

pub write_entry-next-requires : goal.write_entry-next-requires
write_entry-next-requires c =
    let a = c.args in
    let l = c.loop-k in
    let P = c.requires.0 in
    let h = P.inside c.loop-k.k c.loop-k-test.true in
    (P.column, omega (arith, h, c.at.ensures), room_for a.c l.k a.count a.rows.now a.place l.next a.text.now l.text c.loop-k-test.true c.requires.0.listed c.requires.1 l.invariant l.auto.text c.at.result c.at.ensures)

pub loop-k-preserved : goal.loop-k-preserved
loop-k-preserved c = let l = c.loop-k in
    let a = c.args in
    let e = ap (λ (r : ℕ). rows_bytes a.c (take l.k a.rows.now) ++ entry_bytes a.c r) c.at.ensures ∙ sym (rows_next a.c a.rows.now l.k (omega (arith, c.loop-k-test.true, c.requires.0.listed))) in
    wrote_cong e (wrote_more (omega (arith, c.requires.1)) l.invariant c.write_entry-next.ensures)
