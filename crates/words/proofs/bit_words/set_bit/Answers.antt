use native.Mathlib.Omega.{arith}
use Prim.Native.Nat.{ℕ, ◌*◌, ◌/◌, ◌%◌, ◌^◌}
use mathlib.Core.Path.{◌≡◌, ap, ◌∙◌}
use native.Mathlib.Nat.{one-mul}
use mathlib.Core.List.{List}
use lib.Dec.{lit≤}
use lib.Bits.{bit_or}
use lib.Pow.{shl_exact}
use lib.ListN.{get_or, set}
use Rattle.words.proofs.bit_words.set_bit.Goals as goal

-- src/lib.rt:17:1
pub returns : goal.returns
returns c = let a = c.args in
    let p : ℕ = a.p in
    let w : List ℕ = a.words.now in
    let e : (1 * 2 ^ (p % 32)) % 2 ^ 32 ≡ 2 ^ (p % 32) = shl_exact 1 (p % 32) 32 (lit≤ tt) (omega arith) ∙ one-mul (2 ^ (p % 32)) in
    ap (λ (x : ℕ). set w (p / 32) (bit_or (get_or w (p / 32) 0) x)) e
