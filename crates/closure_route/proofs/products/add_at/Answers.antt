use Prim.Native.Nat.{ℕ}
use mathlib.Core.Path.{ap}
use lib.ListN.{set}
use Rattle.closure_route.specs.Products.{with_term}
use Rattle.closure_route.proofs.products.add_at.Goals as goal

pub returns : goal.returns
returns c = let a = c.args in
    ap (λ (x : ℕ). set a.result_values.now a.q (with_term a.result_values.now a.q a.l x)) c.at-position.ensures
