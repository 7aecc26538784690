use Prim.Native.Nat.{ℕ, ◌+◌}
use native.Mathlib.Omega.{arith}
use mathlib.Core.Path.{◌≡◌, sym, ap, ◌∙◌}
use mathlib.Core.Bool.{Bool, false, ◌&&◌}
use mathlib.Core.List.{List}
use Rattle.std.proofs.Math.Bool.{and-false}
use Rattle.lists.specs.Test.{any, any_in, any_all, any_in_all, any_in_below}
use Rattle.columns.specs.Columns.{start}
use Rattle.columns.specs.Factor.{Factor}
use Rattle.columns.specs.Kept.{kept}
use Rattle.columns.proofs.Factor.{starts_end}
use Rattle.factor_check.specs.Unfit.{unfit_column}
use Rattle.factor_check.proofs.unfit.kept_unfit.Goals as goal

-- where no value is unfit, no kept entry is
all_fit : {n m : ℕ} {starts rows : List ℕ} (nz unfit : ℕ → Bool) → Factor n starts rows m → any_in unfit 0 m ≡ false
    → any (unfit_column starts rows nz unfit) n ≡ false
all_fit {n} {m} {starts} {rows} nz unfit F none =
    any_all (unfit_column starts rows nz unfit) n
    (λ c h.
    any_in_all (λ p. kept rows nz c p && unfit p) (start starts c) (start starts (c + 1))
    (λ p lo hi.
    ap (λ (b : Bool). kept rows nz c p && b)
    (any_in_below unfit 0 m p none (omega arith) (omega (arith, hi, F.valued, starts_end F.starts_rise (c + 1) (omega arith))))
    ∙ and-false (kept rows nz c p)))

pub returns-then-not-unfit_between : goal.returns-then-not-unfit_between
returns-then-not-unfit_between g c = let values = c.args.values.now in
    sym
    (all_fit (g.T.StoredValue.kept values) (g.T.CheckedValue.unfit values) c.requires (sym c.unfit_between.ensures ∙ c.if-not-unfit_between.true))
