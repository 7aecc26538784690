-- A choice by whether two numbers are equal. Assumes nothing.
use Rattle.std.specs.Prelude.{◌≡◌, Bool, cond, ◌≢◌, ℕ, eqb}
use Rattle.std.proofs.Common.{ap, eq-eqb, ne_eqb}

pub cond_same : {W : Type 0} (i j : ℕ) (x y : W) → i ≡ j → cond (eqb i j) x y ≡ x
cond_same i j x y e = ap (λ (b : Bool). cond b x y) (eq-eqb i j e)

pub cond_other : {W : Type 0} (i j : ℕ) (x y : W) → i ≢ j → cond (eqb i j) x y ≡ y
cond_other i j x y h = ap (λ (b : Bool). cond b x y) (ne_eqb i j h)
