-- Laws of specs/WholeFactor.antt.
use Rattle.std.specs.Prelude.{◌≡◌, true, ℤ, pos, negsuc}
use Rattle.std.proofs.Common.{ap, eqb-true}
use Rattle.std.proofs.lemmas.Bool.{false≢true}
use Rattle.columns.specs.WholeFactor.{is_one}

pub one_is : (z : ℤ) → is_one z ≡ true → z ≡ pos 1
one_is (pos n) e = ap pos (eqb-true n 1 e)
one_is (negsuc n) e = absurd (false≢true e)
