-- Whether a test holds of every element of a list, or of some.
-- Assumes nothing.
use Rattle.std.specs.Prelude.{◌≡◌, Bool, true, false, ◌&&◌, ◌||◌, List, [], ◌∷◌}
use Rattle.std.proofs.Math.Path.{refl}

unfoldable pub every : {A : Type 0} → (A → Bool) → List A → Bool
every test [] = true
every test (x ∷ l) = test x && every test l

unfoldable pub some : {A : Type 0} → (A → Bool) → List A → Bool
some test [] = false
some test (x ∷ l) = test x || some test l

module _ {A : Type 0} (test : A → Bool) where
  pub some_none : some test [] ≡ false
  unfolding some
  some_none = refl

  pub some_next : (x : A) (l : List A) → some test (x ∷ l) ≡ (test x || some test l)
  unfolding some
  some_next x l = refl
