-- Laws of specs/Entries.antt.
use Rattle.std.specs.Prelude.{List, [], ◌∷◌, ℕ, suc, ◌<◌}
use Rattle.std.proofs.Math.Nat.{le_step}
use Rattle.std.proofs.Common.{lt_of_lt_of_le}
use Rattle.takahashi.specs.Entries.{Entry, Each, Rows, Ascend}

pub each_map : {W : Type 0} (n j : ℕ) (P Q : ℕ → Type 0) (es : List (Entry W)) → ((k : ℕ) → j < k → k < n → P k → Q k)
    → Rows n j es → Each P es → Each Q es
each_map n j P Q [] f h p = tt
each_map n j P Q (e ∷ es) f h p = (f e.row h.0 h.1 p.0, each_map n j P Q es f h.2 p.1)

pub each_of_rows : {W : Type 0} (n j : ℕ) (Q : ℕ → Type 0) (es : List (Entry W)) → ((k : ℕ) → j < k → k < n → Q k) → Rows n j es → Each Q es
each_of_rows n j Q [] f h = tt
each_of_rows n j Q (e ∷ es) f h = (f e.row h.0 h.1, each_of_rows n j Q es f h.2)

pub ascend_rows : {W : Type 0} (n j a : ℕ) (es : List (Entry W)) → j < a → Ascend n a es → Rows n j es
ascend_rows n j a [] ja h = tt
ascend_rows n j a (e ∷ es) ja h = (
  lt_of_lt_of_le ja h.0,
  h.1,
  ascend_rows n j (suc e.row) es (le_step (lt_of_lt_of_le ja h.0)) h.2,
)
