-- What `fill` and `copy_from_slice` leave where they write the front of a list.
-- Assumes nothing.
use Prim.Native.Nat.{ℕ, ◌≤◌, ◌<◌}
use Rattle.std.proofs.Common.{◌≡◌, List, ◌++◌, length, get_or, take, drop, sym, ap₂, ◌∙◌, arith, ext_get_or}
use Rattle.std.proofs.Math.ListN.{replicate}
use Rattle.std.proofs.lemmas.List.{length-replicate, length-take-le, get_or-replicate, get_or-take}
use Rattle.lists.specs.Tabulate.{tabulate, tabulate-length, tabulate_at}
use Rattle.lists.specs.Overwrite.{overwrite, filled}

module _ {A : Type 0} (d : A) where
  written : (f : ℕ → A) (m : ℕ) (new old : List A) → length new ≡ m → ((i : ℕ) → i < m → get_or new i d ≡ f i) → new ++ drop m old ≡ filled f m old
  unfolding filled overwrite
  written f m new old long at =
      let same = ext_get_or d new (tabulate f m) (long ∙ sym (tabulate-length f m)) (λ i l. let h : i < m = omega arith in at i h ∙ sym (tabulate_at f m i d h)) in
      ap₂ (λ (l : List A) (k : ℕ). l ++ drop k old) same (sym (tabulate-length f m))

  -- one element in each place of the front
  pub filled-one : (m : ℕ) (old : List A) → replicate m d ++ drop m old ≡ filled (λ _. d) m old
  filled-one m old = written (λ _. d) m (replicate m d) old (length-replicate m d) (λ i h. get_or-replicate m i d d h)

  -- the front of another list
  pub filled-copy : (m : ℕ) (from old : List A) → m ≤ length from → take m from ++ drop m old ≡ filled (λ i. get_or from i d) m old
  filled-copy m from old h = written (λ i. get_or from i d) m (take m from) old (length-take-le m from h) (λ i l. get_or-take m from i d l)
