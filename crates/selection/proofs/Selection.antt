-- Laws of specs/Selection.antt.
use Rattle.std.specs.Prelude.{ℕ, ◌+◌, ◌-◌, ◌≤◌, ◌≡◌, refl, Bool, true, cond, List, [], ◌++◌, length, drop}
use Rattle.std.proofs.Common.{arith, sym, ap, ◌∙◌, drop-drop}
use Rattle.lists.specs.Tabulate.{tabulate, tabulate-length}
use Rattle.lists.specs.Overwrite.{overwrite, filled, cleared}
use Rattle.refusal.specs.Steps.{Step, refused, first, verdict, Passed}
use Rattle.refusal.proofs.Steps.{after_refused, after_passed}
use Rattle.entries.specs.Entries.{entry_starts, entry_rows, entry_values}
use Rattle.selection.specs.Selection.{LentOf, Filling, filled_starts, filled_rows, filled_values, cleared_scratch, ListsAfter, ResultLists}

-- ---- cleared words

abbrev zeros : ℕ → ℕ
zeros _ = 0

-- words that agree from k on are the same once their first m are cleared
pub cleared_same : (k m : ℕ) (s s' : List ℕ) → k ≤ m → drop k s ≡ drop k s' → cleared m s ≡ cleared m s'
unfolding filled overwrite
cleared_same k m s s' h e =
    ap (λ (l : List ℕ). tabulate zeros m ++ l) (back s ∙ ap (drop (m - k)) e ∙ sym (back s'))
  where
    back : (l : List ℕ) → drop (length (tabulate zeros m)) l ≡ drop (m - k) (drop k l)
    back l =
        let q : length (tabulate zeros m) ≡ k + (m - k) = omega (arith, tabulate-length zeros m) in
        ap (λ (j : ℕ). drop j l) q ∙ sym (drop-drop (m - k) k l)

-- ---- the lists of a refused call, and of one that passed

pub nothing-refused : Passed []
unfolding first
nothing-refused = refl

module _ {W : Type 0} (steps : List Step) (f : Filling W) (lent : LentOf W) where
  pub lists_refused : {k : ℕ} → verdict steps ≡ refused k → ResultLists steps f lent lent
  lists_refused {k} e = record {
    starts_are = sym (after_refused steps k _ _ e);
    rows_are = sym (after_refused steps k _ _ e);
    values_are = sym (after_refused steps k _ _ e);
    scratch_is = sym (after_refused steps k _ _ e);
  }

  module _ (p : Passed steps) {left : LentOf W} where
    pub lists_passed : left.result_starts ≡ filled_starts f lent → left.result_rows ≡ filled_rows f lent → left.result_values ≡ filled_values f lent
        → left.scratch ≡ cleared_scratch f lent → ResultLists steps f lent left
    lists_passed a b c d = record {
      starts_are = a ∙ sym (after_passed steps _ _ p);
      rows_are = b ∙ sym (after_passed steps _ _ p);
      values_are = c ∙ sym (after_passed steps _ _ p);
      scratch_is = d ∙ sym (after_passed steps _ _ p);
    }

    pub passed_scratch : ResultLists steps f lent left → left.scratch ≡ cleared_scratch f lent
    passed_scratch L = L.scratch_is ∙ after_passed steps _ _ p

    -- whatever leaves the scratch
    module _ {leaving : List Step} (L : ListsAfter steps leaving f lent left) where
      pub passed_starts : left.result_starts ≡ filled_starts f lent
      passed_starts = L.starts_are ∙ after_passed steps _ _ p

      pub passed_rows : left.result_rows ≡ filled_rows f lent
      passed_rows = L.rows_are ∙ after_passed steps _ _ p

      pub passed_values : left.result_values ≡ filled_values f lent
      passed_values = L.values_are ∙ after_passed steps _ _ p

      -- where the set is within the limit
      module _ (complete : f.complete ≡ true) where
        pub complete_starts : left.result_starts ≡ overwrite (entry_starts f.n f.set) lent.result_starts
        complete_starts = passed_starts ∙ ap (λ (b : Bool). cond b (overwrite (entry_starts f.n f.set) lent.result_starts) lent.result_starts) complete

        pub complete_rows : left.result_rows ≡ overwrite (entry_rows f.n f.set) lent.result_rows
        complete_rows = passed_rows ∙ ap (λ (b : Bool). cond b (overwrite (entry_rows f.n f.set) lent.result_rows) lent.result_rows) complete

        pub complete_values : left.result_values ≡ overwrite (entry_values f.n f.set f.table) lent.result_values
        complete_values =
            passed_values ∙ ap (λ (b : Bool). cond b (overwrite (entry_values f.n f.set f.table) lent.result_values) lent.result_values) complete
