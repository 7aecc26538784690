-- Laws of specs/Route.antt.
use Rattle.std.specs.Prelude.{ℕ, ◌+◌, ◌≤◌, ◌<◌, ◌≡◌, Bool, true, List, length, get_or, Float}
use Rattle.std.proofs.Common.{arith, sym, ap, ◌∙◌}
use Rattle.lists.specs.Tabulate.{tabulate_at}
use Rattle.lists.specs.Overwrite.{overwrite_at, overwrite-length}
use Rattle.pairs.specs.ColumnOrder.{column_marking, set_size}
use Rattle.closed_set.specs.ClosedSet.{Closed, Pattern}
use Rattle.columns.specs.Kept.{nonzero, pattern}
use Rattle.columns.specs.Factor.{Factor}
use Rattle.entries.specs.Entries.{column_count, position, entry_starts, entry_rows}
use Rattle.entries.proofs.Entries.{entry_starts-length, entry_rows_length}
use Rattle.entries.proofs.Position.{entry_rows_at, position_below, column_count_cong, position_cong}
use Rattle.layout.specs.Layout.{LayOutInput, LaidOut}
use Rattle.layout.proofs.LayoutFacts.{marks_same}
use Rattle.closure_route.specs.Route.{route_lists, ClosureRouteInput}

-- ---- what the layout leaves is what the route asks

module _ {n : ℕ} {firsts₀ listed₀ scratch₀ firsts listed scratch : List ℕ} {count : ℕ}
    (M : LayOutInput n firsts₀ listed₀ scratch₀) (L : LaidOut n firsts₀ listed₀ scratch₀ firsts listed scratch count) where
  -- the set is as it was
  pub laid_same : (r c : ℕ) → c ≤ r → r < n → column_marking n scratch r c ≡ column_marking n scratch₀ r c
  laid_same = marks_same n scratch scratch₀ L.marks

  module _ {starts rows : List ℕ} (values : List Float) (F : Factor n starts rows (length values))
      (P : Pattern n (pattern starts rows (nonzero values))) (K : Closed n (pattern starts rows (nonzero values)) (column_marking n scratch₀))
      {size : ℕ} (fits : set_size n (column_marking n scratch₀) ≤ size) where
    abbrev S₀ : ℕ → ℕ → Bool
    S₀ = column_marking n scratch₀

    same_count : (c : ℕ) → column_count n (column_marking n scratch) c ≡ column_count n S₀ c
    same_count = column_count_cong n (column_marking n scratch) S₀ laid_same

    same_position : (r c : ℕ) → r < n → position n (column_marking n scratch) r c ≡ position n S₀ r c
    same_position = position_cong n (column_marking n scratch) S₀ laid_same

    pub laid_route : ClosureRouteInput (route_lists n starts rows values firsts listed scratch) size
    laid_route = record {
      small = M.small;
      factor = F;
      closed = λ r c d h l i t.
          let b = P.inside c d (omega arith) i in
          laid_same _ _ (omega arith) (omega arith) ∙ K r c d h l i (sym (laid_same r c h l) ∙ t);
      room = omega (arith, M.room, L.long);
      positions = λ r c h l t. L.positions r c h l (sym (laid_same r c h l) ∙ t) ∙ sym (same_position r c l);
      starts_fit =
          omega (arith, M.starts_fit, ap length L.starts_are, overwrite-length (entry_starts n S₀) firsts₀ (omega (arith, starts_long, M.starts_fit)));
      starts_are = λ c h.
          ap (λ (x : List ℕ). get_or x c 0) L.starts_are ∙ overwrite_at (entry_starts n S₀) firsts₀ c 0 (omega (arith, starts_long))
          ∙ tabulate_at (column_count n S₀) (n + 1) c 0 (omega arith) ∙ sym (same_count c);
      rows_fit =
          omega (arith, same_count n, M.rows_fit, ap length L.rows_are, overwrite-length (entry_rows n S₀) listed₀ (omega (arith, rows_long, M.rows_fit)));
      rows_are = λ r c h l t. row_is r c h l (sym (laid_same r c h l) ∙ t);
      values_fit = omega (arith, same_count n);
    }
      where
        starts_long : length (entry_starts n S₀) ≡ n + 1
        starts_long = entry_starts-length n S₀

        rows_long : length (entry_rows n S₀) ≡ set_size n S₀
        rows_long = entry_rows_length n S₀

        row_is : (r c : ℕ) → c ≤ r → r < n → S₀ r c ≡ true → get_or listed (position n (column_marking n scratch) r c) 0 ≡ r
        row_is r c h l t =
            let inside = position_below n S₀ r c n h l (omega arith) t in
            ap (λ (q : ℕ). get_or listed q 0) (same_position r c l)
            ∙ ap (λ (x : List ℕ). get_or x (position n S₀ r c) 0) L.rows_are
            ∙ overwrite_at (entry_rows n S₀) listed₀ (position n S₀ r c) 0 (omega (arith, rows_long)) ∙ entry_rows_at n S₀ r c h l t
