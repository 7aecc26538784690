-- Either route gives the same entries.
-- Assumes nothing.
use Prim.Native.Nat.{ℕ, ◌≤◌, ◌<◌, max, min}
use native.Mathlib.Omega.{arith}
use mathlib.Core.Path.{◌≡◌, sym, ap, subst, ◌∙◌}
use mathlib.Core.Bool.{Bool, true}
use mathlib.Core.List.{List}
use lib.ListN.{take}
use lib.Ieee.{Float}
use Rattle.lists.specs.Overwrite.{overwrite}
use Rattle.pairs.specs.ColumnOrder.{column_marking}
use Rattle.pairs.proofs.ColumnOrder.{set_size_cong}
use Rattle.columns.specs.Kept.{nonzero, pattern}
use Rattle.columns.specs.Form.{Form, pattern_pair}
use Rattle.columns.proofs.Form.{kept_pairs-pattern}
use Rattle.closed_set.specs.ClosedSet.{Closed, Pattern}
use Rattle.closed_set.proofs.FactorPattern.{factor_pattern}
use Rattle.entries.specs.Entries.{entry_values, form_table}
use Rattle.entries.proofs.Position.{entry_starts_cong, entry_rows_cong, entry_values_cong}
use Rattle.factor_route.specs.Route.{RouteInput}
use Rattle.fill.specs.Agree.{same_pairs}
use Rattle.fill.proofs.AgreeLaws.{same_pairs-agree}
use Rattle.fill.specs.KeptPattern.{ChoiceInput}
use Rattle.fill.specs.Routes.{RoutesInput}

-- a set that agrees with a closed one is closed
agree_closed : (n : ℕ) (desc : ℕ → List ℕ) (S R : ℕ → ℕ → Bool) → Pattern n desc → ((r c : ℕ) → c ≤ r → r < n → S r c ≡ R r c)
    → Closed n desc S → Closed n desc R
agree_closed n desc S R P same C r c d h l e t =
    let b = P.below c d (omega arith) e in
    let i = P.inside c d (omega arith) e in
    sym (same (max r d) (min r d) (omega arith) (omega arith)) ∙ C r c d h l e (same r c h l ∙ t)

module _ {form : Form} {n : ℕ} {starts rows : List ℕ} {values : List Float} {kept closed : ℕ} {firsts listed scratch : List ℕ} {size : ℕ}
    (G : RoutesInput form n starts rows values kept closed firsts listed scratch size) where
  pub choice_input : ChoiceInput n starts rows values kept closed scratch
  choice_input = record {
    small = G.route.small;
    factor = G.route.factor;
    room = omega (arith, G.route.room);
    kept_is = G.kept_is ∙ kept_pairs-pattern n starts rows values form G.divisors;
    closed_is = G.closed_is;
  }

  abbrev S : ℕ → ℕ → Bool
  S = column_marking n scratch

  abbrev K : ℕ → ℕ → Bool
  K = pattern_pair starts rows (nonzero values)

  module _ (agree : same_pairs n S K ≡ true) where
    same : (r c : ℕ) → c ≤ r → r < n → S r c ≡ K r c
    same = same_pairs-agree n S K agree

    pub pattern_input : RouteInput form n starts rows values firsts listed size
    pattern_input = record {
      small = G.route.small;
      factor = G.route.factor;
      divisors = G.divisors;
      closed = agree_closed n (pattern starts rows (nonzero values)) S K (factor_pattern (nonzero values) G.route.factor) same G.route.closed;
      laid_starts = G.starts_laid ∙ entry_starts_cong n S K same;
      laid_rows = ap (λ (k : ℕ). take k listed) (sym (set_size_cong n S K same)) ∙ G.rows_laid ∙ entry_rows_cong n S K same;
      room = subst (λ (k : ℕ). k ≤ size) (set_size_cong n S K same) G.route.values_fit;
    }

    pub pattern_values : (z₀ : List Float) {z : List Float} → z ≡ overwrite (entry_values n K (form_table form n starts rows values)) z₀
        → z ≡ overwrite (entry_values n S (form_table form n starts rows values)) z₀
    pattern_values z₀ e = e ∙ ap (λ (l : List Float). overwrite l z₀) (sym (entry_values_cong n S K same (form_table form n starts rows values)))
