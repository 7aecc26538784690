-- A chain listed, case by case, and the whole call from its parts.
-- Assumes nothing.
use Prim.Native.Nat.{ℕ, ◌+◌, ◌≤◌, ◌<◌, min, max}
use native.Mathlib.Omega.{arith}
use mathlib.Core.Path.{◌≡◌, refl, sym, ap, subst, subst₂, ◌∙◌}
use mathlib.Core.List.{List, []}
use mathlib.Core.Bool.{Bool}
use lib.Ieee.{Float}
use lib.ListN.{length, get_or}
use borrow.Author.Tests.{lt-ltb, le-ltb}
use Rattle.lists.specs.Overwrite.{overwrite, overwrite_none, cleared}
use Rattle.refusal.specs.Steps.{Step, Reply, refused, answered, verdict, after, settle, Passed}
use Rattle.refusal.proofs.Steps.{first_hit, first_skip, first_end, first_refused, first_passed}
use Rattle.refusal.proofs.Steps.{append-refused, append_passed, after_refused, after_passed}
use Rattle.pairs.specs.Pair.{pair_total}
use Rattle.pairs.specs.Scratch.{chain_words}
use Rattle.pairs.proofs.Scratch.{chain_words_levels}
use Rattle.pairs.specs.ColumnOrder.{column_place}
use Rattle.columns.specs.Kept.{nonzero, pattern}
use Rattle.closed_set.specs.ClosedSet.{Pattern, Ranged}
use Rattle.closed_set.specs.Requests.{requested}
use Rattle.closed_set.proofs.Requests.{requested_ranged}
use Rattle.closed_set.proofs.FactorPattern.{factor_pattern}
use Rattle.chains.specs.ChainOf.{chain_of}
use Rattle.selection.proofs.Selection.{cleared_same}
use Rattle.levels.specs.Levels.{level_word}
use Rattle.levels.specs.Closing.{AllLevels}
use Rattle.levels.specs.Back.{levels_chain, levels_chain_lem, level_most}
use Rattle.levels.specs.Written.{rows_of, columns_of}
use Rattle.dependency_chain.specs.Laws.{ListInput, SeekInput}
use Rattle.dependency_chain.specs.Chain.{ChainCall, chain_to, chain_room_steps, asked_steps, chain_steps, Listed, ChainListed}

module _ (chain : List (ℕ × ℕ)) (rows columns : List ℕ) where
  abbrev steps : List Step
  steps = chain_room_steps chain (length rows) (length columns)

  refused_listed : verdict steps ≡ refused 7 → Listed chain rows columns (refused 7) rows columns
  refused_listed e = record {
    answer = sym (first_refused steps 7 _ e);
    rows_after = sym (after_refused steps 7 _ rows e);
    columns_after = sym (after_refused steps 7 _ columns e);
  }

  -- a list is too short
  pub listed_rows_short : length rows < length chain → Listed chain rows columns (refused 7) rows columns
  unfolding chain_room_steps
  listed_rows_short h = refused_listed (first_hit 7 _ _ (lt-ltb _ _ h))

  pub listed_columns_short : length chain ≤ length rows → length columns < length chain → Listed chain rows columns (refused 7) rows columns
  unfolding chain_room_steps
  listed_columns_short l h = refused_listed (first_skip 7 _ _ (le-ltb _ _ l) (first_hit 7 _ _ (lt-ltb _ _ h)))

  -- both are long enough
  pub listed_written : {rows' columns' : List ℕ} {count : ℕ} → length chain ≤ length rows → length chain ≤ length columns → count ≡ length chain
      → rows' ≡ overwrite (rows_of chain) rows
      → columns' ≡ overwrite (columns_of chain) columns
      → Listed chain rows columns (answered count) rows' columns'
  unfolding chain_room_steps
  listed_written l h e p q =
      let w : Passed steps = first_skip 7 _ _ (le-ltb _ _ l) (first_skip 7 _ _ (le-ltb _ _ h) (first_end tt)) in
      record {
        answer = ap answered e ∙ sym (first_passed steps (length chain) w);
        rows_after = p ∙ sym (after_passed steps _ rows w);
        columns_after = q ∙ sym (after_passed steps _ columns w);
      }

-- no pairs: nothing is written
pub listed_none : (chain : List (ℕ × ℕ)) (rows columns : List ℕ) → chain ≡ [] → Listed chain rows columns (answered 0) rows columns
listed_none chain rows columns e =
    subst (λ (l : List (ℕ × ℕ)). Listed l rows columns (answered 0) rows columns) (sym e)
    (listed_written [] rows columns (omega arith) (omega arith) refl (sym (overwrite_none rows)) (sym (overwrite_none columns)))

module _ (x : ChainCall) (scratch rows columns : List ℕ) where
  abbrev all : List Step
  all = chain_steps x (length scratch) (length rows) (length columns)

  after_all : {A : Type 0} (new old : A) → Passed (asked_steps x (length scratch)) → after (chain_room_steps (chain_to x) (length rows) (length columns)) new old ≡ after all new old
  unfolding after chain_steps
  after_all new old p = ap (settle old) (sym (append_passed (asked_steps x (length scratch)) (chain_room_steps (chain_to x) (length rows) (length columns)) new p))

  -- past the checks the chain is listed and the scratch cleared
  pub chain_listed : {reply : Reply ℕ} {scratch' rows' columns' : List ℕ} → Passed (asked_steps x (length scratch)) → Listed (chain_to x) rows columns reply rows' columns'
      → scratch' ≡ cleared (chain_words x.factor.n) scratch
      → ChainListed x scratch rows columns reply scratch' rows' columns'
  unfolding chain_steps
  chain_listed p L e = record {
    answer = L.answer ∙ sym (append_passed (asked_steps x (length scratch)) (chain_room_steps (chain_to x) (length rows) (length columns)) (length (chain_to x)) p);
    scratch_after = e ∙ sym (after_passed (asked_steps x (length scratch)) _ scratch p);
    rows_after = L.rows_after ∙ after_all _ rows p;
    columns_after = L.columns_after ∙ after_all _ columns p;
  }

  -- a refusal leaves every list as it was
  pub chain_refused : (k : ℕ) → verdict (asked_steps x (length scratch)) ≡ refused k → ChainListed x scratch rows columns (refused k) scratch rows columns
  unfolding chain_steps
  chain_refused k e =
      let w : verdict all ≡ refused k = append-refused (asked_steps x (length scratch)) (chain_room_steps (chain_to x) (length rows) (length columns)) k tt e in
      record {
        answer = sym (first_refused all k _ w);
        scratch_after = sym (after_refused (asked_steps x (length scratch)) k _ scratch e);
        rows_after = sym (after_refused all k _ rows w);
        columns_after = sym (after_refused all k _ columns w);
      }

-- the pair put in order
pub listed_at : (x : ChainCall) {r c : ℕ} {rows columns rows' columns' : List ℕ} {reply : Reply ℕ} → r ≡ max x.row x.column → c ≡ min x.row x.column
    → Listed (chain_of x.factor.n (pattern x.factor.starts x.factor.rows (nonzero x.factor.values)) (requested x.request_rows x.request_columns) r c) rows columns reply rows' columns'
    → Listed (chain_to x) rows columns reply rows' columns'
listed_at x {r} {c} {rows} {columns} {rows'} {columns'} {reply} e q L =
    subst₂
    (λ (i j : ℕ). Listed (chain_of x.factor.n (pattern x.factor.starts x.factor.rows (nonzero x.factor.values)) (requested x.request_rows x.request_columns) i j) rows columns reply rows' columns')
    e q L

-- ---- a chain looked for through the levels

module _ (n : ℕ) (starts rows : List ℕ) (values : List Float) (request_rows request_columns : List ℕ) (r c : ℕ) (s₀ s₁ : List ℕ)
    (I : SeekInput n starts rows (length values) request_rows request_columns r c s₀)
    (A : AllLevels n (pattern starts rows (nonzero values)) (requested request_rows request_columns) s₀ s₁) where
  abbrev desc : ℕ → List ℕ
  desc = pattern starts rows (nonzero values)

  abbrev req : ℕ → ℕ → Bool
  req = requested request_rows request_columns

  P : Pattern n desc
  P = factor_pattern (nonzero values) I.factor

  R : Ranged n req
  R = requested_ranged request_rows request_columns n I.requests

  -- the pair's word is its level
  pub seek_level : (level p : ℕ) → level ≡ get_or s₁ p 0 → p ≡ column_place n r c → ListInput n starts rows (length values) r c level s₁
  seek_level level p e q =
      let own : level ≡ level_word n s₁ r c = e ∙ ap (λ (k : ℕ). get_or s₁ k 0) q in
      record {
        back = record {
          small = I.small;
          factor = I.factor;
          room = omega (arith, A.long, I.room, chain_words_levels n);
          ordered = I.ordered;
          inside = I.inside;
        };
        own = own;
        short = omega (arith, own, level_most n desc req P R (level_word n s₁) A.words r c I.ordered I.inside);
      }

  -- what is listed is the chain
  pub seek_listed : {chainRows chainColumns chainRows' chainColumns' : List ℕ} {reply : Reply ℕ}
      → Listed (levels_chain desc (level_word n s₁) r c) chainRows chainColumns reply chainRows' chainColumns'
      → Listed (chain_of n desc req r c) chainRows chainColumns reply chainRows' chainColumns'
  seek_listed {chainRows} {chainColumns} {chainRows'} {chainColumns'} {reply} L =
      subst (λ (chain : List (ℕ × ℕ)). Listed chain chainRows chainColumns reply chainRows' chainColumns')
      (sym (levels_chain_lem n desc req P R (level_word n s₁) A.words r c I.ordered I.inside)) L

  -- and the scratch that is cleared is the one that was lent
  pub seek_cleared : {s₂ : List ℕ} {m : ℕ} → s₂ ≡ cleared m s₁ → m ≡ chain_words n → s₂ ≡ cleared (chain_words n) s₀
  seek_cleared e q =
      e ∙ ap (λ (k : ℕ). cleared k s₁) q
      ∙ cleared_same (pair_total n + pair_total n) (chain_words n) s₁ s₀ (chain_words_levels n) A.later
