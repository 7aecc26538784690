-- Laws of specs/Answer.antt.
use Rattle.std.specs.Prelude.{ℕ, suc, ◌+◌, ◌-◌, ◌*◌, ◌≤◌, ◌<◌, min, max, ◌≡◌, refl, Bool, true, ◌↔◌, List, [], ◌∷◌, ◌++◌, map, length, get_or}
use Rattle.std.proofs.Common.{arith, sym, ap, ap₂, subst, subst₂, ◌∙◌, le-ltb}
use Rattle.std.proofs.lemmas.List.{length-map}
use Rattle.lists.specs.Tabulate.{tabulate-length, tabulate_at, tabulate_cong, tabulate-of}
use Rattle.lists.specs.Overwrite.{overwrite, overwrite_at}
use Rattle.lists.specs.Select.{get_d_mapped}
use Rattle.refusal.specs.Steps.{Step, Reply, answered, Passed}
use Rattle.refusal.proofs.Steps.{first_passed, after_passed, clear_passed, passed_append, passed_front}
use Rattle.refusal.proofs.Told.{told_passed, told_answer}
use Rattle.closed_set.specs.ClosedSet.{Leads}
use Rattle.closed_set.specs.Requests.{requested}
use Rattle.chains.specs.Chain.{Shown, pair_at}
use Rattle.chains.proofs.Chain.{chain_some, chain_first, chain_leads, chain_last}
use Rattle.levels.specs.Written.{rows_of, columns_of}
use Rattle.dependency_chain.specs.Chain.{ChainCall, chain_to, chain_room_steps, asked_steps, chain_steps, ChainListed}
use Rattle.dependency_chain.proofs.Laws.{asked_shown, asked_needed, asked_none, asked_most}
use Rattle.dependency_chain.specs.Answer.{first_pairs, ChainAnswer, desc, req, Asked}

shown_answer : (desc : ℕ → List ℕ) (req : ℕ → ℕ → Bool) (r c k : ℕ) (rows columns : List ℕ) → Shown desc req (first_pairs k rows columns) r c
    → ChainAnswer desc req r c k rows columns
shown_answer desc req r c k rows columns S = record {
  some = positive;
  requested = subst (λ (p : ℕ × ℕ). req p.0 p.1 ≡ true) (at 0 positive) (chain_first desc req S.chain);
  leads = λ i h.
      let e : i + 1 ≡ suc i = omega arith in
      subst₂ (λ (p q : ℕ × ℕ). Leads desc p.0 p.1 q.0 q.1) (at i (omega arith)) (ap (pair_at l) (sym e) ∙ at (i + 1) h)
      (chain_leads desc req S.chain i (omega (arith, long)));
  last_row = ap (λ (p : ℕ × ℕ). p.0) last;
  last_column = ap (λ (p : ℕ × ℕ). p.1) last;
  shortest = λ m t. subst (λ (n : ℕ). n ≤ length m) long (S.shortest m t);
  lowest = λ m t e. S.lowest m t (e ∙ sym long);
}
  where
    l : List (ℕ × ℕ)
    l = first_pairs k rows columns

    long : length l ≡ k
    long = tabulate-length _ k

    at : (i : ℕ) → i < k → pair_at l i ≡ (get_or rows i 0, get_or columns i 0)
    at i h = tabulate_at _ k i (0, 0) h

    positive : 0 < k
    positive = subst (λ (n : ℕ). 0 < n) long (chain_some desc req S.chain)

    last : ◌≡◌ {A = ℕ × ℕ} (get_or rows (k - 1) 0, get_or columns (k - 1) 0) (r, c)
    last = sym (at (k - 1) (omega (arith, positive))) ∙ chain_last desc req S.chain (k - 1) (omega (arith, long, positive))

-- a list of pairs, written to the front of two lists, reads back
read_pairs : (l : List (ℕ × ℕ)) (rows columns : List ℕ) → first_pairs (length l) (overwrite (rows_of l) rows) (overwrite (columns_of l) columns) ≡ l
read_pairs l rows columns =
    tabulate_cong _ (λ i. get_or l i (0, 0)) (length l)
    (λ i h. ap₂ (λ (r c : ℕ). (r, c)) (part (λ p. p.0) rows i h) (part (λ p. p.1) columns i h))
    ∙ tabulate-of l (0, 0)
  where
    part : (f : ℕ × ℕ → ℕ) (old : List ℕ) (i : ℕ) → i < length l → get_or (overwrite (map f l) old) i 0 ≡ f (get_or l i (0, 0))
    part f old i h = overwrite_at (map f l) old i 0 (rw length-map h) ∙ get_d_mapped f l i (0, 0) 0 h

module _ (x : ChainCall) {s chainRows chainColumns : List ℕ} {reply : Reply ℕ} {s' chainRows' chainColumns' : List ℕ}
    (C : ChainListed x s chainRows chainColumns reply s' chainRows' chainColumns') where
  abbrev asked : List Step
  asked = asked_steps x (length s)

  abbrev room : List Step
  room = chain_room_steps (chain_to x) (length chainRows) (length chainColumns)

  -- where the call is not refused before, lists of 2n - 1 places each are enough
  pub places_enough : Passed asked → 2 * x.factor.n - 1 ≤ length chainRows → 2 * x.factor.n - 1 ≤ length chainColumns → reply ≡ answered (length (chain_to x))
  unfolding chain_steps chain_room_steps
  places_enough p a b =
      let most = asked_most x s p in
      C.answer
      ∙ first_passed (asked ++ room) (length (chain_to x))
      (passed_append asked room p (clear_passed room (le-ltb (length chainRows) (length (chain_to x)) (omega (arith, most)), (le-ltb (length chainColumns) (length (chain_to x)) (omega (arith, most)), tt))))

  module _ {k : ℕ} (answer : reply ≡ answered k) where
    all : Passed (chain_steps x (length s) (length chainRows) (length chainColumns))
    all = told_passed (chain_steps x (length s) (length chainRows) (length chainColumns)) (length (chain_to x)) (sym answer ∙ C.answer)

    before : Passed asked
    unfolding chain_steps
    before = passed_front asked room all

    count : k ≡ length (chain_to x)
    count = told_answer (chain_steps x (length s) (length chainRows) (length chainColumns)) (length (chain_to x)) (sym answer ∙ C.answer)

    -- the lists begin with the chain
    pub reply_pairs : first_pairs k chainRows' chainColumns' ≡ chain_to x
    reply_pairs =
        ap₂ (first_pairs k) (C.rows_after ∙ after_passed _ _ _ all) (C.columns_after ∙ after_passed _ _ _ all)
        ∙ ap (λ (i : ℕ). first_pairs i (overwrite (rows_of (chain_to x)) chainRows) (overwrite (columns_of (chain_to x)) chainColumns)) count
        ∙ read_pairs (chain_to x) chainRows chainColumns

    -- no pairs exactly if the pair is not in the set
    pub reply_none : (k ≡ 0) ↔ (Asked x → ⊥)
    reply_none =
        let e = asked_none x s before in
        ((λ z. e.0 (empty (chain_to x) (sym count ∙ z))), (λ f. count ∙ ap length (e.1 f)))
      where
        empty : (l : List (ℕ × ℕ)) → length l ≡ 0 → l ≡ []
        empty [] q = refl
        empty (p ∷ l) q = absurd (omega arith)

    -- else its chain
    pub reply_chain : 0 < k → ChainAnswer (desc x) (req x) (max x.row x.column) (min x.row x.column) k chainRows' chainColumns'
    reply_chain some =
        shown_answer (desc x) (req x) _ _ k chainRows' chainColumns'
        (subst (λ (l : List (ℕ × ℕ)). Shown (desc x) (req x) l (max x.row x.column) (min x.row x.column)) (sym reply_pairs)
        (asked_shown x s before (asked_needed x s before (omega (arith, count)))))
