-- What passes 2 and 3 is well formed; there the lookup finds exactly the stored entries; it is symmetric; the diagonal list place by place.
-- Assumes nothing.
use Rattle.std.specs.Prelude.{ℕ, ◌+◌, ◌-◌, ◌≤◌, ◌<◌, max, min, ◌≡◌, Bool, true, false, get_or, Float}
use native.Mathlib.Omega.{arith}
use Rattle.std.proofs.Math.Nat.{max_comm, min_comm, max-eq_left, max-eq_right, min-eq_left, min-eq_right}
use Rattle.std.proofs.Common.{le_refl, sym, ap, ap₂, ◌∙◌}
use Rattle.std.proofs.Math.Decide.{dec_lt}
use Rattle.std.proofs.Math.Path.{refl}
use mathlib.Core.List.{List, [], ◌∷◌}
use Rattle.std.proofs.Math.ListN.{length}
use Rattle.std.specs.Float.Ieee.{nan}
use borrow.Author.Tests.{ltb-false, leb-false, le-ltb, lt-ltb, lt-leb, le-leb, eqb-false, eq-eqb, ne_eqb}
use Rattle.lists.specs.Sum.{bit}
use Rattle.lists.specs.Test.{any_in_below, any_in_all, not_so}
use Rattle.lists.specs.Tabulate.{tabulate-length, tabulate_at}
use Rattle.refusal.specs.Steps.{Step, Reply, refused, answered, decide, first, verdict, settle, Passed}
use Rattle.refusal.proofs.Steps.{passed_clear, clear_passed, passed_back}
use Rattle.refusal.proofs.Steps.{first_hit, first_skip, first_end, append-refused, append_passed, each_passed, passed_each}
use Rattle.columns.specs.Columns.{start, row, not_above}
use Rattle.columns.specs.Factor.{Column}
use Rattle.columns.proofs.Factor.{above_ascends}
use Rattle.columns.specs.Kept.{f0}
use Rattle.result.specs.Place.{place_in, Stands}
use Rattle.result.proofs.Place.{place_in_absent, place_in_at, place_in_stands, holds_stands}
use Rattle.result.specs.Lookup.{dimension, no_starts, column_faults, search_steps, entry_steps, result_steps, diag_steps}
use Rattle.result.specs.Lookup.{entry_place, lookup_place, entry_of, value_at, finds, lookup_of, diagonal_of, mark_of, diagonals, WellFormed}

-- ---- 2 and 3 pass exactly if the columns are well formed
module _ (starts rows : List ℕ) (values c : ℕ) where
  pub column_faults-sound : Passed (column_faults starts rows values c) → Column rows values (start starts c) (start starts (c + 1))
  unfolding column_faults
  column_faults-sound e =
      let d = passed_clear (column_faults starts rows values c) e in
      record {
        ordered = ltb-false _ _ d.0;
        stored = ltb-false _ _ d.1.0;
        weighed = ltb-false _ _ d.1.1.0;
        ascends =
            above_ascends rows (start starts c) (start starts (c + 1))
            (λ p lo hi. leb-false _ _ (any_in_below (not_above rows) (start starts c + 1) (start starts (c + 1)) p d.1.1.1.0 (omega arith) hi));
      }

  pub column_faults_passed : Column rows values (start starts c) (start starts (c + 1)) → Passed (column_faults starts rows values c)
  unfolding column_faults
  column_faults_passed C =
      clear_passed (column_faults starts rows values c) (
        le-ltb _ _ C.ordered,
        (
          le-ltb _ _ C.stored,
          (
            le-ltb _ _ C.weighed,
            (
              any_in_all (not_above rows) (start starts c + 1) (start starts (c + 1))
                  (λ p lo hi. lt-leb _ _ (C.ascends (p - 1) p (omega arith) (omega arith) hi)),
              tt,
            ),
          ),
        ),
      )

pub no_starts_none : (starts : List ℕ) → 0 < length starts → (no_starts starts).1 ≡ false
no_starts_none starts h = ne_eqb _ _ (λ (e : length starts ≡ 0). omega arith)

module _ (starts rows : List ℕ) (values : ℕ) where
  pub result_steps-sound : Passed (result_steps starts rows values) → WellFormed starts rows values
  unfolding result_steps
  result_steps-sound e =
      let d = passed_clear (result_steps starts rows values) e in
      let some : length starts ≡ 0 → ⊥ = eqb-false _ _ d.0 in
      record {
        some = positive some;
        column = λ c l.
            column_faults-sound starts rows values c
            (each_passed (column_faults starts rows values) (dimension starts) c (passed_back (no_starts starts ∷ []) _ e) l);
      }
    where
      positive : (length starts ≡ 0 → ⊥) → 0 < length starts
      positive h = omega arith

  pub result_steps_passed : WellFormed starts rows values → Passed (result_steps starts rows values)
  unfolding result_steps
  result_steps_passed W =
      first_skip 2 _ tt (no_starts_none starts W.some)
      (passed_each (column_faults starts rows values) (dimension starts) (λ c l. column_faults_passed starts rows values c (W.column c l)))

-- ---- what the lookup refuses before it searches: no starts, a column outside, a broken column, a row outside
module _ {A : Type 0} (starts rows : List ℕ) (values r c : ℕ) (a : A) where
  pub search_none : length starts ≡ 0 → first (search_steps starts rows values r c) a ≡ refused 2
  unfolding search_steps
  search_none e = first_hit 2 _ _ (eq-eqb _ _ e)

  module _ (some : 0 < length starts) where
    pub search_outside : dimension starts ≤ c → first (search_steps starts rows values r c) a ≡ refused 8
    unfolding search_steps
    search_outside out = first_skip 2 _ _ (no_starts_none starts some) (first_hit 8 _ _ (le-leb _ _ out))

    module _ (inside : c < dimension starts) where
      pub search_broken : (k : ℕ) → verdict (column_faults starts rows values c) ≡ refused k → first (search_steps starts rows values r c) a ≡ refused k
      unfolding search_steps
      search_broken k e =
          first_skip 2 _ _ (no_starts_none starts some)
          (first_skip 8 _ _ (lt-leb _ _ inside) (append-refused (column_faults starts rows values c) _ k _ e))

      module _ (passed : Passed (column_faults starts rows values c)) where
        pub search_row : dimension starts ≤ r → first (search_steps starts rows values r c) a ≡ refused 8
        unfolding search_steps
        search_row out =
            first_skip 2 _ _ (no_starts_none starts some)
            (first_skip 8 _ _ (lt-leb _ _ inside)
            (append_passed (column_faults starts rows values c) _ _ passed ∙ first_hit 8 _ _ (le-leb _ _ out)))

        -- none of these
        pub search_passed : r < dimension starts → first (search_steps starts rows values r c) a ≡ answered a
        unfolding search_steps
        search_passed below =
            first_skip 2 _ _ (no_starts_none starts some)
            (first_skip 8 _ _ (lt-leb _ _ inside)
            (append_passed (column_faults starts rows values c) _ _ passed ∙ first_skip 8 _ _ (lt-leb _ _ below) (first_end a)))

-- the rows alone
pub column_rows_lem : {rows : List ℕ} {values s e : ℕ} → Column rows values s e → Column rows (length rows) s e
column_rows_lem C = record { ordered = C.ordered; stored = C.stored; weighed = C.stored; ascends = C.ascends }

-- ---- the place that it finds

pub refused-answered : {k p : ℕ} → refused k ≡ answered p → ⊥
refused-answered e = let z : ◌≡◌ {A = ℕ} 0 1 = cc in omega arith

module _ (starts rows : List ℕ) (values r c : ℕ) where
  -- step by step: no starts, a column outside, a broken column, a row outside
  pub entry_place_none : length starts ≡ 0 → entry_place starts rows values r c ≡ refused 2
  unfolding entry_place entry_steps
  entry_place_none e = append-refused (search_steps starts rows values r c) _ 2 _ (search_none starts rows values r c tt e)

  module _ (some : 0 < length starts) where
    pub entry_place-outside : dimension starts ≤ c → entry_place starts rows values r c ≡ refused 8
    unfolding entry_place entry_steps
    entry_place-outside out = append-refused (search_steps starts rows values r c) _ 8 _ (search_outside starts rows values r c tt some out)

    module _ (inside : c < dimension starts) where
      pub entry_place_broken : (k : ℕ) → verdict (column_faults starts rows values c) ≡ refused k → entry_place starts rows values r c ≡ refused k
      unfolding entry_place entry_steps
      entry_place_broken k e = append-refused (search_steps starts rows values r c) _ k _ (search_broken starts rows values r c tt some inside k e)

      module _ (passed : Passed (column_faults starts rows values c)) where
        pub entry_place_row : dimension starts ≤ r → entry_place starts rows values r c ≡ refused 8
        unfolding entry_place entry_steps
        entry_place_row out = append-refused (search_steps starts rows values r c) _ 8 _ (search_row starts rows values r c tt some inside passed out)

        -- else the column decides
        pub entry_place_column : r < dimension starts → entry_place starts rows values r c ≡ place_in rows r (start starts c) (start starts (c + 1))
        unfolding entry_place entry_steps place_in
        entry_place_column below =
            append_passed (search_steps starts rows values r c) _ _ (search_passed starts rows values r c tt some inside passed below)

  -- a place that is found is one of the values
  pub entry_place_inside : (p : ℕ) → entry_place starts rows values r c ≡ answered p → p < values
  entry_place_inside p e = elim (dec_lt 0 (length starts)) [
    | no h ↦ absurd (refused-answered (sym (entry_place_none (omega arith)) ∙ e))
    | yes some ↦ elim (dec_lt c (dimension starts)) [
      | no h ↦ absurd (refused-answered (sym (entry_place-outside some (omega arith)) ∙ e))
      | yes inside ↦ of some inside (verdict (column_faults starts rows values c)) refl
    ]
  ]
    where
      of : 0 < length starts → c < dimension starts → (v : Reply (Unit {0})) → verdict (column_faults starts rows values c) ≡ v → p < values
      of some inside (refused k) v = absurd (refused-answered (sym (entry_place_broken some inside k v) ∙ e))
      of some inside (answered u) v = elim (dec_lt r (dimension starts)) [
        | no h ↦ absurd (refused-answered (sym (entry_place_row some inside v (omega arith)) ∙ e))
        | yes below ↦
            let C = column_faults-sound starts rows values c v in
            let S = place_in_stands rows r (start starts c) (start starts (c + 1)) C.ascends p (sym (entry_place_column some inside v below) ∙ e) in
            omega (arith, S.below, C.weighed)
      ]

module _ (starts rows : List ℕ) (values : ℕ) where
  pub lookup_place_ordered : (row col : ℕ) → col ≤ row → lookup_place starts rows values row col ≡ entry_place starts rows values row col
  lookup_place_ordered row col h = ap₂ (entry_place starts rows values) (max-eq_left h) (min-eq_right h)

  pub lookup_place-exchanged : (row col : ℕ) → row ≤ col → lookup_place starts rows values row col ≡ entry_place starts rows values col row
  lookup_place-exchanged row col h = ap₂ (entry_place starts rows values) (max-eq_right h) (min-eq_left h)

  module _ (W : WellFormed starts rows values) where
    -- a pair inside: the column decides
    pub lookup_place_column : (row col : ℕ) → max row col < dimension starts
        → lookup_place starts rows values row col ≡ place_in rows (max row col) (start starts (min row col)) (start starts (min row col + 1))
    lookup_place_column row col l =
        let c = min row col in
        let inside : c < dimension starts = omega arith in
        entry_place_column starts rows values (max row col) c W.some inside (column_faults_passed starts rows values c (W.column c inside)) l

    -- a row or a column outside: 8
    pub lookup_place-outside : (row col : ℕ) → dimension starts ≤ max row col → lookup_place starts rows values row col ≡ refused 8
    lookup_place-outside row col h = elim (dec_lt (min row col) (dimension starts)) [
      | yes l ↦ entry_place_row starts rows values (max row col) (min row col) W.some l (column_faults_passed starts rows values _ (W.column _ l)) h
      | no l ↦ entry_place-outside starts rows values (max row col) (min row col) W.some (omega arith)
    ]

-- ---- the lookup
module _ {A : Type 0} (blank : A) (values : List A) where
  decide_value : (b : Bool) (k : ℕ) (x : Reply ℕ) (y : Reply A) → y ≡ value_at blank values x → decide b k y ≡ value_at blank values (decide b k x)
  decide_value true k x y e = refl
  decide_value false k x y e = e

  -- the value at the place that is found
  first_value : (steps : List Step) (p : ℕ) → first steps (get_or values p blank) ≡ value_at blank values (first steps p)
  unfolding first
  first_value [] p = refl
  first_value (s ∷ steps) p = decide_value s.1 s.0 (first steps p) (first steps (get_or values p blank)) (first_value steps p)

module _ {A : Type 0} (blank : A) (starts rows : List ℕ) (values : List A) where
  -- exchanging row and column changes nothing
  pub lookup-symmetric : (row col : ℕ) → lookup_of blank starts rows values row col ≡ lookup_of blank starts rows values col row
  lookup-symmetric row col = ap₂ (entry_of blank starts rows values) (max_comm row col) (min_comm row col)

  pub lookup_ordered : (row col : ℕ) → col ≤ row → lookup_of blank starts rows values row col ≡ entry_of blank starts rows values row col
  lookup_ordered row col h = ap₂ (entry_of blank starts rows values) (max-eq_left h) (min-eq_right h)

  -- it is the place that is found, and a read of the values there
  pub lookup_place_lem : (row col : ℕ) → lookup_of blank starts rows values row col ≡ value_at blank values (lookup_place starts rows (length values) row col)
  unfolding entry_of entry_place
  lookup_place_lem row col = first_value blank values (entry_steps starts rows (length values) (max row col) (min row col)) _

  module _ (W : WellFormed starts rows (length values)) where
    module _ (r c : ℕ) (order : c ≤ r) (inside : r < dimension starts) where
      pub lookup_column : lookup_of blank starts rows values r c ≡ value_at blank values (place_in rows r (start starts c) (start starts (c + 1)))
      lookup_column =
          lookup_place_lem r c
          ∙ ap (value_at blank values)
          (lookup_place_ordered starts rows (length values) r c order
          ∙ entry_place_column starts rows (length values) r c W.some (omega arith) (column_faults_passed starts rows (length values) c (W.column c (omega arith))) inside)

      -- a stored entry's value
      pub lookup_at : (p : ℕ) → Stands rows r (start starts c) (start starts (c + 1)) p → lookup_of blank starts rows values r c ≡ answered (get_or values p blank)
      lookup_at p S = lookup_column ∙ ap (value_at blank values) (place_in_at rows r _ _ (W.column c (omega arith)).ascends p S)

      -- no stored entry: 8
      pub lookup_absent : ((p : ℕ) → Stands rows r (start starts c) (start starts (c + 1)) p → ⊥) → lookup_of blank starts rows values r c ≡ refused 8
      lookup_absent none =
          lookup_column
          ∙ ap (value_at blank values)
          (place_in_absent rows r _ _ (not_so _ (λ h. let f = holds_stands rows r (start starts c) (start starts (c + 1)) h in none f.0 f.1)))

    -- a row or a column outside: 8
    pub lookup-outside : (row col : ℕ) → dimension starts ≤ max row col → lookup_of blank starts rows values row col ≡ refused 8
    lookup-outside row col h = lookup_place_lem row col ∙ ap (value_at blank values) (lookup_place-outside starts rows (length values) W row col h)

    -- the diagonal of a column
    pub diagonal_of_place : (zero : A) (c : ℕ) → c < dimension starts
        → diagonal_of blank zero starts rows values c ≡ settle zero (value_at blank values (place_in rows c (start starts c) (start starts (c + 1))))
    diagonal_of_place zero c l = ap (settle zero) (lookup_column c c (le_refl c) l)

    pub mark_of_place : (c : ℕ) → c < dimension starts
        → mark_of blank starts rows values c ≡ bit (finds (value_at blank values (place_in rows c (start starts c) (start starts (c + 1)))))
    mark_of_place c l = ap (λ (r : Reply A). bit (finds r)) (lookup_column c c (le_refl c) l)

-- ---- the diagonal list
module _ (starts rows : List ℕ) (values : List Float) where
  pub diagonals_length : length (diagonals starts rows values) ≡ dimension starts
  unfolding diagonals
  diagonals_length = tabulate-length _ (dimension starts)

  pub diagonals_at : (c : ℕ) → c < dimension starts → get_or (diagonals starts rows values) c nan ≡ diagonal_of nan f0 starts rows values c
  unfolding diagonals
  diagonals_at c l = tabulate_at _ (dimension starts) c nan l

-- its steps: a malformed result, a short output, or neither
module _ (starts rows : List ℕ) (values room marksRoom : ℕ) where
  pub diag_steps-malformed : (k : ℕ) → verdict (result_steps starts rows values) ≡ refused k → verdict (diag_steps starts rows values room marksRoom) ≡ refused k
  unfolding diag_steps
  diag_steps-malformed k e = append-refused (result_steps starts rows values) _ k tt e

  module _ (passed : Passed (result_steps starts rows values)) where
    pub diag_steps_short : room < dimension starts → verdict (diag_steps starts rows values room marksRoom) ≡ refused 7
    unfolding diag_steps
    diag_steps_short h = append_passed (result_steps starts rows values) _ tt passed ∙ first_hit 7 _ _ (lt-ltb _ _ h)

    module _ (long : dimension starts ≤ room) where
      pub diag_steps_marks_short : marksRoom < dimension starts → verdict (diag_steps starts rows values room marksRoom) ≡ refused 7
      unfolding diag_steps
      diag_steps_marks_short h = append_passed (result_steps starts rows values) _ tt passed ∙ first_skip 7 _ _ (le-ltb _ _ long) (first_hit 7 _ _ (lt-ltb _ _ h))

      pub diag_steps_passed : dimension starts ≤ marksRoom → Passed (diag_steps starts rows values room marksRoom)
      unfolding diag_steps
      diag_steps_passed h = append_passed (result_steps starts rows values) _ tt passed ∙ first_skip 7 _ _ (le-ltb _ _ long) (first_skip 7 _ _ (le-ltb _ _ h) (first_end tt))
