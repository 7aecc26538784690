-- Laws of specs/Laws.antt.
use Prim.Native.Nat.{ℕ, ◌+◌, ◌≤◌, ◌<◌, min}
use Rattle.std.proofs.Common.{arith, ap, ◌∙◌, ext_get_or}
use Rattle.std.specs.Prelude.{◌≡◌, Bool, false, ltb, leb, get_or, ℤ, pos, nat_abs}
use Rattle.std.proofs.Math.Path.{sym, ap₂}
use Rattle.std.proofs.Math.Bool.{◌||◌}
use mathlib.Core.List.{List, [], ◌∷◌}
use Rattle.std.proofs.Math.ListN.{length}
use borrow.Author.Tests.{ltb-false, eqb-false, eq-eqb, ne_eqb, lt-ltb, le-ltb}
use Rattle.lists.specs.Test.{any, any_below}
use Rattle.lists.specs.Tabulate.{tabulate, tabulate-length, tabulate_at}
use Rattle.refusal.specs.Steps.{Step, refused, answered, verdict, Passed}
use Rattle.refusal.proofs.Steps.{passed_clear, first_hit, first_skip, first_end}
use Rattle.refusal.proofs.Groups.{groups_passed, grouped-refused, grouped_last}
use Rattle.refusal.specs.Bounds.{output_steps}
use Rattle.result.specs.Lookup.{lookup_of, result_steps}
use Rattle.result.proofs.Laws.{result_steps-sound}
use Rattle.whole_pairs.proofs.Entry.{entry_or_zero-symmetric, absent_pair-symmetric, present_found}
use Rattle.whole_pairs.proofs.FaultsLaws.{all_absent, all_either, fault-steps}
use Rattle.run_sums.specs.Runs.{runs, block_sum, cell_entry, run_sum, run_sums}
use Rattle.track_variances.specs.Track.{track_entry, max_width, max_track_entry, width_steps, run_steps, track_steps, some_places, some_run, absent_at, beyond_at, track_fault}
use Rattle.track_variances.proofs.Close.{close-run}
use Rattle.track_variances.specs.Sizes.{RunsReady}
use Rattle.track_variances.specs.Slots.{Slots}
use Rattle.track_variances.specs.Laws.{Width}

pub width_steps-sound : (cells width : ℕ) → Passed (width_steps cells width) → Width cells width
unfolding width_steps
width_steps-sound cells width p =
    let d = passed_clear (width_steps cells width) p in
    let n : width ≡ 0 → ⊥ = eqb-false width 0 d.0 in
    record { wide = positive n; few = ltb-false max_width width d.1.0; long = ltb-false cells width d.1.1.0 }
  where
    positive : (width ≡ 0 → ⊥) → 0 < width
    positive h = omega arith

module _ (starts rows : List ℕ) (values : List ℤ) (track : List ℕ) where
  pub entries_symmetric : (p q : ℕ) → track_entry starts rows values track p q ≡ track_entry starts rows values track q p
  entries_symmetric p q = entry_or_zero-symmetric starts rows values (get_or track p 0) (get_or track q 0)

  absent-symmetric : (p q : ℕ) → absent_at starts rows values track p q ≡ absent_at starts rows values track q p
  absent-symmetric p q = absent_pair-symmetric starts rows values (get_or track p 0) (get_or track q 0)

  beyond-symmetric : (p q : ℕ) → beyond_at starts rows values track p q ≡ beyond_at starts rows values track q p
  beyond-symmetric p q = ap (λ (z : ℤ). ltb max_track_entry (nat_abs z)) (entries_symmetric p q)

  pub run_steps-fault : (width : ℕ) → 0 < width → width ≤ length track
      → let f = track_fault starts rows values track width in verdict ((8, leb 2 f) ∷ (20, leb 1 f) ∷ []) ≡ verdict (run_steps starts rows values track width)
  unfolding run_steps
  run_steps-fault width wide long =
      let c = length track in
      let A = absent_at starts rows values track in
      let B = beyond_at starts rows values track in
      let a = close-run A absent-symmetric c width wide long in
      let b = close-run B beyond-symmetric c width wide long in
      fault-steps (some_run A c width) (some_run B c width)
      (all_absent A B (λ p. p) (λ p. min (p + width) c) c ∙ a)
      (all_either A B (λ p. p) (λ p. min (p + width) c) c ∙ ap₂ ◌||◌ a b)

-- ---- what has passed
module _ (starts rows : List ℕ) (values : List ℤ) (track : List ℕ) (width room : ℕ) where
  abbrev of_result : List Step
  of_result = result_steps starts rows (length values)

  abbrev of_width : List Step
  of_width = width_steps (length track) width

  abbrev of_runs : List Step
  of_runs = run_steps starts rows values track width

  abbrev of_output : List Step
  of_output = output_steps (runs (length track) width) room

  run_test : (test : ℕ → ℕ → Bool) → some_run test (length track) width ≡ false → (i a b : ℕ) → i < runs (length track) width → a < width → b < width → test (i + a) (i + b) ≡ false
  run_test test p i a b h l m =
      any_below (λ y. test (i + a) (i + y)) width b
      (any_below (λ x. any (λ y. test (i + x) (i + y)) width) width a
      (any_below (some_places test width) (runs (length track) width) i p h) l) m

  present_pair : Passed of_runs → (i a b : ℕ) → i < runs (length track) width → a < width → b < width
      → lookup_of (pos 0) starts rows values (get_or track (i + a) 0) (get_or track (i + b) 0) ≡ answered (track_entry starts rows values track (i + a) (i + b))
  unfolding run_steps
  present_pair p i a b h l m =
      present_found starts rows values (get_or track (i + a) 0) (get_or track (i + b) 0)
      (run_test (absent_at starts rows values track) (passed_clear of_runs p).0 i a b h l m)

  small_entry : Passed of_runs → (i a b : ℕ) → i < runs (length track) width → a < width → b < width → beyond_at starts rows values track (i + a) (i + b) ≡ false
  unfolding run_steps
  small_entry p = run_test (beyond_at starts rows values track) (passed_clear of_runs p).1.0

  -- ---- the groups, one after the other
  module _ (result : Passed of_result) where
    pub track_width : {k : ℕ} → verdict of_width ≡ refused k → refused k ≡ verdict (track_steps starts rows values track width room)
    unfolding track_steps
    track_width e = sym (grouped-refused (of_result ∷ []) of_width (of_runs ∷ of_output ∷ []) (result, tt) e)

    module _ (width-passes : Passed of_width) where
      pub track_runs : {k : ℕ} → verdict of_runs ≡ refused k → refused k ≡ verdict (track_steps starts rows values track width room)
      unfolding track_steps
      track_runs e = sym (grouped-refused (of_result ∷ of_width ∷ []) of_runs (of_output ∷ []) (result, (width-passes, tt)) e)

      pub track_room : Passed of_runs → verdict of_output ≡ verdict (track_steps starts rows values track width room)
      unfolding track_steps
      track_room runs-pass = sym (grouped_last (of_result ∷ of_width ∷ of_runs ∷ []) of_output (result, (width-passes, (runs-pass, tt))))

  pub track_result : {k : ℕ} → verdict of_result ≡ refused k → refused k ≡ verdict (track_steps starts rows values track width room)
  unfolding track_steps
  track_result e = sym (grouped-refused [] of_result (of_width ∷ of_runs ∷ of_output ∷ []) tt e)

  -- ---- all of them
  pub runs_ready : Passed (track_steps starts rows values track width room) → RunsReady starts rows values track width × (runs (length track) width ≤ room)
  unfolding track_steps
  runs_ready p =
      let g = groups_passed (of_result ∷ of_width ∷ of_runs ∷ of_output ∷ []) p in
      let w = width_steps-sound (length track) width g.1.0 in (
        record {
          well = result_steps-sound starts rows (length values) g.0;
          wide = w.wide;
          few = w.few;
          long = w.long;
          found = present_pair g.1.1.0;
          entry = λ i a b h l m. record { size = ltb-false max_track_entry _ (small_entry g.1.1.0 i a b h l m) };
        },
        ltb-false room (runs (length track) width) (passed_clear of_output g.1.1.1.0).0,
      )

-- ---- 22, case by case
module _ (cells width : ℕ) where
  pub width_none : width ≡ 0 → refused 22 ≡ verdict (width_steps cells width)
  unfolding width_steps
  width_none h = sym (first_hit 22 _ _ (eq-eqb _ _ h))

  module _ (some : width ≡ 0 → ⊥) where
    pub width_wide : max_width < width → refused 22 ≡ verdict (width_steps cells width)
    unfolding width_steps
    width_wide h = sym (first_skip 22 _ _ (ne_eqb _ _ some) (first_hit 22 _ _ (lt-ltb _ _ h)))

    module _ (few : width ≤ max_width) where
      pub width_long : cells < width → refused 22 ≡ verdict (width_steps cells width)
      unfolding width_steps
      width_long h = sym (first_skip 22 _ _ (ne_eqb _ _ some) (first_skip 22 _ _ (le-ltb _ _ few) (first_hit 22 _ _ (lt-ltb _ _ h))))

      pub width_passed : width ≤ cells → answered tt ≡ verdict (width_steps cells width)
      unfolding width_steps
      width_passed h = sym (first_skip 22 _ _ (ne_eqb _ _ some) (first_skip 22 _ _ (le-ltb _ _ few) (first_skip 22 _ _ (le-ltb _ _ h) (first_end tt))))

-- ---- all cells have come: the list is that of the runs
pub slots_done : (Z : ℕ → ℕ → ℤ) (track : List ℕ) (k : ℕ) (l : List ℤ) → 0 < k → k ≤ length track → length l ≡ runs (length track) k
    → Slots (cell_entry Z track) k (length track) l → l ≡ run_sums Z track k
unfolding run_sums
slots_done Z track k l wide long n S =
    let m : min (length track) k ≡ k = omega arith in
    ext_get_or (pos 0) l (tabulate (run_sum Z track k) (runs (length track) k)) (n ∙ sym (tabulate-length (run_sum Z track k) (runs (length track) k)))
    (λ t h. S.runs_are t h (omega arith) ∙ ap (λ (j : ℕ). block_sum (cell_entry Z track) j t) m
    ∙ sym (tabulate_at (run_sum Z track k) (runs (length track) k) t (pos 0) (omega arith)))
