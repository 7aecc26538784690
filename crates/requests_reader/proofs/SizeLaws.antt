-- What is told of the size line, test by test.
-- Assumes nothing.
use Prim.Native.Nat.{ℕ, ◌≤◌, ◌<◌}
use native.Mathlib.Omega.{arith}
use mathlib.Core.Path.{◌≡◌, refl, sym, ap, ◌∙◌}
use mathlib.Core.Bool.{true, false, not, false≢true}
use mathlib.Core.List.{List}
use lib.Dec.{eqb, ltb}
use borrow.Author.Tests.{eq-eqb, ne_eqb, lt-ltb, le-ltb}
use Rattle.refusal.specs.Bounds.{max_dimension, max_entries}
use Rattle.refusal.specs.Steps.{Step, refused, verdict}
use Rattle.refusal.proofs.Steps.{first_hit, first_skip, first_end}
use Rattle.matrix_market.specs.File.{are_numbers, number, file_size_steps}
use Rattle.file_lines.specs.Places.{fields_at, TripleAt}
use Rattle.requests_reader.specs.HeaderLines.{SizeRead}
use Rattle.requests_reader.proofs.CutLaws.{above_cut}

-- refused
pub size_not : (text : List ℕ) (p : ℕ) → verdict (file_size_steps (fields_at text p)) ≡ refused 16 → SizeRead text p false 0 0 0
size_not text p h =
    record {
      refuses = λ _. h;
      passes = λ q. absurd (false≢true q);
      n_is = λ q. absurd (false≢true q);
      count_is = λ q. absurd (false≢true q);
      small = omega arith;
      left = λ q. absurd (false≢true q);
      within = omega arith;
    }

pub size_broken : (text : List ℕ) (p : ℕ) → TripleAt text p false 0 0 0 0 → verdict (file_size_steps (fields_at text p)) ≡ refused 16
unfolding file_size_steps
size_broken text p t = first_hit 16 _ tt (ap not (sym t.line.shaped))

module _ (text : List ℕ) (p a b c next : ℕ) (t : TripleAt text p true a b c next) where
  abbrev steps : List Step
  steps = file_size_steps (fields_at text p)

  shaped : not (are_numbers 3 (fields_at text p)) ≡ false
  shaped = ap not (sym t.line.shaped)

  first_above : ltb max_dimension a ≡ ltb max_dimension (number 0 (fields_at text p))
  first_above = ap (ltb max_dimension) (t.first_is refl) ∙ above_cut max_dimension (omega arith) (number 0 (fields_at text p))

  pub size_large : max_dimension < a → verdict steps ≡ refused 16
  unfolding file_size_steps
  size_large h = first_skip 16 _ tt shaped (first_hit 16 _ tt (sym first_above ∙ lt-ltb _ _ h))

  module _ (l : a ≤ max_dimension) where
    within_bound : ltb max_dimension (number 0 (fields_at text p)) ≡ false
    within_bound = sym first_above ∙ le-ltb _ _ l

    first_exact : number 0 (fields_at text p) ≡ a
    first_exact = omega (arith, t.first_is refl)

    pub size_unequal : (a ≡ b → ⊥) → verdict steps ≡ refused 16
    unfolding file_size_steps
    size_unequal h =
        let differ : number 0 (fields_at text p) ≡ number 1 (fields_at text p) → ⊥ = λ e. h (omega (arith, e, l, first_exact, t.second_is refl)) in
        first_skip 16 _ tt shaped (first_skip 16 _ tt within_bound (first_hit 16 _ tt (ap not (ne_eqb _ _ differ))))

    module _ (q : a ≡ b) where
      equal : not (eqb (number 0 (fields_at text p)) (number 1 (fields_at text p))) ≡ false
      equal =
          let e : number 0 (fields_at text p) ≡ number 1 (fields_at text p) = omega (arith, q, l, first_exact, t.second_is refl) in
          ap not (eq-eqb _ _ e)

      third_above : ltb max_entries c ≡ ltb max_entries (number 2 (fields_at text p))
      third_above = ap (ltb max_entries) (t.third_is refl) ∙ above_cut max_entries (omega arith) (number 2 (fields_at text p))

      pub size_many : max_entries < c → verdict steps ≡ refused 16
      unfolding file_size_steps
      size_many h =
          first_skip 16 _ tt shaped
          (first_skip 16 _ tt within_bound
          (first_skip 16 _ tt equal
          (first_hit 16 _ tt (sym third_above ∙ lt-ltb _ _ h))))

      pub size_passes : c ≤ max_entries → SizeRead text p true a c next
      unfolding file_size_steps
      size_passes h =
          record {
            refuses = λ e. absurd (false≢true (sym e));
            passes = λ _.
                first_skip 16 _ tt shaped
                (first_skip 16 _ tt within_bound
                (first_skip 16 _ tt equal
                (first_skip 16 _ tt (sym third_above ∙ le-ltb _ _ h) (first_end tt))));
            n_is = λ _. first_exact;
            count_is = λ _. omega (arith, h, t.third_is refl);
            small = l;
            left = λ _. t.line.left refl;
            within = t.line.within;
          }
