-- Laws of specs/Slots.antt.
use Rattle.std.specs.Prelude.{ℕ, suc, ◌+◌, ◌-◌, ◌≤◌, ◌<◌, min, ◌≡◌, refl, List, length, set, ℤ, pos, ◌+ℤ◌, ◌-ℤ◌}
use Rattle.std.proofs.Common.{arith, le_refl, sym, ap, ap₂, subst, ◌∙◌, length-set, get_or-set_same, get_or-set_other}
use Rattle.std.proofs.Math.Decide.{dec_lt, ℕ_discrete}
use Rattle.std.proofs.Math.ListN.{get_or-eq_default}
use Rattle.integers.specs.Size.{SizeWithin}
use Rattle.integers.proofs.Size.{size_is}
use Rattle.columns.specs.WholeFactor.{whole_value}
use Rattle.run_sums.specs.Runs.{block_sum, runs}
use Rattle.run_sums.specs.Slide.{strip}
use Rattle.run_sums.proofs.Slide.{strip_none, strip_more, block_more, block_leave}
use Rattle.track_variances.specs.Track.{track_entry}
use Rattle.track_variances.proofs.Sizes.{block_small, after_small, before_small}
use Rattle.track_variances.specs.Slots.{Slots, Met, Come, f, MayCome}

pub met_none : (E : ℕ → ℕ → ℤ) (c f : ℕ) (l : List ℤ) → Met E c f f l l
met_none E c f l = record { long = refl; grown = λ t h a b. absurd (omega arith); front = λ t h. refl; back = λ t h. refl }

module _ (E : ℕ → ℕ → ℤ) (c f p : ℕ) (old l : List ℤ) (M : Met E c f p old l) (from : f ≤ p) where
  -- one cell more
  pub met_more : (x : ℤ) → x ≡ whole_value l (p + 1) +ℤ (E c p +ℤ E c p) → Met E c f (p + 1) old (set l (p + 1) x)
  met_more x e =
      let n : length (set l (p + 1) x) ≡ length l = length-set l (p + 1) x in
      record {
        long = n ∙ M.long;
        grown = λ t h a b. elim (ℕ_discrete t (p + 1)) [
          | yes q ↦ here t q (omega arith)
          | no q ↦ get_or-set_other l (p + 1) t x (pos 0) q ∙ M.grown t (omega arith) a (omega arith)
        ];
        front = λ t h. get_or-set_other l (p + 1) t x (pos 0) (λ q. omega arith) ∙ M.front t h;
        back = λ t h. get_or-set_other l (p + 1) t x (pos 0) (λ q. omega arith) ∙ M.back t (omega arith);
      }
    where
      here : (t : ℕ) → t ≡ p + 1 → t < length l → whole_value (set l (p + 1) x) t ≡ whole_value old t +ℤ (E c (t - 1) +ℤ E c (t - 1))
      here t q h =
          let r : t - 1 ≡ p = omega arith in
          ap (λ (i : ℕ). whole_value (set l (p + 1) x) i) q
          ∙ get_or-set_same l (p + 1) x (pos 0) (omega arith) ∙ e ∙ ap (λ (z : ℤ). z +ℤ (E c p +ℤ E c p)) (M.back (p + 1) (omega arith))
          ∙ ap₂ (λ (i j : ℕ). whole_value old i +ℤ (E c j +ℤ E c j)) (sym q) (sym r)

-- the strip of the cell that comes begins
pub met_all : (E : ℕ → ℕ → ℤ) (c f : ℕ) (old l : List ℤ) → Met E c f c old l → f ≤ c → (x : ℤ) → x ≡ E c c → Come E c f old (set l (c + 1) x)
met_all E c f old l M h x e =
    let n : length (set l (c + 1) x) ≡ length l = length-set l (c + 1) x in
    record {
      long = n ∙ M.long;
      grown = λ t i a b. get_or-set_other l (c + 1) t x (pos 0) (λ q. omega arith) ∙ M.grown t (omega arith) a b;
      front = λ t i. get_or-set_other l (c + 1) t x (pos 0) (λ q. omega arith) ∙ M.front t i;
      begun = λ i. get_or-set_same l (c + 1) x (pos 0) (omega arith) ∙ e;
    }

-- no cell has come
pub slots_none : (E : ℕ → ℕ → ℤ) (k : ℕ) (l : List ℤ) → whole_value l 0 ≡ pos 0 → Slots E k 0 l
slots_none E k l e = record { runs_are = λ t h a. first t (omega arith); strips_are = λ t h a b. absurd (omega arith) }
  where
    first : (t : ℕ) → t ≡ 0 → whole_value l t ≡ block_sum E (min 0 k) t
    first t q =
        let r : min 0 k ≡ 0 = omega arith in
        ap (whole_value l) q ∙ e ∙ sym (ap (λ (j : ℕ). block_sum E j t) r)

-- the run before, without the cell that leaves it
module _ (E : ℕ → ℕ → ℤ) (symmetric : (p q : ℕ) → E p q ≡ E q p) (k c : ℕ) (l : List ℤ) (S : Slots E k c l) (wide : 0 < k) where
  pub before_growing : c < k → 0 < length l → whole_value l 0 ≡ block_sum E (c - (c + 1 - k)) (c + 1 - k)
  before_growing h n =
      let q : min c k ≡ c - (c + 1 - k) = omega arith in
      let z : 0 ≡ c + 1 - k = omega arith in
      S.runs_are 0 n (omega arith) ∙ ap₂ (block_sum E) q z

  pub before_sliding : k ≤ c → c - k + 1 < length l → whole_value l (c - k) -ℤ whole_value l (c - k + 1) ≡ block_sum E (c - (c + 1 - k)) (c + 1 - k)
  before_sliding h n = slid (c - k) (omega arith) n
    where
      whole : min c k ≡ suc (k - 1)
      whole = omega arith

      left : (i : ℕ) → i ≡ c - k → i < length l → whole_value l i ≡ block_sum E (suc (k - 1)) i
      left i e j = S.runs_are i j (omega arith) ∙ ap (λ (x : ℕ). block_sum E x i) whole

      first : (i : ℕ) → i ≡ c - k → i + 1 < length l → whole_value l (i + 1) ≡ strip E i (i + 1) (k - 1)
      first i e j =
          let a : i + 1 - 1 ≡ i = omega arith in
          let b : c - (i + 1) ≡ k - 1 = omega arith in
          S.strips_are (i + 1) j (omega arith) (omega arith) ∙ ap₂ (λ (x y : ℕ). strip E x (i + 1) y) a b

      slid : (i : ℕ) → i ≡ c - k → i + 1 < length l → whole_value l i -ℤ whole_value l (i + 1) ≡ block_sum E (c - (c + 1 - k)) (c + 1 - k)
      slid i e j =
          let d : k - 1 ≡ c - (c + 1 - k) = omega arith in
          let f : i + 1 ≡ c + 1 - k = omega arith in
          ap₂ ◌-ℤ◌ (left i e (omega arith)) (first i e j) ∙ block_leave E symmetric (k - 1) i ∙ ap₂ (block_sum E) d f

  -- the cell c has come to the run of f, and the run's sum is written
  module _ (l' : List ℤ) (C : Come E c (c + 1 - k) l l') (x : ℤ) (is : x ≡ block_sum E (min (c + 1) k) (c + 1 - k)) where
    abbrev written : List ℤ
    written = set l' (f E symmetric k c l S wide l' C x is) x

    same_length : length written ≡ length l
    same_length = length-set l' (f E symmetric k c l S wide l' C x is) x ∙ C.long

    run_place : (t : ℕ) → t < length written → t ≤ (f E symmetric k c l S wide l' C x is) → whole_value written t ≡ block_sum E (min (c + 1) k) t
    run_place t h a = elim (ℕ_discrete t (f E symmetric k c l S wide l' C x is)) [
      | yes q ↦
          let n : length written ≡ length l' = length-set l' (f E symmetric k c l S wide l' C x is) x in
          ap (whole_value written) q ∙ get_or-set_same l' (f E symmetric k c l S wide l' C x is) x (pos 0) (omega arith) ∙ is ∙ ap (block_sum E (min (c + 1) k)) (sym q)
      | no q ↦
          let n = same_length in
          let m : min c k ≡ min (c + 1) k = omega arith in
          get_or-set_other l' (f E symmetric k c l S wide l' C x is) t x (pos 0) q ∙ C.front t a ∙ S.runs_are t (omega arith) (omega arith) ∙ ap (λ (j : ℕ). block_sum E j t) m
    ]

    strip_place : (t : ℕ) → t < length written → (f E symmetric k c l S wide l' C x is) < t → t ≤ c + 1 → whole_value written t ≡ strip E (t - 1) t (c + 1 - t)
    strip_place t h a b = get_or-set_other l' (f E symmetric k c l S wide l' C x is) t x (pos 0) (λ q. omega arith) ∙ there (ℕ_discrete t (c + 1))
      where
        n : length written ≡ length l'
        n = length-set l' (f E symmetric k c l S wide l' C x is) x

        there : Dec (t ≡ c + 1) → whole_value l' t ≡ strip E (t - 1) t (c + 1 - t)
        there (yes q) =
            let r : t - 1 ≡ c = omega arith in
            let z : c + 1 - t ≡ 0 = omega arith in
            ap (whole_value l') q ∙ C.begun (omega (arith, n)) ∙ sym (ap₂ (λ (i j : ℕ). strip E i t j) r z ∙ strip_none E c t)
        there (no q) =
            let r : suc (c - t) ≡ c + 1 - t = omega arith in
            let z : t + (c - t) ≡ c = omega arith in
            let m = same_length in
            let g : E c (t - 1) ≡ E (t - 1) (t + (c - t)) = symmetric c (t - 1) ∙ ap (E (t - 1)) (sym z) in
            C.grown t (omega (arith, n)) a (omega arith)
            ∙ ap₂ ◌+ℤ◌ (S.strips_are t (omega arith) (omega arith) (omega arith)) (ap₂ ◌+ℤ◌ g g)
            ∙ sym (strip_more E (t - 1) t (c - t)) ∙ ap (strip E (t - 1) t) r

    come_slots : Slots E k (c + 1) written
    come_slots = record { runs_are = run_place; strips_are = strip_place }

  pub slots_next : (i : ℕ) → i ≡ c + 1 - k → {l' : List ℤ} → Come E c i l l' → {x : ℤ} → x ≡ block_sum E (min (c + 1) k) (c + 1 - k) → Slots E k (c + 1) (set l' i x)
  slots_next i e {l'} C {x} is =
      subst (λ (j : ℕ). Slots E k (c + 1) (set l' j x)) (sym e) (come_slots l' (subst (λ (j : ℕ). Come E c j l l') e C) x is)

-- the run's sum after the cell has come
pub come_joins : (E : ℕ → ℕ → ℤ) → ((p q : ℕ) → E p q ≡ E q p) → (k c : ℕ) → 0 < k
    → block_sum E (c - (c + 1 - k)) (c + 1 - k) +ℤ strip E c (c + 1 - k) (c - (c + 1 - k)) ≡ block_sum E (min (c + 1) k) (c + 1 - k)
come_joins E symmetric k c w =
    let f = c + 1 - k in
    let m = c - f in
    let q : suc m ≡ min (c + 1) k = omega arith in
    let r : c ≡ f + m = omega arith in
    ap (λ (p : ℕ). block_sum E m f +ℤ strip E p f m) r ∙ sym (block_more E symmetric m f) ∙ ap (λ (j : ℕ). block_sum E j f) q

module _ {starts rows : List ℕ} {values : List ℤ} {track : List ℕ} {k c : ℕ} {l : List ℤ} (M : MayCome starts rows values track k c l) where
  abbrev entries : ℕ → ℕ → ℤ
  entries = track_entry starts rows values track

  -- the last run that is done
  pub run_small : k ≤ c → SizeWithin 1152921504606846976 (whole_value l (c - k))
  run_small h = run M.inside M.long M.ready.wide
    where
      run : c < length track → length l ≡ runs (length track) k → 0 < k → SizeWithin 1152921504606846976 (whole_value l (c - k))
      run i n w =
          size_is (sym (M.slots.runs_are (c - k) (omega arith) (le_refl (c - k)))) (block_small M.ready (c - k) (min c k) (omega arith) (omega arith))

  -- the strip of a cell of the run
  pub slot_small : (t : ℕ) → c - k < t → t ≤ c → SizeWithin 4503599627370496 (whole_value l t)
  slot_small t a b = elim (dec_lt t (length l)) [
    | yes h ↦ here h M.inside
    | no h ↦ size_is (sym (get_or-eq_default l (pos 0) (omega arith))) (record { size = omega arith })
  ]
    where
      here : t < length l → c < length track → SizeWithin 4503599627370496 (whole_value l t)
      here h i =
          let e : t - 1 + 1 ≡ t = omega arith in
          size_is (ap (λ (j : ℕ). strip entries (t - 1) j (c - t)) e ∙ sym (M.slots.strips_are t h a b))
          (after_small M.ready (t - 1) (c - t) (omega arith) (omega arith))

  -- the run that the cell joins, before it does and after
  pub joined_small : SizeWithin 1152921504606846976 (block_sum entries (c - (c + 1 - k)) (c + 1 - k))
  joined_small = go M.inside M.ready.wide M.ready.long
    where
      go : c < length track → 0 < k → k ≤ length track → SizeWithin 1152921504606846976 (block_sum entries (c - (c + 1 - k)) (c + 1 - k))
      go i w g = block_small M.ready (c + 1 - k) (c - (c + 1 - k)) (omega arith) (omega arith)

  pub coming_small : SizeWithin 4503599627370496 (strip entries c (c + 1 - k) (c - (c + 1 - k)))
  coming_small = let w = M.ready.wide in before_small M.ready c (c + 1 - k) (omega arith) (omega arith) M.inside
