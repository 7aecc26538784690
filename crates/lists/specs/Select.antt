-- The numbers between two ends that pass a test, ascending, and how many they are.
-- Assumes nothing.
use Prim.Native.Nat.{ℕ, zero, suc, ◌+◌, ◌-◌, ◌≤◌, ◌<◌}
use native.Mathlib.Omega.{arith}
use Rattle.std.proofs.Common.{not-suc-le-zero, eq-or-lt_of_le, le_of_suc-le-suc, add-zero, sym, ◌∙◌, ltb-true, lt-ltb}
use Rattle.std.specs.Prelude.{◌≡◌, Bool, ltb, get_or}
use Rattle.std.proofs.Math.Path.{refl, ap, ap₂, subst}
use Rattle.std.proofs.Math.Bool.{true, false}
use mathlib.Core.List.{List, [], ◌∷◌, ◌++◌, map, append-nil, append_assoc}
use Rattle.std.proofs.Math.Logic.{⊎_elim}
use Rattle.std.proofs.Math.ListN.{length, length-append, get_or-append}
use Rattle.std.proofs.Math.Seq.{get_or-append_seam}
use Rattle.lists.specs.Test.{any_in, any_in_found, any_in-hit, same_truth}
use Rattle.lists.specs.Sum.{bit, sum_to, sum_to_mono}

-- one number, if it passes
abbrev pub one : Bool → ℕ → List ℕ
one true k = k ∷ []
one false k = []

-- of the k numbers from s on, those that pass
unfoldable pub picked : (ℕ → Bool) → ℕ → ℕ → List ℕ
picked test s zero = []
picked test s (suc k) = picked test s k ++ one (test (s + k)) (s + k)

-- the numbers from s to below e that pass
unfoldable pub select : (ℕ → Bool) → ℕ → ℕ → List ℕ
select test s e = picked test s (e - s)

-- how many pass
abbrev pub tally : (ℕ → Bool) → ℕ → ℕ → ℕ
tally test s e = length (select test s e)

pub length_one : (b : Bool) (k : ℕ) → length (one b k) ≡ bit b
length_one true k = refl
length_one false k = refl

module _ (test : ℕ → Bool) where
  pub select_none : (s : ℕ) → select test s s ≡ []
  unfolding select picked
  select_none s = let q : s - s ≡ 0 = omega arith in rw q

  pub select_next : (s k : ℕ) → s ≤ k → select test s (k + 1) ≡ select test s k ++ one (test k) k
  unfolding select picked
  select_next s k h =
      let q : (k + 1) - s ≡ suc (k - s) = omega arith in
      let p : s + (k - s) ≡ k = omega arith in
      rw (q, p)

  -- with the next number, and without
  pub select_yes : (s k : ℕ) → s ≤ k → test k ≡ true → select test s (k + 1) ≡ select test s k ++ (k ∷ [])
  select_yes s k h e = select_next s k h ∙ ap (λ (b : Bool). select test s k ++ one b k) e

  pub select_no : (s k : ℕ) → s ≤ k → test k ≡ false → select test s (k + 1) ≡ select test s k
  select_no s k h e = select_next s k h ∙ ap (λ (b : Bool). select test s k ++ one b k) e ∙ append-nil _

  -- a range in two parts
  pub select_join : (s m e : ℕ) → s ≤ m → m ≤ e → select test s e ≡ select test s m ++ select test m e
  select_join s m e h l =
      let q : m + (e - m) ≡ e = omega arith in
      subst (λ (k : ℕ). select test s k ≡ select test s m ++ select test m k) q (up (e - m))
    where
      up : (k : ℕ) → select test s (m + k) ≡ select test s m ++ select test m (m + k)
      up zero = rw (add-zero, select_none, append-nil)
      up (suc k) =
          let q : m + suc k ≡ m + k + 1 = omega arith in
          ap (select test s) q ∙ select_next s (m + k) (omega arith) ∙ ap (λ (x : List ℕ). x ++ one (test (m + k)) (m + k)) (up k)
          ∙ append_assoc (select test s m) (select test m (m + k)) _
          ∙ ap (λ (x : List ℕ). select test s m ++ x) (sym (ap (select test m) q ∙ select_next m (m + k) (omega arith)))

  -- and its count
  pub tally_join : (s m e : ℕ) → s ≤ m → m ≤ e → tally test s e ≡ tally test s m + tally test m e
  tally_join s m e h l = ap length (select_join s m e h l) ∙ length-append (select test s m) (select test m e)

  -- a part where none passes
  pub select_gap : (s m e : ℕ) → s ≤ m → m ≤ e → ((k : ℕ) → m ≤ k → k < e → test k ≡ false) → select test s e ≡ select test s m
  select_gap s m e h l none =
      let q : m + (e - m) ≡ e = omega arith in
      subst (λ (k : ℕ). select test s k ≡ select test s m) q (up (e - m) (omega arith))
    where
      up : (k : ℕ) → m + k ≤ e → select test s (m + k) ≡ select test s m
      up zero b = ap (select test s) (add-zero m)
      up (suc k) b =
          let q : m + suc k ≡ m + k + 1 = omega arith in
          ap (select test s) q ∙ select_no s (m + k) (omega arith) (none (m + k) (omega arith) (omega arith)) ∙ up k (omega arith)

  pub tally_none : (s : ℕ) → tally test s s ≡ 0
  tally_none s = ap length (select_none s)

  pub tally_next : (s k : ℕ) → s ≤ k → tally test s (k + 1) ≡ tally test s k + bit (test k)
  tally_next s k h =
      ap length (select_next s k h) ∙ length-append (select test s k) (one (test k) k)
      ∙ ap (λ (m : ℕ). tally test s k + m) (length_one (test k) k)

  picked_most : (s k : ℕ) → length (picked test s k) ≤ k
  unfolding picked
  picked_most s zero = omega arith
  picked_most s (suc k) = go (test (s + k)) (picked_most s k)
    where
      go : (b : Bool) → length (picked test s k) ≤ k → length (picked test s k ++ one b (s + k)) ≤ suc k
      go true h = simp length-append (omega arith)
      go false h = simp length-append (omega arith)

  pub tally_most : (s e : ℕ) → tally test s e ≤ e - s
  unfolding select
  tally_most s e = picked_most s (e - s)

  picked_sum : (s k : ℕ) → length (picked test s k) ≡ sum_to (λ i. bit (test (s + i))) k
  unfolding picked sum_to
  picked_sum s zero = refl
  picked_sum s (suc k) = length-append (picked test s k) _ ∙ ap₂ ◌+◌ (picked_sum s k) (length_one (test (s + k)) (s + k))

  -- the count is a sum of bits
  pub tally_sum : (s e : ℕ) → tally test s e ≡ sum_to (λ i. bit (test (s + i))) (e - s)
  unfolding select
  tally_sum s e = picked_sum s (e - s)

  -- counts rise
  pub tally_mono : (s k e : ℕ) → s ≤ k → k ≤ e → tally test s k ≤ tally test s e
  tally_mono s k e h l =
      omega (arith, tally_sum s k, tally_sum s e, sum_to_mono (λ i. bit (test (s + i))) (k - s) (e - s) (omega arith))

  -- what is known of the number at a place: it is in range and passes, and is above those before it
  pub record Picked (s e : ℕ) (l : List ℕ) (i : ℕ) : Type 0 where
    pub from : s ≤ get_or l i 0
    pub below : get_or l i 0 < e
    pub passes : test (get_or l i 0) ≡ true
    pub rises : (j : ℕ) → j < i → get_or l j 0 < get_or l i 0

  abbrev AllPicked : ℕ → ℕ → List ℕ → Type 0
  AllPicked s e l = (i : ℕ) → i < length l → Picked s e l i

  keep : (s e e' : ℕ) (l x : List ℕ) (i : ℕ) → e ≤ e' → i < length l → AllPicked s e l → Picked s e' (l ++ x) i
  keep s e e' l x i h k A =
      let P = A i k in
      let q = get_or-append l x 0 i k in
      let B : get_or l i 0 < e = P.below in
      record {
        from = rw q P.from;
        below = rw q (omega arith);
        passes = rw q P.passes;
        rises = λ j m.
            let r : j < length l = omega arith in
            rw (q, get_or-append l x 0 j r) (P.rises j m);
      }

  last : (s e : ℕ) (l : List ℕ) → s ≤ e → test e ≡ true → AllPicked s e l → Picked s (suc e) (l ++ e ∷ []) (length l)
  last s e l h t A =
      let q = get_or-append_seam l e [] 0 in
      record {
        from = rw q h;
        below = rw q (omega arith);
        passes = rw q t;
        rises = λ j m. rw (q, get_or-append l (e ∷ []) 0 j m) (A j m).below;
      }

  grow : (s e : ℕ) (l : List ℕ) (b : Bool) → s ≤ e → test e ≡ b → AllPicked s e l → AllPicked s (suc e) (l ++ one b e)
  grow s e l true h t A i k =
      ⊎_elim
      (λ q. subst (λ (m : ℕ). Picked s (suc e) (l ++ e ∷ []) m) (sym q) (last s e l h t A))
      (λ m. keep s e (suc e) l (e ∷ []) i (omega arith) m A)
      (eq-or-lt_of_le (let z : i < length l + 1 = simp length-append at k in omega arith))
  grow s e l false h t A i k = keep s e (suc e) l [] i (omega arith) (let z : i < length l + 0 = simp length-append at k in omega arith) A

  picked_at : (s k : ℕ) → AllPicked s (s + k) (picked test s k)
  unfolding picked
  picked_at s zero = λ i l. absurd (not-suc-le-zero l)
  picked_at s (suc k) =
      let q : s + suc k ≡ suc (s + k) = omega arith in
      rw q (grow s (s + k) (picked test s k) (test (s + k)) (omega arith) refl (picked_at s k))

  pub select_at : (s e i : ℕ) → s ≤ e → i < length (select test s e) → Picked s e (select test s e) i
  unfolding select
  select_at s e i h l =
      let q : s + (e - s) ≡ e = omega arith in
      subst (λ (m : ℕ). Picked s m (picked test s (e - s)) i) q (picked_at s (e - s) i l)

  hold : (s k j : ℕ) → j < k → test (s + j) ≡ true → (i : ℕ) × (i < length (picked test s k)) × (get_or (picked test s k) i 0 ≡ s + j)
  unfolding picked
  hold s zero j l t = absurd (not-suc-le-zero l)
  hold s (suc k) j l t =
      ⊎_elim
      (λ q.
      let t' : test (s + k) ≡ true = subst (λ (m : ℕ). test (s + m) ≡ true) q t in
      (length (picked test s k), rw t' (simp length-append (omega arith)), rw t' (get_or-append_seam (picked test s k) (s + k) [] 0 ∙ ap (λ (m : ℕ). s + m) (sym q))))
      (λ m.
      let f = hold s k j m t in
      (f.0, simp length-append (let z : f.0 < length (picked test s k) = f.1 in omega arith), get_or-append (picked test s k) _ 0 f.0 f.1 ∙ f.2))
      (eq-or-lt_of_le (le_of_suc-le-suc l))

  -- every number that passes is there
  pub select_holds : (s e k : ℕ) → s ≤ k → k < e → test k ≡ true → (i : ℕ) × (i < length (select test s e)) × (get_or (select test s e) i 0 ≡ k)
  unfolding select
  select_holds s e k h l t =
      let q : s + (k - s) ≡ k = omega arith in
      let f = hold s (e - s) (k - s) (omega arith) (ap test q ∙ t) in
      (f.0, f.1, f.2 ∙ q)

-- a test holds of a number exactly if it counts one
pub any_in-tally : (test : ℕ → Bool) (s e : ℕ) → any_in test s e ≡ ltb 0 (tally test s e)
any_in-tally test s e = same_truth (any_in test s e) (ltb 0 (tally test s e)) there back
  where
    there : any_in test s e ≡ true → ltb 0 (tally test s e) ≡ true
    there h =
        let f = any_in_found test s e h in
        let g = select_holds test s e f.0 f.1 f.2 f.3 in
        lt-ltb 0 (tally test s e) (omega (arith, g.1))

    back : ltb 0 (tally test s e) ≡ true → any_in test s e ≡ true
    back h =
        let l : 0 < tally test s e = ltb-true _ _ h in
        let u = select_at test s e 0 (omega (arith, tally_most test s e)) l in
        any_in-hit test s e _ u.from u.below u.passes

picked_cong : (f g : ℕ → Bool) (s k : ℕ) → ((i : ℕ) → i < k → f (s + i) ≡ g (s + i)) → picked f s k ≡ picked g s k
unfolding picked
picked_cong f g s zero h = refl
picked_cong f g s (suc k) h =
    ap₂ ◌++◌ (picked_cong f g s k (λ i l. h i (omega arith))) (ap (λ (b : Bool). one b (s + k)) (h k (omega arith)))

-- tests that agree select the same
pub select_cong : (f g : ℕ → Bool) (s e : ℕ) → ((k : ℕ) → s ≤ k → k < e → f k ≡ g k) → select f s e ≡ select g s e
unfolding select
select_cong f g s e h = picked_cong f g s (e - s) (λ i l. h (s + i) (omega arith) (omega arith))

-- a place of a mapped list
pub get_d_mapped : {A B : Type 0} (f : A → B) (l : List A) (i : ℕ) (d : A) (e : B) → i < length l → get_or (map f l) i e ≡ f (get_or l i d)
get_d_mapped f [] i d e h = absurd (not-suc-le-zero h)
get_d_mapped f (x ∷ l) zero d e h = refl
get_d_mapped f (x ∷ l) (suc i) d e h = get_d_mapped f l i d e (le_of_suc-le-suc h)

-- a mapped list with one more
pub map_snoc : {A B : Type 0} (f : A → B) (l : List A) (x : A) → map f (l ++ (x ∷ [])) ≡ map f l ++ (f x ∷ [])
map_snoc f [] x = refl
map_snoc f (y ∷ l) x = ap (λ r. f y ∷ r) (map_snoc f l x)

picked-split : (a b d : ℕ → Bool) → ((k : ℕ) → bit (a k) ≡ bit (b k) + bit (d k)) → (s k : ℕ) → length (picked a s k) ≡ length (picked b s k) + length (picked d s k)
unfolding picked
picked-split a b d h s zero = refl
picked-split a b d h s (suc k) =
    let r = picked-split a b d h s k in
    let q = h (s + k) in
    let x = length_one (a (s + k)) (s + k) in
    let y = length_one (b (s + k)) (s + k) in
    let z = length_one (d (s + k)) (s + k) in
    simp length-append (omega arith)

-- a test that is one of two, never both, counts both
pub tally-split : (a b d : ℕ → Bool) → ((k : ℕ) → bit (a k) ≡ bit (b k) + bit (d k)) → (s e : ℕ) → tally a s e ≡ tally b s e + tally d s e
unfolding select
tally-split a b d h s e = picked-split a b d h s (e - s)

-- a test that one number passes counts 1
pub tally_once : (a : ℕ → Bool) (s e p : ℕ) → s ≤ p → p < e → a p ≡ true → ((q : ℕ) → s ≤ q → q < e → a q ≡ true → q ≡ p) → tally a s e ≡ 1
tally_once a s e p lo hi t only = go (tally a s e) refl
  where
    at : (i : ℕ) → i < tally a s e → get_or (select a s e) i 0 ≡ p
    at i l = let u = select_at a s e i (omega arith) l in only _ u.from u.below u.passes

    go : (m : ℕ) → tally a s e ≡ m → tally a s e ≡ 1
    go zero q = let f = select_holds a s e p lo hi t in absurd (omega (arith, f.1))
    go (suc zero) q = q
    go (suc (suc m)) q =
        let one< : 1 < tally a s e = omega arith in
        let r = (select_at a s e 1 (omega arith) one<).rises 0 (omega arith) in
        absurd (omega (arith, r, at 0 (omega arith), at 1 one<))
