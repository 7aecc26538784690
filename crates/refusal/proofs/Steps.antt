-- Laws of specs/Steps.antt.
use Prim.Native.Nat.{ℕ, zero, suc, ◌+◌, ◌<◌}
use Rattle.std.proofs.Common.{arith, not-suc-le-zero, eq-or-lt_of_le, le_of_suc-le-suc, sym, ap, ◌∙◌}
use Rattle.std.proofs.Math.Numerals.{add-one}
use Rattle.std.specs.Prelude.{◌≡◌, Bool, true, false, List, [], ◌∷◌, ◌++◌}
use Rattle.std.proofs.Math.Path.{refl, subst}
use Rattle.std.proofs.Math.Logic.{⊎_elim}
use Rattle.refusal.specs.Steps.{Step, Reply, decide, first, settle, after, each, verdict, Passed, Clear, answered, refused}

-- ---- one step
pub first_hit : {A : Type 0} {b : Bool} (k : ℕ) (rest : List Step) (a : A) → b ≡ true → first ((k, b) ∷ rest) a ≡ refused k
unfolding first
first_hit k rest a e = rw e

pub first_skip : {A : Type 0} {b : Bool} {r : Reply A} (k : ℕ) (rest : List Step) (a : A) → b ≡ false → first rest a ≡ r → first ((k, b) ∷ rest) a ≡ r
unfolding first
first_skip k rest a e h = rw e h

pub first_end : {A : Type 0} (a : A) → first [] a ≡ answered a
unfolding first
first_end a = refl

answered-refused : {A : Type 0} {a : A} {k : ℕ} → answered a ≡ refused k → ⊥
answered-refused e = let z : ◌≡◌ {A = ℕ} 0 1 = cc in omega arith

decide-refused : {A B : Type 0} (b : Bool) (j k : ℕ) (x : Reply A) (y : Reply B) → (x ≡ refused k → y ≡ refused k) → decide b j x ≡ refused k → decide b j y ≡ refused k
decide-refused true j k x y f e = let q : j ≡ k = cc in ap refused q
decide-refused false j k x y f e = f e

decide_passed : {A : Type 0} {a : A} (b : Bool) (j : ℕ) (x : Reply A) → decide b j x ≡ answered a → (b ≡ false) × (x ≡ answered a)
decide_passed true j x e = absurd (answered-refused (sym e))
decide_passed false j x e = (refl, e)

-- ---- a group of steps before the others
pub first_refused : {A : Type 0} (steps : List Step) (k : ℕ) (a : A) → verdict steps ≡ refused k → first steps a ≡ refused k
unfolding first
first_refused [] k a e = absurd (answered-refused e)
first_refused (s ∷ rest) k a e = decide-refused s.1 s.0 k (verdict rest) (first rest a) (first_refused rest k a) e

pub first_passed : {A : Type 0} (steps : List Step) (a : A) → Passed steps → first steps a ≡ answered a
unfolding first
first_passed [] a e = refl
first_passed (s ∷ rest) a e = let d = decide_passed s.1 s.0 (verdict rest) e in rw d.0 (first_passed rest a d.1)

pub append-refused : {A : Type 0} (steps rest : List Step) (k : ℕ) (a : A) → verdict steps ≡ refused k → first (steps ++ rest) a ≡ refused k
unfolding first
append-refused [] rest k a e = absurd (answered-refused e)
append-refused (s ∷ steps) rest k a e = decide-refused s.1 s.0 k (verdict steps) (first (steps ++ rest) a) (append-refused steps rest k a) e

pub append_passed : {A : Type 0} (steps rest : List Step) (a : A) → Passed steps → first (steps ++ rest) a ≡ first rest a
unfolding first
append_passed [] rest a e = refl
append_passed (s ∷ steps) rest a e = let d = decide_passed s.1 s.0 (verdict steps) e in rw d.0 (append_passed steps rest a d.1)

-- ---- what a list holds afterwards
pub after_refused : {A : Type 0} (steps : List Step) (k : ℕ) (new old : A) → verdict steps ≡ refused k → after steps new old ≡ old
unfolding after
after_refused steps k new old e = ap (settle old) (first_refused steps k new e)

pub after_passed : {A : Type 0} (steps : List Step) (new old : A) → Passed steps → after steps new old ≡ new
unfolding after
after_passed steps new old e = ap (settle old) (first_passed steps new e)

-- reply and list together, as a call's contract has them
pub both_refused : {A : Type 0} (steps : List Step) {k : ℕ} (new old : A) → verdict steps ≡ refused k → (refused k ≡ verdict steps) × (old ≡ after steps new old)
both_refused steps {k} new old e = (sym e, sym (after_refused steps k new old e))

pub both_passed : {A : Type 0} (steps : List Step) {new left : A} (old : A) → Passed steps → left ≡ new → (answered tt ≡ verdict steps) × (left ≡ after steps new old)
both_passed steps {new} old e q = (sym e, q ∙ sym (after_passed steps new old e))

-- ---- each condition
pub passed_clear : (steps : List Step) → Passed steps → Clear steps
unfolding first
passed_clear [] e = tt
passed_clear (s ∷ steps) e = let d = decide_passed s.1 s.0 (verdict steps) e in (d.0, passed_clear steps d.1)

pub clear_passed : (steps : List Step) → Clear steps → Passed steps
unfolding first
clear_passed [] h = refl
clear_passed (s ∷ steps) h = rw h.0 (clear_passed steps h.1)

pub passed_append : (steps rest : List Step) → Passed steps → Passed rest → Passed (steps ++ rest)
passed_append steps rest p q = append_passed steps rest tt p ∙ q

pub passed_front : (steps rest : List Step) → Passed (steps ++ rest) → Passed steps
unfolding first
passed_front [] rest e = refl
passed_front (s ∷ steps) rest e = let d = decide_passed s.1 s.0 (verdict (steps ++ rest)) e in rw d.0 (passed_front steps rest d.1)

pub passed_back : (steps rest : List Step) → Passed (steps ++ rest) → Passed rest
passed_back steps rest e = sym (append_passed steps rest tt (passed_front steps rest e)) ∙ e

-- ---- element by element
module _ (f : ℕ → List Step) where
  pub each_none : Passed (each f 0)
  unfolding each first
  each_none = refl

  pub each_more : (k : ℕ) → Passed (each f k) → Passed (f k) → Passed (each f (k + 1))
  unfolding each
  each_more k p q = rw add-one (passed_append (each f k) (f k) p q)

  -- the first element with a fault decides
  pub each_refused : {A : Type 0} (n k number : ℕ) (a : A) → k < n → Passed (each f k) → verdict (f k) ≡ refused number → first (each f n) a ≡ refused number
  unfolding each
  each_refused zero k number a l p e = absurd (not-suc-le-zero l)
  each_refused (suc n) k number a l p e =
      ⊎_elim
      (λ q.
      append_passed (each f n) (f n) a (subst (λ (j : ℕ). Passed (each f j)) q p)
      ∙ first_refused (f n) number a (subst (λ (j : ℕ). verdict (f j) ≡ refused number) q e))
      (λ m. append-refused (each f n) (f n) number a (each_refused n k number tt m p e))
      (eq-or-lt_of_le (le_of_suc-le-suc l))

  -- no element has a fault
  pub each_passed : (n k : ℕ) → Passed (each f n) → k < n → Passed (f k)
  unfolding each
  each_passed zero k p l = absurd (not-suc-le-zero l)
  each_passed (suc n) k p l =
      ⊎_elim
      (λ q. subst (λ (j : ℕ). Passed (f j)) (sym q) (passed_back (each f n) (f n) p))
      (λ m. each_passed n k (passed_front (each f n) (f n) p) m)
      (eq-or-lt_of_le (le_of_suc-le-suc l))

  pub passed_each : (n : ℕ) → ((k : ℕ) → k < n → Passed (f k)) → Passed (each f n)
  unfolding each first
  passed_each zero h = refl
  passed_each (suc n) h = passed_append (each f n) (f n) (passed_each n (λ k l. h k (omega arith))) (h n (omega arith))
