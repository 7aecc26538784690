-- Ascending lists with the same members are equal.
-- Assumes nothing.
use Rattle.std.specs.Prelude.{ℕ, zero, suc, ◌≤◌, ◌<◌, ◌≡◌, refl, List, [], ◌∷◌, length, get_or}
use Rattle.std.proofs.Common.{arith, not-suc-le-zero, le_of_suc-le-suc, sym, ap₂}

-- each number is above those before it
abbrev pub Rising : List ℕ → Type 0
Rising l = (j i : ℕ) → j < i → i < length l → get_or l j 0 < get_or l i 0

-- k stands at some place
abbrev pub Contains : List ℕ → ℕ → Type 0
Contains l k = (i : ℕ) × (i < length l) × (get_or l i 0 ≡ k)

-- every number of a is in b
abbrev pub ContainsAll : List ℕ → List ℕ → Type 0
ContainsAll a b = (i : ℕ) → i < length a → Contains b (get_or a i 0)

rising_tail : (x : ℕ) (a : List ℕ) → Rising (x ∷ a) → Rising a
rising_tail x a R j i l h = R (suc j) (suc i) (omega arith) (omega arith)

rising_least : (x : ℕ) (a : List ℕ) (k : ℕ) → Rising (x ∷ a) → Contains (x ∷ a) k → x ≤ k
rising_least x a k R (zero, l, e) = omega arith
rising_least x a k R (suc i, l, e) = let z : x < get_or a i 0 = R 0 (suc i) (omega arith) l in omega arith

later : (x : ℕ) (a : List ℕ) (k : ℕ) → x < k → Contains (x ∷ a) k → Contains a k
later x a k h (zero, l, e) = absurd (omega arith)
later x a k h (suc i, l, e) = (i, le_of_suc-le-suc l, e)

within_tail : (x y : ℕ) (a b : List ℕ) → x ≡ y → Rising (x ∷ a) → ContainsAll (x ∷ a) (y ∷ b) → ContainsAll a b
within_tail x y a b q R W i l =
    let z : x < get_or a i 0 = R 0 (suc i) (omega arith) (omega arith) in
    later y b (get_or a i 0) (omega arith) (W (suc i) (omega arith))

pub rising_same : (a b : List ℕ) → Rising a → Rising b → ContainsAll a b → ContainsAll b a → a ≡ b
rising_same [] [] Ra Rb ab ba = refl
rising_same [] (y ∷ b) Ra Rb ab ba = absurd (not-suc-le-zero (ba 0 (omega arith)).1)
rising_same (x ∷ a) [] Ra Rb ab ba = absurd (not-suc-le-zero (ab 0 (omega arith)).1)
rising_same (x ∷ a) (y ∷ b) Ra Rb ab ba =
    let u : y ≤ x = rising_least y b x Rb (ab 0 (omega arith)) in
    let v : x ≤ y = rising_least x a y Ra (ba 0 (omega arith)) in
    let q : x ≡ y = omega arith in
    ap₂ ◌∷◌ q (rising_same a b (rising_tail x a Ra) (rising_tail y b Rb) (within_tail x y a b q Ra ab) (within_tail y x b a (sym q) Rb ba))
