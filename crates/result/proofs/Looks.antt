-- Laws of specs/Looks.antt.
use Rattle.std.specs.Prelude.{ℕ, zero, suc, ◌+◌, ◌-◌, ◌*◌, ◌/◌, ◌^◌, ◌≤◌, ◌<◌, ◌≡◌, refl, Bool, true, false, cond, List, [], ◌∷◌, eqb, ltb, length, take, drop}
use Rattle.std.proofs.Common.{arith, pow-suc, ◌∙◌, length-drop, length-take-le, eq-eqb, ne_eqb, lt-ltb, le-ltb}
use Rattle.columns.specs.Columns.{row}
use Rattle.result.specs.Digits.{binary_digits}
use Rattle.result.proofs.Digits.{digits_below}
use Rattle.result.specs.Looks.{looks_in, looks}

-- once there are halves enough, more change nothing
looks_in_enough : (j k : ℕ) (part : List ℕ) (r : ℕ) → length part ≤ j → length part ≤ k → looks_in j part r ≡ looks_in k part r
unfolding looks_in
looks_in_enough zero zero part r h l = refl
looks_in_enough zero (suc k) [] r h l = refl
looks_in_enough zero (suc k) (x ∷ xs) r h l = absurd (omega arith)
looks_in_enough (suc j) zero [] r h l = refl
looks_in_enough (suc j) zero (x ∷ xs) r h l = absurd (omega arith)
looks_in_enough (suc j) (suc k) [] r h l = refl
looks_in_enough (suc j) (suc k) (x ∷ xs) r h l =
    let part = x ∷ xs in
    let mid = length part / 2 in
    let n : length (take mid part) ≡ mid = length-take-le mid part (omega arith) in
    let o : length (drop (mid + 1) part) ≡ length part - (mid + 1) = length-drop (mid + 1) part in
    let below : looks_in j (take mid part) r ≡ looks_in k (take mid part) r = looks_in_enough j k (take mid part) r (omega arith) (omega arith) in
    let above : looks_in j (drop (mid + 1) part) r ≡ looks_in k (drop (mid + 1) part) r = looks_in_enough j k (drop (mid + 1) part) r (omega arith) (omega arith) in
    rw (below, above) refl

-- no rows, no looks
pub looks_none : (part : List ℕ) (r : ℕ) → length part ≡ 0 → looks part r ≡ 0
unfolding looks_in
looks_none [] r h = refl
looks_none (x ∷ xs) r h = absurd (omega arith)

-- the looks at a part with rows, by those at its halves
pub looks-step : (part : List ℕ) (r : ℕ) → 0 < length part
    → looks part r
    ≡ cond (eqb (row part 0) r) 1
    (cond (eqb (row part (length part / 2)) r) 2
    (2 + cond (ltb r (row part (length part / 2))) (looks (take (length part / 2) part) r) (looks (drop (length part / 2 + 1) part) r)))
unfolding looks_in
looks-step [] r h = absurd (omega arith)
looks-step (x ∷ xs) r h =
    let part = x ∷ xs in
    let mid = length part / 2 in
    let k = length xs in
    let n : length (take mid part) ≡ mid = length-take-le mid part (omega arith) in
    let o : length (drop (mid + 1) part) ≡ length part - (mid + 1) = length-drop (mid + 1) part in
    let below : looks_in k (take mid part) r ≡ looks (take mid part) r = looks_in_enough k (length (take mid part)) (take mid part) r (omega arith) (omega arith) in
    let above : looks_in k (drop (mid + 1) part) r ≡ looks (drop (mid + 1) part) r = looks_in_enough k (length (drop (mid + 1) part)) (drop (mid + 1) part) r (omega arith) (omega arith) in
    rw (below, above) refl

module _ (part : List ℕ) (r : ℕ) (some : 0 < length part) where
  -- one look where the row stands first
  pub looks_first : row part 0 ≡ r → looks part r ≡ 1
  looks_first h = looks-step part r some ∙ rw (eq-eqb (row part 0) r h) refl

  module _ (n : row part 0 ≡ r → ⊥) where
    -- two where it stands in the middle
    pub looks-middle : row part (length part / 2) ≡ r → looks part r ≡ 2
    looks-middle h = looks-step part r some ∙ rw (ne_eqb (row part 0) r n, eq-eqb (row part (length part / 2)) r h) refl

    module _ (o : row part (length part / 2) ≡ r → ⊥) where
      -- else two more than in what lies below the middle
      pub looks_below : r < row part (length part / 2) → looks part r ≡ 2 + looks (take (length part / 2) part) r
      looks_below h =
          looks-step part r some
          ∙ rw (ne_eqb (row part 0) r n, ne_eqb (row part (length part / 2)) r o, lt-ltb r (row part (length part / 2)) h) refl

      -- or above it
      pub looks_above : row part (length part / 2) ≤ r → looks part r ≡ 2 + looks (drop (length part / 2 + 1) part) r
      looks_above h =
          looks-step part r some
          ∙ rw (ne_eqb (row part 0) r n, ne_eqb (row part (length part / 2)) r o, le-ltb r (row part (length part / 2)) h) refl

-- a part shorter than 2 ^ d takes at most 2 * d looks
looks_in_most : (k d : ℕ) (part : List ℕ) (r : ℕ) → length part < 2 ^ d → looks_in k part r ≤ 2 * d
unfolding looks_in
looks_in_most zero d part r h = omega arith
looks_in_most (suc k) d [] r h = omega arith
looks_in_most (suc k) zero (x ∷ xs) r h = absurd (omega arith)
looks_in_most (suc k) (suc d) (x ∷ xs) r h =
    let part = x ∷ xs in
    let mid = length part / 2 in
    let e : length (take mid part) ≡ mid = length-take-le mid part (omega arith) in
    let q : 2 ^ suc d ≡ 2 ^ d * 2 = pow-suc 2 d in
    let b : looks_in k (take mid part) r ≤ 2 * d = looks_in_most k d (take mid part) r (omega (arith, h)) in
    let a : looks_in k (drop (mid + 1) part) r ≤ 2 * d = looks_in_most k d (drop (mid + 1) part) r (omega (arith, h, length-drop (mid + 1) part)) in
    most (eqb x r) (eqb (row part mid) r) (ltb r (row part mid)) (looks_in k (take mid part) r) (looks_in k (drop (mid + 1) part) r) b a
  where
    most : (s t u : Bool) (below above : ℕ) → below ≤ 2 * d → above ≤ 2 * d → cond s 1 (cond t 2 (2 + cond u below above)) ≤ 2 * suc d
    most true t u below above b a = omega arith
    most false true u below above b a = omega arith
    most false false true below above b a = omega arith
    most false false false below above b a = omega arith

pub looks_bounded : (d : ℕ) (part : List ℕ) (r : ℕ) → length part < 2 ^ d → looks part r ≤ 2 * d
looks_bounded d part r h = looks_in_most (length part) d part r h

-- never more than twice the binary digits of the number of rows
pub looks_most : (part : List ℕ) (r : ℕ) → looks part r ≤ 2 * binary_digits (length part)
looks_most part r = looks_bounded (binary_digits (length part)) part r (digits_below (length part))
