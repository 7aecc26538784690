-- Laws of specs/File.antt.
use Rattle.std.specs.Prelude.{ℕ, ◌-◌, ◌≤◌, ◌<◌, ◌≡◌, refl, Bool, true, cond, List, [], ◌∷◌, map, eqb, length}
use Rattle.std.proofs.Common.{arith, not-suc-le-zero, sym, ap, ap₂, ◌∙◌, eqb-true, eq-eqb, ne_eqb}
use Rattle.std.proofs.lemmas.Bool.{false≢true}
use Rattle.std.proofs.lemmas.List.{length-map}
use Rattle.lists.specs.Tabulate.{tabulate-length}
use Rattle.lists.specs.Test.{and_left, and_right, and_both}
use Rattle.matrix_market.specs.File.{pair_of, diagonal_pair, every_diagonal, stand_for, same_bytes, request_count}

-- ---- laws
-- entries stand for their pairs: as many requests, repeats kept
pub stand_entries : (n : ℕ) (es : List (List (List ℕ))) → 0 < length es → stand_for n es ≡ map pair_of es
stand_entries n [] h = absurd (not-suc-le-zero h)
stand_entries n (e ∷ es) h = refl

-- no entries stand for every diagonal pair
pub stand_diagonals : (n : ℕ) (es : List (List (List ℕ))) → length es ≡ 0 → stand_for n es ≡ every_diagonal n
stand_diagonals n [] h = refl
stand_diagonals n (e ∷ es) h = absurd (omega arith)

pub requests_count : (n : ℕ) (es : List (List (List ℕ))) → length (stand_for n es) ≡ request_count n (length es)
requests_count n [] = tabulate-length diagonal_pair n
requests_count n (e ∷ es) =
    length-map (e ∷ es) pair_of ∙ sym (ap (λ (b : Bool). cond b n (length (e ∷ es))) (ne_eqb (length (e ∷ es)) 0 (λ q. omega (arith, q))))

pub requests_most : (n : ℕ) (es : List (List (List ℕ))) (most : ℕ) → n ≤ most → length es ≤ most → length (stand_for n es) ≤ most
requests_most n [] most h l = omega (arith, tabulate-length diagonal_pair n)
requests_most n (e ∷ es) most h l = omega (arith, length-map (e ∷ es) pair_of)

-- lists of bytes are the same exactly if they are equal
pub same_bytes_equal : (s t : List ℕ) → same_bytes s t ≡ true → s ≡ t
unfolding same_bytes
same_bytes_equal [] [] h = refl
same_bytes_equal [] (b ∷ t) h = absurd (false≢true h)
same_bytes_equal (a ∷ s) [] h = absurd (false≢true h)
same_bytes_equal (a ∷ s) (b ∷ t) h = ap₂ ◌∷◌ (eqb-true a b (and_left (eqb a b) (same_bytes s t) h)) (same_bytes_equal s t (and_right (eqb a b) (same_bytes s t) h))

pub same_bytes_itself : (s : List ℕ) → same_bytes s s ≡ true
unfolding same_bytes
same_bytes_itself [] = refl
same_bytes_itself (a ∷ s) = and_both _ _ (eq-eqb a a refl) (same_bytes_itself s)
