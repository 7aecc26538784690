-- The last step of a column's sums, and its part put back.
-- Assumes nothing.
use Prim.Native.Nat.{ℕ, ◌+◌, ◌-◌, ◌≤◌, ◌<◌}
use native.Mathlib.Omega.{arith}
use native.Mathlib.Decide.{dec_le}
use mathlib.Core.Path.{◌≡◌, sym, ap, subst, ◌∙◌}
use mathlib.Core.List.{List, ◌++◌}
use lib.ListN.{length, get_or, take, drop, length-append, length-take, length-drop, get_or-append}
use lib.Seq.{get_or-append-add, get_or-take, get_or-drop, length-take-le}
use lib.Ieee.{Float, nan}
use Rattle.columns.specs.Columns.{row}
use Rattle.columns.specs.Factor.{FirstFrom}
use Rattle.closure_route.specs.Part.{PartSet}
use Rattle.closure_route.proofs.StoredLaws.{first_less}
use Rattle.closure_route.specs.Finish.{SumsFinished}

-- ---- the last step

-- it is taken at all places from the first row below j on
pub sums_finished : {j : ℕ} {step : Float → Float} {rows : List ℕ} {first last from : ℕ} {z₀ z : List Float} → FirstFrom (j + 1) rows first last from
    → PartSet from last (λ q. step (get_or z₀ q nan)) z₀ z → SumsFinished j step rows first last z₀ z
sums_finished {from = from} F D = record {
  long = D.long;
  below = λ q lo hi b. elim (dec_le from q) [ yes h ↦ D.holds q h hi | no h ↦ absurd (omega (arith, first_less F q lo (omega arith))) ];
  after = D.after;
}

-- ---- the part put back

-- the m entries from a on are those of new
abbrev pub put_back : List Float → ℕ → ℕ → List Float → List Float
put_back z a m new = take a z ++ (new ++ drop m (drop a z))

module _ (z new : List Float) (a m : ℕ) (fits : a + m ≤ length z) (size : length new ≡ m) where
  front : length (take a z) ≡ a
  front = length-take-le a z (omega arith)

  put_back_length : length (put_back z a m new) ≡ length z
  put_back_length = simp (length-append, length-take, length-drop, size) (omega arith)

  put_back_in : (q : ℕ) → q < m → get_or (put_back z a m new) (a + q) nan ≡ get_or new q nan
  put_back_in q h =
      ap (λ (k : ℕ). get_or (put_back z a m new) (k + q) nan) (sym front)
      ∙ get_or-append-add (take a z) (new ++ drop m (drop a z)) q nan ∙ get_or-append new _ nan q (omega arith)

  put_back_after : (x : ℕ) → get_or (put_back z a m new) (a + (m + x)) nan ≡ get_or z (a + (m + x)) nan
  put_back_after x =
      ap (λ (k : ℕ). get_or (put_back z a m new) (k + (m + x)) nan) (sym front)
      ∙ get_or-append-add (take a z) (new ++ drop m (drop a z)) (m + x) nan
      ∙ ap (λ (k : ℕ). get_or (new ++ drop m (drop a z)) (k + x) nan) (sym size)
      ∙ get_or-append-add new (drop m (drop a z)) x nan ∙ get_or-drop m (drop a z) x nan ∙ get_or-drop a z (m + x) nan

-- a finished part, put back
pub part-finished : (j : ℕ) (step : Float → Float) (rows : List ℕ) (first last : ℕ) (z part : List Float) → first ≤ last → last ≤ length z
    → SumsFinished j step (take (last - first) (drop first rows)) 0 (last - first) (take (last - first) (drop first z)) part
    → SumsFinished j step rows first last z (put_back z first (last - first) part)
part-finished j step rows first last z part h fits D = record {
  long = put_back_length z part first m room size;
  below = λ q lo hi b. here (q - first) q (omega arith) (omega arith) b;
  after = λ q lo.
      let e : first + (m + (q - last)) ≡ q = omega arith in
      subst (λ (x : ℕ). get_or (put_back z first m part) x nan ≡ get_or z x nan) e (put_back_after z part first m room size (q - last));
}
  where
    m : ℕ
    m = last - first

    room : first + m ≤ length z
    room = omega arith

    part_size : length (take m (drop first z)) ≡ m
    part_size = length-take-le m (drop first z) (simp length-drop (omega arith))

    size : length part ≡ m
    size = D.long ∙ part_size

    at : {A : Type 0} (l : List A) (x : ℕ) (o : A) → x < m → get_or (take m (drop first l)) x o ≡ get_or l (first + x) o
    at l x o b = get_or-take m (drop first l) x o b ∙ get_or-drop first l x o

    here : (x q : ℕ) → first + x ≡ q → x < m → j < row rows q → get_or (put_back z first m part) q nan ≡ step (get_or z q nan)
    here x q e b h =
        subst (λ (y : ℕ). j < row rows y → get_or (put_back z first m part) y nan ≡ step (get_or z y nan)) e
        (λ g. put_back_in z part first m room size x b ∙ D.below x (omega arith) b (omega (arith, at rows x 0 b)) ∙ ap step (at z x nan b)) h
