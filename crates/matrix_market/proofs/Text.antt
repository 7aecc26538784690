-- Laws of specs/Text.antt.
use Rattle.std.specs.Prelude.{ℕ, ◌+◌, ◌-◌, ◌*◌, ◌≡◌, Bool, cond, not, ◌&&◌, eqb}
use Rattle.std.proofs.Math.Path.{refl, ap}
use Rattle.std.proofs.Common.{sym, ap₂, ◌∙◌, eqb-true}
use Rattle.std.proofs.Math.Bool.{true, false}
use Rattle.std.proofs.lemmas.Bool.{false≢true}
use mathlib.Core.List.{List, [], ◌∷◌, ◌++◌}
use Rattle.lists.specs.Every.{every}
use Rattle.lists.specs.Test.{and_left, and_right, and_both}
use Rattle.matrix_market.specs.Text.{on_first, split, line_end, lines, empty, nonempty, is_blank, fields, numeral, joined, solid, filled_one}

module _ (ends : ℕ → Bool) where
  on_first_solid : (b : ℕ) (ls : List (List ℕ)) → ends b ≡ false → every (solid ends) ls ≡ true → every (solid ends) (on_first b ls) ≡ true
  unfolding on_first every
  on_first_solid b [] h p = rw h
  on_first_solid b (l ∷ ls) h p = rw h p

  split-of : (e : Bool) (b : ℕ) (t : List ℕ) → ends b ≡ e → every (solid ends) (split ends t) ≡ true
      → every (solid ends) (cond e ([] ∷ split ends t) (on_first b (split ends t))) ≡ true
  unfolding every
  split-of true b t d p = p
  split-of false b t d p = on_first_solid b (split ends t) d p

  -- no part holds an end
  pub split-solid : (t : List ℕ) → every (solid ends) (split ends t) ≡ true
  unfolding split every
  split-solid [] = refl
  split-solid (b ∷ t) = split-of (ends b) b t refl (split-solid t)

  module _ (e : ℕ) (is-end : ends e ≡ true) where
    part_of : (x : Bool) (b : ℕ) (l r : List ℕ) → ends b ≡ x → (not x && solid ends l) ≡ true
        → (solid ends l ≡ true → split ends (l ++ (e ∷ r)) ≡ l ∷ split ends r)
        → cond x ([] ∷ split ends (l ++ (e ∷ r))) (on_first b (split ends (l ++ (e ∷ r)))) ≡ (b ∷ l) ∷ split ends r
    unfolding on_first
    part_of true b l r d p h = absurd (false≢true p)
    part_of false b l r d p h = ap (on_first b) (h p)

    pub part_first : (l r : List ℕ) → solid ends l ≡ true → split ends (l ++ (e ∷ r)) ≡ l ∷ split ends r
    unfolding split every
    part_first [] r p = rw is-end
    part_first (b ∷ l) r p = part_of (ends b) b l r refl p (part_first l r)

    -- parts without an end in them, each with its end: split they are the same parts
    pub split-joined : (ls : List (List ℕ)) → every (solid ends) ls ≡ true → split ends (joined e ls) ≡ ls
    unfolding split joined every
    split-joined [] p = refl
    split-joined (l ∷ ls) p =
        part_first l (joined e ls) (and_left (solid ends l) _ p) ∙ ap (λ (r : List (List ℕ)). l ∷ r) (split-joined ls (and_right (solid ends l) _ p))

    -- a last end changes nothing where the last byte is none
    last_of : (x : Bool) (b : ℕ) (s t : List (List ℕ)) → s ≡ t → cond x ([] ∷ s) (on_first b s) ≡ cond x ([] ∷ t) (on_first b t)
    last_of x b s t h = ap (λ (r : List (List ℕ)). cond x ([] ∷ r) (on_first b r)) h

    pub split_last : (t : List ℕ) (b : ℕ) → ends b ≡ false → split ends (t ++ (b ∷ (e ∷ []))) ≡ split ends (t ++ (b ∷ []))
    unfolding split on_first
    split_last [] b h = rw (h, is-end)
    split_last (c ∷ t) b h = last_of (ends c) c _ _ (split_last t b h)

-- ---- laws of lines
some_part : (ends : ℕ → Bool) (e : ℕ) (t : List ℕ) → empty (split ends (t ++ (e ∷ []))) ≡ false
unfolding split on_first
some_part ends e [] = of (ends e)
  where
    of : (x : Bool) → empty (cond x ([] ∷ split ends []) (on_first e (split ends []))) ≡ false
    of true = refl
    of false = refl
some_part ends e (b ∷ t) = of (ends b) (split ends (t ++ (e ∷ [])))
  where
    of : (x : Bool) (s : List (List ℕ)) → empty (cond x ([] ∷ s) (on_first b s)) ≡ false
    of true s = refl
    of false [] = refl
    of false (l ∷ ls) = refl

joined_first : (e b : ℕ) (ls : List (List ℕ)) → empty ls ≡ false → joined e (on_first b ls) ≡ b ∷ joined e ls
unfolding on_first joined
joined_first e b [] h = absurd (false≢true (sym h))
joined_first e b (l ∷ ls) h = refl

joined_of : (x : Bool) (b : ℕ) (s : List (List ℕ)) (t : List ℕ) → eqb b 10 ≡ x → empty s ≡ false → joined 10 s ≡ t
    → joined 10 (cond x ([] ∷ s) (on_first b s)) ≡ b ∷ t
unfolding joined
joined_of true b s t d n h = ap₂ ◌∷◌ (sym (eqb-true b 10 d)) h
joined_of false b s t d n h = joined_first 10 b s n ∙ ap (λ (l : List ℕ). b ∷ l) h

-- a text whose last byte is a line end is its lines, each with its end
pub lines_joined : (t : List ℕ) → joined 10 (lines (t ++ (10 ∷ []))) ≡ t ++ (10 ∷ [])
unfolding split joined
lines_joined [] = refl
lines_joined (b ∷ t) = joined_of (eqb b 10) b _ _ refl (some_part line_end 10 t) (lines_joined t)

-- lines put together are read back
pub lines_read : (ls : List (List ℕ)) → every (solid line_end) ls ≡ true → lines (joined 10 ls) ≡ ls
lines_read = split-joined line_end 10 refl

nonempty-every : (test : List ℕ → Bool) (ls : List (List ℕ)) → every test ls ≡ true → every test (nonempty ls) ≡ true
unfolding nonempty every
nonempty-every test [] h = refl
nonempty-every test ([] ∷ ls) h = nonempty-every test ls (and_right (test []) _ h)
nonempty-every test ((b ∷ l) ∷ ls) h = and_both (test (b ∷ l)) _ (and_left (test (b ∷ l)) _ h) (nonempty-every test ls (and_right (test (b ∷ l)) _ h))

-- no field holds a blank, and none is empty
pub fields-solid : (line : List ℕ) → every (solid is_blank) (fields line) ≡ true
fields-solid line = nonempty-every (solid is_blank) (split is_blank line) (split-solid is_blank line)

pub fields-filled : (line : List ℕ) → every filled_one (fields line) ≡ true
unfolding nonempty every
fields-filled line = all (split is_blank line)
  where
    all : (ls : List (List ℕ)) → every filled_one (nonempty ls) ≡ true
    all [] = refl
    all ([] ∷ ls) = all ls
    all ((b ∷ l) ∷ ls) = all ls

pub nonempty_same : {A : Type 0} (ls : List (List A)) → every filled_one ls ≡ true → nonempty ls ≡ ls
unfolding nonempty every
nonempty_same [] h = refl
nonempty_same ([] ∷ ls) h = absurd (false≢true h)
nonempty_same {A} ((b ∷ l) ∷ ls) h = ap (λ (r : List (List A)). (b ∷ l) ∷ r) (nonempty_same ls h)

-- fields put together with a space behind each are read back
pub fields_read : (fs : List (List ℕ)) → every (solid is_blank) fs ≡ true → every filled_one fs ≡ true → fields (joined 32 fs) ≡ fs
unfolding is_blank
fields_read fs p q = ap nonempty (split-joined is_blank 32 refl fs p) ∙ nonempty_same fs q

-- so a line and its fields with single spaces say the same
pub fields-joined : (line : List ℕ) → fields (joined 32 (fields line)) ≡ fields line
fields-joined line = fields_read (fields line) (fields-solid line) (fields-filled line)

-- ---- laws of numbers
-- a digit more at the end: ten times the number, and the digit
pub numeral_last : (ds : List ℕ) (x d : ℕ) → numeral x (ds ++ (d ∷ [])) ≡ numeral x ds * 10 + (d - 48)
unfolding numeral
numeral_last [] x d = refl
numeral_last (c ∷ ds) x d = numeral_last ds (x * 10 + (c - 48)) d

-- leading zeros change nothing
pub numeral_zeros : (ds : List ℕ) → numeral 0 (48 ∷ ds) ≡ numeral 0 ds
unfolding numeral
numeral_zeros ds = refl
