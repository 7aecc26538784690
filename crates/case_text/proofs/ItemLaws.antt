-- Laws of the items of a list: one more, and the reading step by step.
-- Assumes nothing.
use Prim.Native.Nat.{ℕ, ◌+◌, ◌<◌, min}
use native.Mathlib.Numerals.{add-one}
use mathlib.Core.Path.{◌≡◌, refl, ap, subst, ◌∙◌}
use mathlib.Core.List.{List}
use lib.ListN.{length, set}
use Rattle.lists.specs.Overwrite.{filled, filled_more}
use Rattle.case_text.specs.Text.{past_blanks, past_word, number_at}
use Rattle.case_text.specs.Items.{past_items, placed, Listing}

pub past_items_none : (text : List ℕ) (p : ℕ) → p ≡ past_items text p 0
unfolding past_items
past_items_none text p = refl

pub past_items_more : (text : List ℕ) (p k : ℕ) → past_word text (past_blanks text (past_items text p k)) ≡ past_items text p (k + 1)
unfolding past_items
past_items_more text p k = rw add-one

-- a step of the reading: from the place q after i items to the place `at` where the next one starts, and past it
module _ (text : List ℕ) (p i q at : ℕ) (e : q ≡ past_items text p i) (a : at ≡ past_blanks text q) where
  pub item-read : {A : Type 0} (here : List ℕ → ℕ → A) (x : A) → x ≡ here text at → x ≡ placed here text p i
  item-read here x r = r ∙ ap (here text) (a ∙ ap (past_blanks text) e)

  pub item-past : (next : ℕ) → next ≡ past_word text at → next ≡ past_items text p (i + 1)
  item-past next b = b ∙ ap (past_word text) (a ∙ ap (past_blanks text) e) ∙ past_items_more text p i

-- one more item put where those before it are
pub filled-step : {A : Type 0} (f : ℕ → A) (old now : List A) (i : ℕ) (x : A) → i < length old → x ≡ f i → now ≡ filled f i old → set now i x ≡ filled f (i + 1) old
filled-step f old now i x h e l = rw (e, l) (filled_more f old i h)

-- the reading, step by step
pub listing : {A : Type 0} (item : List ℕ → ℕ → ℕ → A) (text : List ℕ) (p : ℕ) (old : List A) (at items first count : ℕ) (new : List A) →
    at ≡ past_blanks text p → items ≡ number_at 10 text at → first ≡ past_word text at → count ≡ min items (length old) →
    new ≡ filled (item text first) count old → Listing item text p old count new
listing item text p old at items first count new a i b k w =
    record {
      counted = k ∙ ap (λ (x : ℕ). min x (length old)) (i ∙ ap (number_at 10 text) a);
      put = w ∙ ap (λ (q : ℕ). filled (item text q) count old) (b ∙ ap (past_word text) a);
    }

-- the reading at the same place
pub listing_at : {A : Type 0} (item : List ℕ → ℕ → ℕ → A) (text : List ℕ) (old : List A) (count : ℕ) (new : List A) {p q : ℕ} → p ≡ q →
    Listing item text p old count new → Listing item text q old count new
listing_at item text old count new = subst (λ (p : ℕ). Listing item text p old count new)
