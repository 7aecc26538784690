-- Listed numbers: none, those of another test, and those of a later end.
-- Assumes nothing.
use Prim.Native.Nat.{ℕ, ◌+◌, ◌≤◌, ◌<◌}
use native.Mathlib.Omega.{arith}
use native.Mathlib.Nat.{add-zero}
use mathlib.Core.Path.{◌≡◌, sym, ap, ap₂, ◌∙◌}
use mathlib.Core.Bool.{Bool, true, false}
use mathlib.Core.List.{List}
use lib.ListN.{length, set}
use Rattle.lists.specs.Sum.{bit}
use Rattle.lists.specs.Select.{select, tally, select_none, select_yes, select_join, select_gap, select_cong, tally_join, tally_none, tally_next, tally_mono}
use Rattle.lists.specs.Overwrite.{splice, splice_none, splice_more, splice_join}
use Rattle.set_bits.specs.Listed.{NumbersListed}

pub listed_none : (test : ℕ → Bool) (s first : ℕ) (list : List ℕ) → NumbersListed test s s first list list first
listed_none test s first list = record {
  count_is = sym (ap (λ (k : ℕ). first + k) (tally_none test s) ∙ add-zero first);
  list_is = sym (ap (λ (l : List ℕ). splice first l list) (select_none test s) ∙ splice_none first list);
}

-- tests that agree
pub listed_cong : {test test' : ℕ → Bool} {s e first : ℕ} {list₀ list : List ℕ} {count : ℕ} → ((k : ℕ) → s ≤ k → k < e → test k ≡ test' k)
    → NumbersListed test s e first list₀ list count → NumbersListed test' s e first list₀ list count
listed_cong {test} {test'} {s} {e} {first} {list₀} same L =
    let q = select_cong test test' s e same in
    record {
      count_is = L.count_is ∙ ap (λ (l : List ℕ). first + length l) q;
      list_is = L.list_is ∙ ap (λ (l : List ℕ). splice first l list₀) q;
    }

module _ {test : ℕ → Bool} {s m first : ℕ} {list₀ list : List ℕ} {count : ℕ} (h : s ≤ m) (L : NumbersListed test s m first list₀ list count) where
  -- numbers that do not pass
  pub listed_gap : (e : ℕ) → m ≤ e → ((k : ℕ) → m ≤ k → k < e → test k ≡ false) → NumbersListed test s e first list₀ list count
  listed_gap e l none =
      let q = sym (select_gap test s m e h l none) in
      record {
        count_is = L.count_is ∙ ap (λ (l : List ℕ). first + length l) q;
        list_is = L.list_is ∙ ap (λ (l : List ℕ). splice first l list₀) q;
      }

  -- a number that passes has room
  pub listed_room : {e : ℕ} → m < e → first + tally test s e ≤ length list₀ → test m ≡ true → count < length list₀
  listed_room {e} l fits t =
      omega (arith, L.count_is, tally_next test s m h ∙ ap (λ (b : Bool). tally test s m + bit b) t, tally_mono test s (m + 1) e (omega arith) (omega arith))

  -- and is listed
  pub listed_more : test m ≡ true → count < length list₀ → NumbersListed test s (m + 1) first list₀ (set list count m) (count + 1)
  listed_more t l = record {
    count_is = omega (arith, L.count_is, tally_next test s m h ∙ ap (λ (b : Bool). tally test s m + bit b) t);
    list_is =
        ap₂ (λ (x : List ℕ) (i : ℕ). set x i m) L.list_is L.count_is
        ∙ splice_more first (select test s m) list₀ m (omega (arith, L.count_is))
        ∙ ap (λ (x : List ℕ). splice first x list₀) (sym (select_yes test s m h t));
  }

  -- numbers behind those
  pub listed_join : {e : ℕ} {list' : List ℕ} {count' : ℕ} → m ≤ e → first ≤ length list₀ → NumbersListed test m e count list list' count'
      → NumbersListed test s e first list₀ list' count'
  listed_join {e} l room R = record {
    count_is = omega (arith, R.count_is, L.count_is, tally_join test s m e h l);
    list_is =
        R.list_is ∙ ap₂ (λ (i : ℕ) (x : List ℕ). splice i (select test m e) x) L.count_is L.list_is
        ∙ splice_join first (select test s m) (select test m e) list₀ room
        ∙ ap (λ (x : List ℕ). splice first x list₀) (sym (select_join test s m e h l));
  }
