-- A list whose first places are written anew, and the rest as it was.
-- Assumes nothing.
use Prim.Native.Nat.{ℕ, zero, suc, ◌+◌, ◌-◌, ◌≤◌, ◌<◌}
use native.Mathlib.Omega.{arith}
use Rattle.std.proofs.Common.{zero-add, suc-add, ◌∙◌, drop-cons, length-take-le, ext_get_or}
use Rattle.std.proofs.Math.Numerals.{add-one}
use Rattle.std.specs.Prelude.{◌≡◌}
use Rattle.std.proofs.Math.Path.{refl, sym, ap, ap₂, subst}
use mathlib.Core.List.{List, [], ◌∷◌, ◌++◌, append_assoc, append-nil}
use Rattle.std.proofs.Math.ListN.{length, get_or, take, drop, set, length-append, length-drop, take-append-drop, get_or-append}
use Rattle.lists.specs.Tabulate.{tabulate, tabulate_none, tabulate_next, tabulate-length, tabulate_at}
use Rattle.std.proofs.Math.Seq.{drop-length, append_snoc, drop-drop, take-append_seam, drop-append_seam, set-append_seam, get_or-append-add, get_or-drop}

module _ {A : Type 0} where
  -- lists of one length that agree from the place t on
  pub drop_same : (none : A) (t : ℕ) (l l' : List A) → length l ≡ length l' → ((i : ℕ) → t ≤ i → get_or l i none ≡ get_or l' i none) → drop t l ≡ drop t l'
  drop_same none t l l' long same =
      ext_get_or none (drop t l) (drop t l') (length-drop t l ∙ ap (λ (x : ℕ). x - t) long ∙ sym (length-drop t l'))
      (λ i _. get_or-drop t l i none ∙ same (t + i) (omega arith) ∙ sym (get_or-drop t l' i none))

  -- new, and behind it what old has there
  unfoldable pub overwrite : List A → List A → List A
  overwrite new old = new ++ drop (length new) old

  pub overwrite_none : (old : List A) → overwrite [] old ≡ old
  unfolding overwrite
  overwrite_none old = refl

  pub overwrite-length : (new old : List A) → length new ≤ length old → length (overwrite new old) ≡ length old
  unfolding overwrite
  overwrite-length new old h = length-append new _ ∙ ap (λ (k : ℕ). length new + k) (length-drop (length new) old) ∙ omega arith

  -- one more place
  pub overwrite_more : (new old : List A) (x : A) → length new < length old → set (overwrite new old) (length new) x ≡ overwrite (new ++ (x ∷ [])) old
  unfolding overwrite
  overwrite_more new old x h =
      let e : length (new ++ (x ∷ [])) ≡ suc (length new) = length-append new (x ∷ []) ∙ add-one (length new) in
      ap (λ (l : List A). set (new ++ l) (length new) x) (drop-cons old (length new) x h)
      ∙ set-append_seam new (get_or old (length new) x) (drop (suc (length new)) old) x
      ∙ sym (append_snoc new x (drop (suc (length new)) old))
      ∙ ap (λ (k : ℕ). new ++ (x ∷ []) ++ drop k old) (sym e)

  pub overwrite_front : (new old : List A) → take (length new) (overwrite new old) ≡ new
  unfolding overwrite
  overwrite_front new old = take-append_seam new _

  pub overwrite_back : (new old : List A) → drop (length new) (overwrite new old) ≡ drop (length new) old
  unfolding overwrite
  overwrite_back new old = drop-append_seam new _

  -- a place that was written, and one behind
  pub overwrite_at : (new old : List A) (i : ℕ) (d : A) → i < length new → get_or (overwrite new old) i d ≡ get_or new i d
  unfolding overwrite
  overwrite_at new old i d h = get_or-append new _ d i h

  pub overwrite_past : (new old : List A) (i : ℕ) (d : A) → length new ≤ i → get_or (overwrite new old) i d ≡ get_or old i d
  unfolding overwrite
  overwrite_past new old i d h =
      let q : length new + (i - length new) ≡ i = omega arith in
      ap (λ (k : ℕ). get_or (overwrite new old) k d) (sym q)
      ∙ get_or-append-add new _ (i - length new) d ∙ get_or-drop (length new) old (i - length new) d ∙ ap (λ (k : ℕ). get_or old k d) q

  -- new from the place a on
  unfoldable pub splice : ℕ → List A → List A → List A
  splice a new old = take a old ++ overwrite new (drop a old)

  pub splice_none : (a : ℕ) (old : List A) → splice a [] old ≡ old
  unfolding splice overwrite
  splice_none a old = take-append-drop a old

  -- a store past a known front
  set_past : (p q : List A) (n i : ℕ) (x : A) → length p ≡ n → set (p ++ q) (n + i) x ≡ p ++ set q i x
  set_past [] q n i x e = subst (λ (k : ℕ). set q (k + i) x ≡ set q i x) e (ap (λ (k : ℕ). set q k x) (zero-add i))
  set_past (y ∷ p) q n i x e =
      subst (λ (k : ℕ). set (y ∷ (p ++ q)) (k + i) x ≡ y ∷ (p ++ set q i x)) e
      (ap (λ (k : ℕ). set (y ∷ (p ++ q)) k x) (suc-add (length p) i) ∙ ap (λ (l : List A). y ∷ l) (set_past p q (length p) i x refl))

  pub splice_more : (a : ℕ) (new old : List A) (x : A) → a + length new < length old → set (splice a new old) (a + length new) x ≡ splice a (new ++ (x ∷ [])) old
  unfolding splice
  splice_more a new old x h =
      set_past (take a old) (overwrite new (drop a old)) a (length new) x (length-take-le a old (omega arith))
      ∙ ap (λ (l : List A). take a old ++ l) (overwrite_more new (drop a old) x (simp length-drop (omega arith)))

  -- one more place, before the others
  pub splice_before : (a : ℕ) (new old : List A) (x : A) → a < length old → set (splice (suc a) new old) a x ≡ splice a (x ∷ new) old
  unfolding splice overwrite
  splice_before zero new [] x h = absurd (omega arith)
  splice_before zero new (y ∷ old) x h = refl
  splice_before (suc a) new [] x h = absurd (omega arith)
  splice_before (suc a) new (y ∷ old) x h = ap (λ (l : List A). y ∷ l) (splice_before a new old x (omega arith))

  -- from the first place on
  pub splice_first : (new old : List A) → splice 0 new old ≡ overwrite new old
  unfolding splice
  splice_first new old = refl

  pub splice-length : (a : ℕ) (new old : List A) → a + length new ≤ length old → length (splice a new old) ≡ length old
  unfolding splice
  splice-length a new old h =
      length-append (take a old) _
      ∙ ap₂ ◌+◌ (length-take-le a old (omega arith)) (overwrite-length new (drop a old) (simp length-drop (omega arith)) ∙ length-drop a old)
      ∙ omega arith

  -- past a front that was written before
  pub splice-overwrite : (xs ys old : List A) (a : ℕ) → length xs ≡ a → splice a ys (overwrite xs old) ≡ overwrite (xs ++ ys) old
  unfolding splice overwrite
  splice-overwrite xs ys old a e =
      subst (λ (k : ℕ). splice k ys (overwrite xs old) ≡ overwrite (xs ++ ys) old) e
      (ap₂ (λ (p q : List A). p ++ (ys ++ drop (length ys) q)) (overwrite_front xs old) (overwrite_back xs old)
      ∙ ap (λ (q : List A). xs ++ (ys ++ q)) (drop-drop (length ys) (length xs) old)
      ∙ sym (append_assoc xs ys _)
      ∙ ap (λ (k : ℕ). xs ++ ys ++ drop k old) (sym (length-append xs ys)))

  -- a splice is the front and the new places written over
  splice_front : (a : ℕ) (xs old : List A) → a ≤ length old → overwrite (take a old ++ xs) old ≡ splice a xs old
  unfolding splice overwrite
  splice_front a xs old h =
      let q : length (take a old ++ xs) ≡ a + length xs = length-append (take a old) xs ∙ ap (λ (k : ℕ). k + length xs) (length-take-le a old h) in
      ap (λ (k : ℕ). (take a old ++ xs) ++ drop k old) q ∙ append_assoc (take a old) xs _
      ∙ ap (λ (l : List A). take a old ++ (xs ++ l)) (sym (drop-drop (length xs) a old))

  -- one splice behind another
  pub splice_join : (a : ℕ) (xs ys old : List A) → a ≤ length old → splice (a + length xs) ys (splice a xs old) ≡ splice a (xs ++ ys) old
  splice_join a xs ys old h =
      ap (splice (a + length xs) ys) (sym (splice_front a xs old h))
      ∙ splice-overwrite (take a old ++ xs) ys old (a + length xs)
      (length-append (take a old) xs ∙ ap (λ (k : ℕ). k + length xs) (length-take-le a old h))
      ∙ ap (λ (l : List A). overwrite l old) (append_assoc (take a old) xs ys) ∙ splice_front a (xs ++ ys) old h

-- the places of a list written anew from the place a on
module _ {A : Type 0} (a : ℕ) (new old : List A) (room : a + length new ≤ length old) (none : A) where
  front : length (take a old) ≡ a
  front = length-take-le a old (omega arith)

  -- a place that was written, one behind, and all behind
  pub splice_at : (x : ℕ) → x < length new → get_or (splice a new old) (a + x) none ≡ get_or new x none
  unfolding splice
  splice_at x h =
      ap (λ (i : ℕ). get_or (splice a new old) (i + x) none) (sym front) ∙ get_or-append-add (take a old) (overwrite new (drop a old)) x none
      ∙ overwrite_at new (drop a old) x none h

  pub splice_past : (i : ℕ) → a + length new ≤ i → get_or (splice a new old) i none ≡ get_or old i none
  unfolding splice
  splice_past i h =
      let q : a + (i - a) ≡ i = omega arith in
      ap (λ (k : ℕ). get_or (splice a new old) k none) (sym (ap (λ (k : ℕ). k + (i - a)) front ∙ q))
      ∙ get_or-append-add (take a old) (overwrite new (drop a old)) (i - a) none
      ∙ overwrite_past new (drop a old) (i - a) none (omega arith) ∙ get_or-drop a old (i - a) none ∙ ap (λ (k : ℕ). get_or old k none) q

  pub splice_later : (t : ℕ) → a + length new ≤ t → drop t (splice a new old) ≡ drop t old
  splice_later t h = drop_same none t (splice a new old) old (splice-length a new old room) (λ i l. splice_past i (omega arith))

-- f 0, f 1, .., m of them, written over the front of a list
unfoldable pub filled : {A : Type 0} → (ℕ → A) → ℕ → List A → List A
filled f m old = overwrite (tabulate f m) old

-- the list with its first m words 0
abbrev pub cleared : ℕ → List ℕ → List ℕ
cleared = filled (λ _. 0)

module _ {A : Type 0} (f : ℕ → A) where
  pub filled_none : (old : List A) → old ≡ filled f 0 old
  unfolding filled
  filled_none old = sym (ap (λ (l : List A). overwrite l old) (tabulate_none f) ∙ overwrite_none old)

  pub filled_more : (old : List A) (i : ℕ) → i < length old → set (filled f i old) i (f i) ≡ filled f (i + 1) old
  unfolding filled
  filled_more old i h =
      ap (λ (k : ℕ). set (overwrite (tabulate f i) old) k (f i)) (sym (tabulate-length f i))
      ∙ overwrite_more (tabulate f i) old (f i) (rw tabulate-length h)
      ∙ ap (λ (l : List A). overwrite l old) (sym (tabulate_next f i))

  pub filled-length : (m : ℕ) (old : List A) → m ≤ length old → length (filled f m old) ≡ length old
  unfolding filled
  filled-length m old h = overwrite-length (tabulate f m) old (rw tabulate-length h)

  pub filled_at : (m : ℕ) (old : List A) (i : ℕ) (d : A) → i < m → get_or (filled f m old) i d ≡ f i
  unfolding filled
  filled_at m old i d h = overwrite_at (tabulate f m) old i d (rw tabulate-length h) ∙ tabulate_at f m i d h

  -- a list filled to its end is the table
  pub filled_all : (old : List A) → filled f (length old) old ≡ tabulate f (length old)
  unfolding filled overwrite
  filled_all old = ap (λ (k : ℕ). tabulate f (length old) ++ drop k old) (tabulate-length f (length old)) ∙ ap (λ (l : List A). tabulate f (length old) ++ l) (drop-length old) ∙ append-nil _

  pub filled_later : (m k : ℕ) (old : List A) → m ≤ k → drop k (filled f m old) ≡ drop k old
  unfolding filled
  filled_later m k old h =
      let new = tabulate f m in
      let q : length new + (k - m) ≡ k = ap (λ (i : ℕ). i + (k - m)) (tabulate-length f m) ∙ omega arith in
      ap (λ (i : ℕ). drop i (overwrite new old)) (sym q) ∙ sym (drop-drop (k - m) (length new) (overwrite new old))
      ∙ ap (drop (k - m)) (overwrite_back new old)
      ∙ drop-drop (k - m) (length new) old ∙ ap (λ (i : ℕ). drop i old) q
