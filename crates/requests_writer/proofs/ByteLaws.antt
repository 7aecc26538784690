-- Bytes written to a text, one after the other and part by part, and those of a file's lines.
-- Assumes nothing.
use Prim.Native.Nat.{ℕ, zero, suc, ◌+◌, ◌-◌, ◌/◌, ◌%◌, ◌≤◌, ◌<◌}
use native.Mathlib.Omega.{arith}
use native.Mathlib.Numerals.{add-one}
use mathlib.Core.Path.{◌≡◌, refl, sym, ap, ap₂, subst, ◌∙◌}
use mathlib.Core.Bool.{Bool}
use mathlib.Core.List.{List, [], ◌∷◌, ◌++◌, map, map-append, append_assoc, append-nil}
use lib.ListN.{length, get_or, take, drop, set, length-append, length-set}
use lib.Seq.{take-suc, take-add}
use Rattle.lists.specs.Select.{select, map_snoc}
use Rattle.lists.specs.Overwrite.{overwrite, splice, splice_none, splice_more, splice_before, splice_join, splice-length}
use Rattle.lists.specs.Cells.{cells, cells_none, cells_next}
use Rattle.refusal.specs.Bounds.{max_dimension}
use Rattle.pairs.specs.Pair.{max_pairs}
use Rattle.pairs.specs.ColumnOrder.{by_column, column_first, column_end, set_size}
use Rattle.matrix_market.specs.Text.{joined}
use Rattle.matrix_market.specs.File.{header}
use Rattle.matrix_market.specs.Decimal.{decimal}
use Rattle.matrix_market.proofs.Decimal.{decimal_one, decimal_more, decimal_some, decimal_most, decimal_short, decimal_longer}
use Rattle.matrix_market.specs.FileOf.{spaced, size_line, entry_line, file_of}
use Rattle.requests_writer.specs.Lines.{Wrote, entry_bytes, rows_bytes, columns_bytes, head_bytes, line_most, head_most}

-- no bytes yet
pub wrote_none : (place : ℕ) (text : List ℕ) → Wrote [] place text text place
wrote_none place text = record { text_is = sym (splice_none place text); next_is = omega arith }

-- and more behind them
pub wrote_more : {a b : List ℕ} {p q r : ℕ} {t t' t'' : List ℕ} → p ≤ length t → Wrote a p t t' q → Wrote b q t' t'' r → Wrote (a ++ b) p t t'' r
wrote_more {a} {b} {p} {q} {r} {t} {t'} h A B = record {
  text_is =
      B.text_is ∙ ap₂ (λ (k : ℕ) (l : List ℕ). splice k b l) A.next_is A.text_is ∙ splice_join p a b t h;
  next_is = omega (arith, A.next_is, B.next_is, length-append a b);
}

pub wrote_cong : {a b : List ℕ} {p q : ℕ} {t t' : List ℕ} → a ≡ b → Wrote a p t t' q → Wrote b p t t' q
wrote_cong {a} {b} {p} {q} {t} e A = record { text_is = A.text_is ∙ ap (λ (l : List ℕ). splice p l t) e; next_is = A.next_is ∙ ap (λ (l : List ℕ). p + length l) e }

pub wrote_length : {a : List ℕ} {p q : ℕ} {t t' : List ℕ} → p + length a ≤ length t → Wrote a p t t' q → length t' ≡ length t
wrote_length {a} {p} {q} {t} h A = ap length A.text_is ∙ splice-length p a t h

-- ---- laws
joined-append : (e : ℕ) (xs ys : List (List ℕ)) → joined e (xs ++ ys) ≡ joined e xs ++ joined e ys
unfolding joined
joined-append e [] ys = refl
joined-append e (x ∷ xs) ys = ap (λ (l : List ℕ). x ++ (e ∷ l)) (joined-append e xs ys) ∙ sym (append_assoc x (e ∷ joined e xs) (joined e ys))

joined_one : (e : ℕ) (x : List ℕ) → joined e (x ∷ []) ≡ x ++ (e ∷ [])
unfolding joined
joined_one e x = refl

-- an entry line, part by part
pub entry_parts : (c r : ℕ) → ((decimal (r + 1) ++ (32 ∷ [])) ++ decimal (c + 1)) ++ (10 ∷ []) ≡ entry_bytes c r
unfolding entry_bytes spaced
entry_parts c r = ap (λ (l : List ℕ). l ++ (10 ∷ [])) (append_assoc (decimal (r + 1)) (32 ∷ []) (decimal (c + 1)))

pub entry_length : (c r : ℕ) → length (entry_bytes c r) ≡ length (decimal (r + 1)) + (length (decimal (c + 1)) + 2)
entry_length c r =
    sym (ap length (entry_parts c r))
    ∙ omega (
      arith,
      length-append ((decimal (r + 1) ++ (32 ∷ [])) ++ decimal (c + 1)) (10 ∷ []),
      length-append (decimal (r + 1) ++ (32 ∷ [])) (decimal (c + 1)),
      length-append (decimal (r + 1)) (32 ∷ []),
    )

pub entry_most : (c r : ℕ) → c < max_dimension → r < max_dimension → length (entry_bytes c r) ≤ line_most
entry_most c r h l = omega (arith, entry_length c r, decimal_most (r + 1), decimal_most (c + 1))

module _ (c : ℕ) where
  pub rows_none : (rows : List ℕ) → rows_bytes c (take 0 rows) ≡ []
  unfolding rows_bytes joined
  rows_none rows = refl

  -- a row more
  pub rows_next : (rows : List ℕ) (k : ℕ) → k < length rows → rows_bytes c (take (k + 1) rows) ≡ rows_bytes c (take k rows) ++ entry_bytes c (get_or rows k 0)
  unfolding rows_bytes entry_bytes
  rows_next rows k h =
      ap (λ (l : List ℕ). joined 10 (map (entry_line c) l)) (ap (λ (i : ℕ). take i rows) (add-one k) ∙ take-suc rows k 0 h)
      ∙ ap (joined 10) (map_snoc (entry_line c) (take k rows) (get_or rows k 0))
      ∙ joined-append 10 (map (entry_line c) (take k rows)) (entry_line c (get_or rows k 0) ∷ [])
      ∙ ap (λ (l : List ℕ). joined 10 (map (entry_line c) (take k rows)) ++ l) (joined_one 10 (entry_line c (get_or rows k 0)))

module _ (n : ℕ) (S : ℕ → ℕ → Bool) where
  pub columns_none : columns_bytes n S 0 ≡ []
  unfolding columns_bytes joined
  columns_none = ap (joined 10) (cells_none (by_column S) column_first (column_end n) entry_line)

  -- a column more
  pub columns_next : (c : ℕ) → columns_bytes n S (c + 1) ≡ columns_bytes n S c ++ rows_bytes c (select (by_column S c) c n)
  unfolding columns_bytes rows_bytes
  columns_next c =
      ap (joined 10) (cells_next (by_column S) column_first (column_end n) entry_line c)
      ∙ joined-append 10 (cells (by_column S) column_first (column_end n) entry_line c) _

  -- the file is its first two lines and the others
  pub file_parts : head_bytes n (set_size n S) ++ columns_bytes n S n ≡ file_of n S
  unfolding head_bytes columns_bytes file_of
  file_parts = sym (joined-append 10 (header ∷ (size_line n (set_size n S) ∷ [])) (cells (by_column S) column_first (column_end n) entry_line n))

-- the first two lines, part by part
pub head_parts : (n count : ℕ) → (((((((header ++ (10 ∷ [])) ++ decimal n) ++ (32 ∷ [])) ++ decimal n) ++ (32 ∷ [])) ++ decimal count) ++ (10 ∷ [])) ≡ head_bytes n count
unfolding head_bytes joined spaced
head_parts n count = simp append_assoc

pub head-length : (n count : ℕ) → length (head_bytes n count) ≡ 54 + length (decimal n) + length (decimal n) + length (decimal count)
head-length n count =
    let a = header ++ (10 ∷ []) in
    let b = (a ++ decimal n) ++ (32 ∷ []) in
    let d = (b ++ decimal n) ++ (32 ∷ []) in
    sym (ap length (head_parts n count))
    ∙ omega (
      arith,
      length-append (d ++ decimal count) (10 ∷ []),
      length-append d (decimal count),
      length-append (b ++ decimal n) (32 ∷ []),
      length-append b (decimal n),
      length-append (a ++ decimal n) (32 ∷ []),
      length-append a (decimal n),
    )

head_most_lem : (n count : ℕ) → n ≤ max_dimension → count ≤ max_pairs → length (head_bytes n count) ≤ head_most
head_most_lem n count h l = omega (arith, head-length n count, decimal_most n, decimal_most count)

-- ---- byte by byte
-- one byte
pub wrote_byte : (b place : ℕ) (text : List ℕ) → place < length text → Wrote (b ∷ []) place text (set text place b) (place + 1)
wrote_byte b place text h =
    let z : place + length {A = ℕ} [] ≡ place = omega arith in
    record {
      text_is =
          ap₂ (λ (l : List ℕ) (k : ℕ). set l k b) (sym (splice_none place text)) (sym z) ∙ splice_more place [] text b (omega arith);
      next_is = refl;
    }

-- bytes copied over as many
pub wrote_copied : (bytes copied : List ℕ) (place k : ℕ) (text : List ℕ) → copied ≡ bytes → k ≡ length bytes
    → Wrote bytes place text (take place text ++ (copied ++ drop k (drop place text))) (place + length bytes)
unfolding splice overwrite
wrote_copied bytes copied place k text e n =
    record { text_is = ap₂ (λ (l : List ℕ) (i : ℕ). take place text ++ (l ++ drop i (drop place text))) e n; next_is = refl }

-- the digits of x from the last on: those of y are still to be written, before the place i + 1
pub record LastDigits (x place : ℕ) (text₀ text : List ℕ) (i y : ℕ) : Type 0 where
  pub tail : List ℕ
  pub digits : decimal x ≡ decimal y ++ tail
  pub text_is : text ≡ splice (i + 1) tail text₀
  pub place_is : i + 1 ≡ place + length (decimal y)
  pub long : length text ≡ length text₀
  pub less : y ≤ x

module _ (x place : ℕ) (text₀ : List ℕ) (room : place + length (decimal x) ≤ length text₀) where
  pub digits_start : (i : ℕ) → i + 1 ≡ place + length (decimal x) → LastDigits x place text₀ text₀ i x
  digits_start i e = record { tail = []; digits = sym (append-nil (decimal x)); text_is = sym (splice_none (i + 1) text₀); place_is = e; long = refl; less = omega arith }

  module _ (text : List ℕ) (i y : ℕ) (D : LastDigits x place text₀ text i y) where
    pub digits_inside : i < length text
    digits_inside =
        let n : length (decimal x) ≡ length (decimal y) + length D.tail = ap length D.digits ∙ length-append (decimal y) D.tail in
        omega (arith, D.place_is, D.long)

    tail_room : i < length text₀
    tail_room = omega (arith, digits_inside, D.long)

    written : (d : ℕ) → set text i d ≡ splice i (d ∷ D.tail) text₀
    written d =
        ap (λ (l : List ℕ). set l i d) (D.text_is ∙ ap (λ (k : ℕ). splice k D.tail text₀) (add-one i))
        ∙ splice_before i D.tail text₀ d tail_room

    -- one digit more
    pub digits_more : 10 ≤ y → LastDigits x place text₀ (set text i (48 + y % 10)) (i - 1) (y / 10)
    digits_more h =
        let s = decimal_some (y / 10) in
        let e : i - 1 + 1 ≡ i = omega (arith, D.place_is, decimal_longer y h, s) in
        record {
          tail = (48 + y % 10) ∷ D.tail;
          digits = D.digits ∙ ap (λ (l : List ℕ). l ++ D.tail) (decimal_more y h) ∙ append_assoc (decimal (y / 10)) ((48 + y % 10) ∷ []) D.tail;
          text_is = written (48 + y % 10) ∙ ap (λ (k : ℕ). splice k ((48 + y % 10) ∷ D.tail) text₀) (sym e);
          place_is = omega (arith, D.place_is, decimal_longer y h, s);
          long = length-set text i _ ∙ D.long;
          less = omega (arith, D.less);
        }

    -- the first digit
    pub digits_end_lem : y < 10 → (next : ℕ) → next ≡ place + length (decimal x) → Wrote (decimal x) place text₀ (set text i (48 + y)) next
    digits_end_lem h next e =
        let p : i ≡ place = omega (arith, D.place_is, decimal_short y h) in
        record {
          text_is =
              written (48 + y)
              ∙ ap₂ (λ (k : ℕ) (l : List ℕ). splice k l text₀) p (sym (D.digits ∙ ap (λ (l : List ℕ). l ++ D.tail) (decimal_one y h)));
          next_is = e;
        }

-- ---- part by part
-- of all bytes these are written, and those are left
pub record Writing (all : List ℕ) (place : ℕ) (text₀ text : List ℕ) (next : ℕ) (done rest : List ℕ) : Type 0 where
  pub parts : done ++ rest ≡ all
  pub wrote : Wrote done place text₀ text next
  pub room : place + length all ≤ length text₀

pub writing_start : {all rest : List ℕ} {place : ℕ} {text : List ℕ} → rest ≡ all → place + length all ≤ length text → Writing all place text text place [] rest
writing_start {all} {rest} {place} {text} e h = record { parts = e; wrote = wrote_none place text; room = h }

module _ {all : List ℕ} {place : ℕ} {text₀ text : List ℕ} {next : ℕ} {done : List ℕ} (x rest : List ℕ) (W : Writing all place text₀ text next done (x ++ rest)) where
  sizes : length all ≡ length done + (length x + length rest)
  sizes = sym (ap length W.parts) ∙ length-append done (x ++ rest) ∙ ap (λ (k : ℕ). length done + k) (length-append x rest)

  -- there is room for the next part
  pub writing_room : next + length x ≤ length text
  writing_room =
      let l : length text ≡ length text₀ = wrote_length (omega (arith, sizes, W.room)) W.wrote in
      omega (arith, sizes, W.room, W.wrote.next_is)

  pub writing_more : {text' : List ℕ} {next' : ℕ} → Wrote x next text text' next' → Writing all place text₀ text' next' (done ++ x) rest
  writing_more X = record {
    parts = append_assoc done x rest ∙ W.parts;
    wrote = wrote_more (omega (arith, sizes, W.room)) W.wrote X;
    room = W.room;
  }

module _ {all : List ℕ} {place : ℕ} {text₀ text : List ℕ} {next : ℕ} {done : List ℕ} (W : Writing all place text₀ text next done []) where
  pub writing_end : Wrote all place text₀ text next
  writing_end = wrote_cong (sym (append-nil done) ∙ W.parts) W.wrote

  pub writing_long : length text ≡ length text₀
  writing_long = wrote_length W.room writing_end

pub entry_split : (c r : ℕ) → decimal (r + 1) ++ ((32 ∷ []) ++ (decimal (c + 1) ++ ((10 ∷ []) ++ []))) ≡ entry_bytes c r
unfolding entry_bytes spaced
entry_split c r = sym (append_assoc (decimal (r + 1)) (32 ∷ decimal (c + 1)) (10 ∷ []))

pub head-split : (n count : ℕ) → header ++ ((10 ∷ []) ++ (decimal n ++ ((32 ∷ []) ++ (decimal n ++ ((32 ∷ []) ++ (decimal count ++ ((10 ∷ []) ++ []))))))) ≡ head_bytes n count
unfolding head_bytes joined spaced
head-split n count = simp append_assoc

-- ---- a part of the lines has at most as many bytes
rows_part : (c : ℕ) (rows : List ℕ) (k j : ℕ) → rows_bytes c (take (k + j) rows) ≡ rows_bytes c (take k rows) ++ rows_bytes c (take j (drop k rows))
unfolding rows_bytes
rows_part c rows k j =
    ap (λ (l : List ℕ). joined 10 (map (entry_line c) l)) (take-add k j rows) ∙ ap (joined 10) (map-append (entry_line c) (take k rows) (take j (drop k rows)))
    ∙ joined-append 10 (map (entry_line c) (take k rows)) (map (entry_line c) (take j (drop k rows)))

pub rows_mono : (c : ℕ) (rows : List ℕ) (k count : ℕ) → k ≤ count → length (rows_bytes c (take k rows)) ≤ length (rows_bytes c (take count rows))
rows_mono c rows k count h =
    let q : k + (count - k) ≡ count = omega arith in
    let e = ap length (ap (λ (i : ℕ). rows_bytes c (take i rows)) (sym q) ∙ rows_part c rows k (count - k)) in
    omega (arith, e, length-append (rows_bytes c (take k rows)) (rows_bytes c (take (count - k) (drop k rows))))

pub columns_mono : (n : ℕ) (S : ℕ → ℕ → Bool) (c e : ℕ) → c ≤ e → length (columns_bytes n S c) ≤ length (columns_bytes n S e)
columns_mono n S c e h = let q : c + (e - c) ≡ e = omega arith in subst (λ (k : ℕ). length (columns_bytes n S c) ≤ length (columns_bytes n S k)) q (up (e - c))
  where
    up : (m : ℕ) → length (columns_bytes n S c) ≤ length (columns_bytes n S (c + m))
    up zero = let z : c ≡ c + 0 = omega arith in subst (λ (k : ℕ). length (columns_bytes n S c) ≤ length (columns_bytes n S k)) z (omega arith)
    up (suc m) =
        let q : c + m + 1 ≡ c + suc m = omega arith in
        omega (arith, up m, ap length (sym (ap (columns_bytes n S) q) ∙ columns_next n S (c + m)), length-append (columns_bytes n S (c + m)) (rows_bytes (c + m) (select (by_column S (c + m)) (c + m) n)))
