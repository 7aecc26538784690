-- Laws of specs/FileRead.antt.
use Rattle.std.specs.Prelude.{ℕ, zero, suc, ◌+◌, ◌-◌, ◌≤◌, ◌<◌, min, max, ◌≡◌, Bool, ◌&&◌, leb, length, get_or}
use Rattle.std.proofs.Common.{arith, not-suc-le-zero, ◌∙◌}
use Rattle.std.proofs.Math.Path.{refl, sym, ap, ap₂}
use Rattle.std.proofs.Math.Bool.{true, false, cond, not, false≢true}
use mathlib.Core.List.{List, [], ◌∷◌, ◌++◌, map}
use Rattle.std.proofs.Math.Dec.{eqb, ltb}
use Rattle.std.proofs.lemmas.List.{length-map}
use borrow.Author.Tests.{leb-true, eq-eqb, ne_eqb, le-ltb, not-true}
use Rattle.lists.specs.Every.{every, some}
use Rattle.lists.specs.Test.{and_left, and_right, and_both, same_truth, not_so}
use Rattle.lists.specs.Select.{get_d_mapped}
use Rattle.lists.specs.Tabulate.{tabulate_none}
use Rattle.lists.specs.Cells.{cells}
use Rattle.refusal.specs.Bounds.{max_dimension, max_entries}
use Rattle.refusal.specs.Steps.{Passed}
use Rattle.refusal.proofs.Steps.{first_skip, clear_passed, passed_append}
use Rattle.pairs.specs.Pair.{ordered}
use Rattle.pairs.proofs.Pair.{ordered_is, is_ordered}
use Rattle.pairs.specs.ColumnOrder.{by_column, column_first, column_end, set_size}
use Rattle.pairs.proofs.ColumnOrder.{set_size-length}
use Rattle.closed_set.specs.ClosedSet.{Ranged}
use Rattle.closed_set.specs.Requests.{requested}
use Rattle.closed_set.proofs.Requests.{requested_found, requested_at}
use Rattle.matrix_market.specs.Text.{on_first, split, line_end, lines, empty, nonempty, is_blank, fields, is_digit, solid, filled_one}
use Rattle.matrix_market.proofs.Text.{part_first, lines_read, nonempty_same}
use Rattle.matrix_market.proofs.Members.{every_both, some_at, some_found, cells-every, cells-hit, cells_found, cells-map}
use Rattle.matrix_market.specs.Decimal.{decimal}
use Rattle.matrix_market.proofs.Decimal.{decimal_digits, decimal_some, numeral-decimal}
use Rattle.matrix_market.specs.File.{header, first_line, later_lines, comment, skipped, from_size, body, size_fields, line_entries, entries, are_numbers, number}
use Rattle.matrix_market.specs.File.{dimension_of, pair_of, diagonal_pair, stand_for, file_requests, request_rows, request_columns, file_answer, file_rows, file_columns}
use Rattle.matrix_market.specs.File.{same_bytes, outside_pair, outside_entry, malformed, file_size_steps, file_entry_steps, file_room_steps, file_steps}
use Rattle.matrix_market.proofs.File.{same_bytes_itself}
use Rattle.matrix_market.specs.FileOf.{spaced, number_line, size_line, entry_line, entry_lines, file_of}
use Rattle.matrix_market.specs.FileRead.{entry_fields, pair_list}

-- ---- fields with a space between them
module _ (ends : ℕ → Bool) where
  -- a part that is the whole text
  split_one : (b : ℕ) (l : List ℕ) → solid ends (b ∷ l) ≡ true → split ends (b ∷ l) ≡ (b ∷ l) ∷ []
  unfolding split on_first every
  split_one b [] p = let e : ends b ≡ false = no_end b _ p in rw e
    where
      no_end : (b : ℕ) (r : Bool) → (not (ends b) && r) ≡ true → ends b ≡ false
      no_end b r q = not-true (ends b) (and_left (not (ends b)) r q)
  split_one b (c ∷ l) p =
      let e : ends b ≡ false = not-true (ends b) (and_left (not (ends b)) _ p) in
      rw e (ap (on_first b) (split_one c l (and_right (not (ends b)) (solid ends (c ∷ l)) p)))

  -- digits are solid where no digit is an end
  digits_solid : ((b : ℕ) → is_digit b ≡ true → ends b ≡ false) → (l : List ℕ) → every is_digit l ≡ true → solid ends l ≡ true
  unfolding every
  digits_solid h [] p = refl
  digits_solid h (b ∷ l) p = and_both (not (ends b)) _ (ap not (h b (and_left (is_digit b) _ p))) (digits_solid h l (and_right (is_digit b) (every is_digit l) p))

  decimals_solid : ((b : ℕ) → is_digit b ≡ true → ends b ≡ false) → (ns : List ℕ) → every (solid ends) (map decimal ns) ≡ true
  unfolding every
  decimals_solid h [] = refl
  decimals_solid h (n ∷ ns) = and_both _ _ (digits_solid h (decimal n) (decimal_digits n)) (decimals_solid h ns)

  spaced-solid : ends 32 ≡ false → (fs : List (List ℕ)) → every (solid ends) fs ≡ true → solid ends (spaced fs) ≡ true
  unfolding spaced every
  spaced-solid e [] p = refl
  spaced-solid e (f ∷ []) p = and_left (solid ends f) _ p
  spaced-solid e (f ∷ (g ∷ fs)) p =
      every_both (λ b. not (ends b)) f (32 ∷ spaced (g ∷ fs)) (and_left (solid ends f) _ p)
      (and_both (not (ends 32)) _ (ap not e) (spaced-solid e (g ∷ fs) (and_right (solid ends f) (every (solid ends) (g ∷ fs)) p)))

filled_one_lem : (ends : ℕ → Bool) (l : List ℕ) → filled_one l ≡ true → solid ends l ≡ true → split ends l ≡ l ∷ []
filled_one_lem ends [] h p = absurd (false≢true h)
filled_one_lem ends (b ∷ l) h p = split_one ends b l p

space-blank : is_blank 32 ≡ true
unfolding is_blank
space-blank = refl

split-spaced : (fs : List (List ℕ)) → every (solid is_blank) fs ≡ true → every filled_one fs ≡ true → split is_blank (spaced fs) ≡ fs
unfolding spaced split every
split-spaced [] p q = refl
split-spaced (f ∷ []) p q = filled_one_lem is_blank f (and_left (filled_one f) _ q) (and_left (solid is_blank f) _ p)
split-spaced (f ∷ (g ∷ fs)) p q =
    part_first is_blank 32 space-blank f (spaced (g ∷ fs)) (and_left (solid is_blank f) _ p)
    ∙ ap (λ (r : List (List ℕ)). f ∷ r)
    (split-spaced (g ∷ fs) (and_right (solid is_blank f) (every (solid is_blank) (g ∷ fs)) p) (and_right (filled_one f) (every filled_one (g ∷ fs)) q))

-- ---- a line of numbers
digit_least : (b : ℕ) → is_digit b ≡ true → 48 ≤ b
unfolding is_digit
digit_least b h = leb-true 48 b (and_left (leb 48 b) (leb b 57) h)

digit_blank : (b : ℕ) → is_digit b ≡ true → is_blank b ≡ false
unfolding is_blank
digit_blank b h =
    let l = digit_least b h in
    let x : eqb b 32 ≡ false = ne_eqb b 32 (λ e. omega (arith, l, e)) in
    let y : eqb b 9 ≡ false = ne_eqb b 9 (λ e. omega (arith, l, e)) in
    rw (x, y)

digit_end : (b : ℕ) → is_digit b ≡ true → line_end b ≡ false
digit_end b h = let l = digit_least b h in ne_eqb b 10 (λ e. omega (arith, l, e))

some_filled : (l : List ℕ) → 0 < length l → filled_one l ≡ true
some_filled [] h = absurd (not-suc-le-zero h)
some_filled (b ∷ l) h = refl

decimals_filled : (ns : List ℕ) → every filled_one (map decimal ns) ≡ true
unfolding every
decimals_filled [] = refl
decimals_filled (n ∷ ns) = and_both _ _ (some_filled (decimal n) (decimal_some n)) (decimals_filled ns)

decimals_formed : (ns : List ℕ) → every (every is_digit) (map decimal ns) ≡ true
unfolding every
decimals_formed [] = refl
decimals_formed (n ∷ ns) = and_both _ _ (decimal_digits n) (decimals_formed ns)

-- its fields are the numbers
pub line_fields : (ns : List ℕ) → fields (number_line ns) ≡ map decimal ns
line_fields ns =
    ap nonempty (split-spaced (map decimal ns) (decimals_solid is_blank digit_blank ns) (decimals_filled ns)) ∙ nonempty_same (map decimal ns) (decimals_filled ns)

line_solid : (ns : List ℕ) → solid line_end (number_line ns) ≡ true
line_solid ns = spaced-solid line_end refl (map decimal ns) (decimals_solid line_end digit_end ns)

-- a digit first: no comment
digits_comment : (l r : List ℕ) → 0 < length l → every is_digit l ≡ true → comment (l ++ r) ≡ false
unfolding comment every
digits_comment [] r h p = absurd (not-suc-le-zero h)
digits_comment (b ∷ l) r h p = let k = digit_least b (and_left (is_digit b) _ p) in ne_eqb b 37 (λ e. omega (arith, k, e))

-- ---- the file's parts, as the reader takes them
header-solid : solid line_end header ≡ true
unfolding every
header-solid = refl

module _ (n : ℕ) (S : ℕ → ℕ → Bool) where
  abbrev count : ℕ
  count = set_size n S

  lines_are : lines (file_of n S) ≡ header ∷ (size_line n count ∷ entry_lines n S)
  unfolding file_of every
  lines_are =
      lines_read (header ∷ (size_line n count ∷ entry_lines n S))
      (and_both _ _ header-solid
      (and_both _ _ (line_solid (n ∷ (n ∷ (count ∷ []))))
      (cells-every [] (by_column S) column_first (column_end n) entry_line (solid line_end) n (λ c r _ _ _ _. line_solid ((r + 1) ∷ ((c + 1) ∷ []))))))

  pub header_is : first_line (lines (file_of n S)) ≡ header
  unfolding first_line
  header_is = ap first_line lines_are

  size_fields_lem : fields (size_line n count) ≡ map decimal (n ∷ (n ∷ (count ∷ [])))
  size_fields_lem = line_fields (n ∷ (n ∷ (count ∷ [])))

  size_kept : skipped (size_line n count) ≡ false
  unfolding spaced
  size_kept =
      let a : comment (size_line n count) ≡ false = digits_comment (decimal n) _ (decimal_some n) (decimal_digits n) in
      let b : empty (fields (size_line n count)) ≡ false = ap empty size_fields_lem in
      rw (a, b)

  body_is : body (file_of n S) ≡ size_line n count ∷ entry_lines n S
  unfolding body later_lines from_size
  body_is =
      ap (λ (ls : List (List ℕ)). from_size (later_lines ls)) lines_are
      ∙ ap (λ (b : Bool). cond b (from_size (entry_lines n S)) (size_line n count ∷ entry_lines n S)) size_kept

  pub size_fields_are : size_fields (file_of n S) ≡ map decimal (n ∷ (n ∷ (count ∷ [])))
  unfolding size_fields first_line
  size_fields_are = ap (λ (ls : List (List ℕ)). fields (first_line ls)) body_is ∙ size_fields_lem

  -- the entries' fields
  abbrev entry_list : List (List (List ℕ))
  entry_list = cells (by_column S) column_first (column_end n) entry_fields n

  pub entries_are : entries (file_of n S) ≡ entry_list
  unfolding entries later_lines every
  entries_are =
      ap (λ (ls : List (List ℕ)). line_entries (later_lines ls)) body_is
      ∙ ap nonempty (cells-map (by_column S) column_first (column_end n) fields entry_line entry_fields (λ c r. line_fields ((r + 1) ∷ ((c + 1) ∷ []))) n)
      ∙ nonempty_same entry_list (cells-every [] (by_column S) column_first (column_end n) entry_fields filled_one n (λ c r _ _ _ _. refl))

  pub dimension_is : dimension_of (file_of n S) ≡ n
  dimension_is = ap (number 0) size_fields_are ∙ numeral-decimal n

  other_is : number 1 (size_fields (file_of n S)) ≡ n
  other_is = ap (number 1) size_fields_are ∙ numeral-decimal n

  count_is : number 2 (size_fields (file_of n S)) ≡ count
  count_is = ap (number 2) size_fields_are ∙ numeral-decimal count

  entries_count : length (entries (file_of n S)) ≡ count
  entries_count = ap length entries_are ∙ set_size-length n S entry_fields

  -- each entry's pair
  entry_pairs : map pair_of entry_list ≡ pair_list n S
  entry_pairs =
      cells-map (by_column S) column_first (column_end n) pair_of entry_fields (λ c r. (r, c))
      (λ c r.
      let x : r + 1 - 1 ≡ r = omega arith in
      let y : c + 1 - 1 ≡ c = omega arith in
      ap₂ (λ (a b : ℕ). (a, b)) (ap (λ (k : ℕ). k - 1) (numeral-decimal (r + 1)) ∙ x) (ap (λ (k : ℕ). k - 1) (numeral-decimal (c + 1)) ∙ y)) n

-- no entries of no columns stand for no pairs
stand_pairs : (n : ℕ) (es : List (List (List ℕ))) → (0 < n → 0 < length es) → stand_for n es ≡ map pair_of es
stand_pairs zero [] h = tabulate_none diagonal_pair
stand_pairs (suc n) [] h = absurd (not-suc-le-zero (h (omega arith)))
stand_pairs n (e ∷ es) h = refl

-- ---- what is read of it: of a set within the bounds, empty only where there are no columns
module _ (n : ℕ) (S : ℕ → ℕ → Bool) (filled : 0 < n → 0 < set_size n S) where
  pub file_requests_lem : file_requests (file_of n S) ≡ pair_list n S
  file_requests_lem =
      ap₂ stand_for (dimension_is n S) (entries_are n S)
      ∙ stand_pairs n (entry_list n S) (λ h. omega (arith, filled h, entries_count n S, ap length (entries_are n S)))
      ∙ entry_pairs n S

  requests_count : length (file_requests (file_of n S)) ≡ set_size n S
  requests_count = ap length file_requests_lem ∙ set_size-length n S (λ c r. (r, c))

  pub file_answer_lem : file_answer (file_of n S) ≡ (n, set_size n S)
  file_answer_lem = ap₂ (λ (a b : ℕ). (a, b)) (dimension_is n S) requests_count

  -- the reader's lists say the set
  module _ (R : Ranged n S) (r c : ℕ) where
    abbrev pairs : List (ℕ × ℕ)
    pairs = pair_list n S

    abbrev rows : List ℕ
    rows = request_rows pairs

    abbrev columns : List ℕ
    columns = request_columns pairs

    abbrev test : ℕ × ℕ → Bool
    test p = ordered p.0 p.1 r c

    there : requested rows columns r c ≡ true → S r c ≡ true
    there e =
        let f = requested_found rows columns r c e in
        let l : f.0 < length pairs = omega (arith, f.1, length-map pairs (λ (p : ℕ × ℕ). p.0)) in
        let p = get_d_mapped (λ (p : ℕ × ℕ). p.0) pairs f.0 (0, 0) 0 l in
        let q = get_d_mapped (λ (p : ℕ × ℕ). p.1) pairs f.0 (0, 0) 0 l in
        let o : test (get_or pairs f.0 (0, 0)) ≡ true = is_ordered _ _ r c (f.2 ∙ ap₂ max p q) (f.3 ∙ ap₂ min p q) in
        let g = cells_found (0, 0) (by_column S) column_first (column_end n) (λ c r. (r, c)) test n (some_at (0, 0) test pairs f.0 l o) in
        let w = ordered_is g.1 g.0 r c g.6 in
        let x : g.1 ≡ r = omega (arith, w.0, g.3) in
        let y : g.0 ≡ c = omega (arith, w.1, g.3) in
        ap₂ S (sym x) (sym y) ∙ g.5

    back : S r c ≡ true → requested rows columns r c ≡ true
    back e =
        let h = R.ordered r c e in
        let k = R.inside r c e in
        let u = cells-hit (0, 0) (by_column S) column_first (column_end n) (λ c r. (r, c)) test n c r (omega arith) h k e (is_ordered r c r c (omega arith) (omega arith)) in
        let f = some_found (0, 0) test pairs u in
        let w = ordered_is (get_or pairs f.0 (0, 0)).0 (get_or pairs f.0 (0, 0)).1 r c f.2 in
        let p = get_d_mapped (λ (p : ℕ × ℕ). p.0) pairs f.0 (0, 0) 0 f.1 in
        let q = get_d_mapped (λ (p : ℕ × ℕ). p.1) pairs f.0 (0, 0) 0 f.1 in
        let l : f.0 < length rows = omega (arith, f.1, length-map pairs (λ (p : ℕ × ℕ). p.0)) in
        ap₂ (requested rows columns) (w.0 ∙ sym (ap₂ max p q)) (w.1 ∙ sym (ap₂ min p q)) ∙ requested_at rows columns f.0 l

    pub file_requested : requested (file_rows (file_of n S)) (file_columns (file_of n S)) r c ≡ S r c
    file_requested =
        ap (λ (l : List (ℕ × ℕ)). requested (request_rows l) (request_columns l) r c) file_requests_lem
        ∙ same_truth _ _ there back

  -- it is accepted, into lists that are long enough
  module _ (small : n ≤ max_dimension) (few : set_size n S ≤ max_entries) (rows columns : ℕ) (rows_room : set_size n S ≤ rows) (columns_room : set_size n S ≤ columns) where
    size_formed : are_numbers 3 (size_fields (file_of n S)) ≡ true
    unfolding are_numbers
    size_formed = ap (are_numbers 3) (size_fields_are n S) ∙ decimals_formed (n ∷ (n ∷ (set_size n S ∷ [])))

    size_passes : Passed (file_size_steps (size_fields (file_of n S)))
    unfolding file_size_steps
    size_passes =
        let a : number 0 (size_fields (file_of n S)) ≤ max_dimension = omega (arith, dimension_is n S) in
        let b : number 2 (size_fields (file_of n S)) ≤ max_entries = omega (arith, count_is n S) in
        clear_passed (file_size_steps (size_fields (file_of n S)))
        (ap not size_formed, (le-ltb _ _ a, (ap not (eq-eqb _ _ (dimension_is n S ∙ sym (other_is n S))), (le-ltb _ _ b, tt))))

    none_malformed : some malformed (entry_list n S) ≡ false
    unfolding are_numbers
    none_malformed =
        not_so _ (λ e.
        let g = cells_found [] (by_column S) column_first (column_end n) entry_fields malformed n e in
        false≢true (sym (ap not (decimals_formed ((g.1 + 1) ∷ ((g.0 + 1) ∷ [])))) ∙ g.6))

    inside : (c r : ℕ) → c ≤ r → r < n → outside_entry n (entry_fields c r) ≡ false
    unfolding outside_pair
    inside c r h l =
        let x : eqb (r + 1) 0 ≡ false = ne_eqb (r + 1) 0 (λ e. omega (arith, e)) in
        let y : eqb (c + 1) 0 ≡ false = ne_eqb (c + 1) 0 (λ e. omega (arith, e)) in
        let a : ltb n (r + 1) ≡ false = le-ltb n (r + 1) (omega arith) in
        let b : ltb n (c + 1) ≡ false = le-ltb n (c + 1) (omega arith) in
        let d : ltb (r + 1) (c + 1) ≡ false = le-ltb (r + 1) (c + 1) (omega arith) in
        ap₂ (outside_pair n) (numeral-decimal (r + 1)) (numeral-decimal (c + 1)) ∙ rw (x, a, y, b, d)

    none_outside : some (outside_entry n) (entry_list n S) ≡ false
    none_outside =
        not_so _ (λ e.
        let g = cells_found [] (by_column S) column_first (column_end n) entry_fields (outside_entry n) n e in
        false≢true (sym (inside g.0 g.1 g.3 g.4) ∙ g.6))

    entries_pass : Passed (file_entry_steps (dimension_of (file_of n S)) (number 2 (size_fields (file_of n S))) (entries (file_of n S)))
    unfolding file_entry_steps
    entries_pass =
        clear_passed (file_entry_steps (dimension_of (file_of n S)) (number 2 (size_fields (file_of n S))) (entries (file_of n S))) (
          ap (some malformed) (entries_are n S) ∙ none_malformed,
          (
            ap not (eq-eqb _ _ (entries_count n S ∙ sym (count_is n S))),
            (
              ap₂ (λ (k : ℕ) (es : List (List (List ℕ))). some (outside_entry k) es) (dimension_is n S) (entries_are n S) ∙ none_outside,
              tt,
            ),
          ),
        )

    room_passes : Passed (file_room_steps (length (file_requests (file_of n S))) rows columns)
    room_passes =
        let a : length (file_requests (file_of n S)) ≤ rows = omega (arith, requests_count) in
        let b : length (file_requests (file_of n S)) ≤ columns = omega (arith, requests_count) in
        clear_passed (file_room_steps (length (file_requests (file_of n S))) rows columns) (le-ltb _ _ a, (le-ltb _ _ b, tt))

    pub file_passes : Passed (file_steps (file_of n S) rows columns)
    unfolding file_steps
    file_passes =
        first_skip 15 _ tt (ap not (ap (λ (l : List ℕ). same_bytes l header) (header_is n S) ∙ same_bytes_itself header))
        (passed_append (file_size_steps (size_fields (file_of n S))) _ size_passes
        (passed_append (file_entry_steps (dimension_of (file_of n S)) (number 2 (size_fields (file_of n S))) (entries (file_of n S))) _ entries_pass room_passes))
