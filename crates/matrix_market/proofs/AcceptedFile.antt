-- Laws of specs/AcceptedFile.antt.
use Prim.Native.Nat.{ℕ, ◌≤◌, ◌<◌}
use Rattle.std.proofs.Common.{arith, ap, ◌∙◌}
use Rattle.std.specs.Prelude.{◌≡◌, true, false, List, [], ◌∷◌, ◌++◌, map, eqb, length, get_or}
use Rattle.std.proofs.Math.Path.{sym}
use Rattle.std.proofs.Math.ListN.{length-map}
use borrow.Author.Tests.{eqb-true, eqb-false, ltb-false, not-false}
use Rattle.lists.specs.Every.{some}
use Rattle.lists.specs.Test.{or_neither_left, or_neither_right}
use Rattle.lists.specs.Select.{get_d_mapped}
use Rattle.lists.specs.Tabulate.{tabulate-length, tabulate_at}
use Rattle.refusal.specs.Bounds.{max_dimension, max_entries}
use Rattle.refusal.specs.Steps.{Step, Passed, Clear}
use Rattle.refusal.proofs.Steps.{passed_clear, clear_passed, passed_front, passed_back}
use Rattle.matrix_market.specs.Text.{lines}
use Rattle.matrix_market.proofs.Members.{some_below}
use Rattle.matrix_market.specs.Examples.{told, sample}
use Rattle.matrix_market.proofs.Examples.{sample_passes}
use Rattle.matrix_market.specs.File.{header, first_line, size_fields, entries, number, dimension_of, pair_of, diagonal_pair, every_diagonal, stand_for, file_requests, file_rows, file_columns}
use Rattle.matrix_market.specs.File.{same_bytes, outside_index, outside_pair, outside_entry, request_rows, request_columns}
use Rattle.matrix_market.proofs.File.{same_bytes_equal, requests_most}
use Rattle.matrix_market.specs.File.{file_size_steps, file_entry_steps, file_room_steps, file_steps}
use Rattle.matrix_market.specs.AcceptedFile.{AcceptedFile, InsidePair, InsideRequest}

pub outside_pair_inside : (n row column : ℕ) → outside_pair n row column ≡ false → InsidePair n row column
unfolding outside_pair
outside_pair_inside n row column h =
    let r = or_neither_left (outside_index n row) _ h in
    let later = or_neither_right (outside_index n row) _ h in
    let c = or_neither_left (outside_index n column) _ later in
    let x = eqb-false row 0 (or_neither_left _ _ r) in
    let y = eqb-false column 0 (or_neither_left _ _ c) in
    record {
      row_least = omega arith;
      row_most = ltb-false n row (or_neither_right (eqb row 0) _ r);
      column_least = omega arith;
      column_most = ltb-false row column (or_neither_right (outside_index n column) _ later);
    }

module _ (n k : ℕ) where
  abbrev Inside : List (ℕ × ℕ) → Type 0
  Inside requests = InsideRequest n (request_rows requests) (request_columns requests) k

  -- a pair at a place of a list of requests
  request_inside : (requests : List (ℕ × ℕ)) (row column : ℕ) → k < length requests → get_or requests k (0, 0) ≡ (row, column) → row < n → column ≤ row → Inside requests
  request_inside requests row column l e h m =
      let r : get_or (request_rows requests) k 0 ≡ row = get_d_mapped (λ (p : ℕ × ℕ). p.0) requests k (0, 0) 0 l ∙ ap (λ (p : ℕ × ℕ). p.0) e in
      let c : get_or (request_columns requests) k 0 ≡ column = get_d_mapped (λ (p : ℕ × ℕ). p.1) requests k (0, 0) 0 l ∙ ap (λ (p : ℕ × ℕ). p.1) e in
      record { inside = omega (arith, r); below = omega (arith, r, c) }

  -- a diagonal pair
  diagonal_inside : k < length (every_diagonal n) → Inside (every_diagonal n)
  diagonal_inside l =
      let h : k < n = omega (arith, tabulate-length diagonal_pair n) in
      request_inside (every_diagonal n) k k l (tabulate_at diagonal_pair n k (0, 0) h) h (omega arith)

  -- the pair of an entry
  entry_inside : (es : List (List (List ℕ))) → some (outside_entry n) es ≡ false → k < length (map pair_of es) → Inside (map pair_of es)
  entry_inside es e l =
      let h : k < length es = omega (arith, length-map es pair_of) in
      let u = outside_pair_inside _ _ _ (some_below [] (outside_entry n) es k e h) in
      request_inside (map pair_of es) _ _ l (get_d_mapped pair_of es k [] (0, 0) h) (omega (arith, u.row_least, u.row_most)) (omega (arith, u.column_most))

  stands_inside : (es : List (List (List ℕ))) → some (outside_entry n) es ≡ false → k < length (stand_for n es) → Inside (stand_for n es)
  stands_inside [] e l = diagonal_inside l
  stands_inside (x ∷ es) e l = entry_inside (x ∷ es) e l

-- ---- the theorem
module _ (text : List ℕ) (rows columns : ℕ) (p : Passed (file_steps text rows columns)) where
  abbrev sizing : List Step
  sizing = file_size_steps (size_fields text)

  abbrev entering : List Step
  entering = file_entry_steps (dimension_of text) (number 2 (size_fields text)) (entries text)

  abbrev rooming : List Step
  rooming = file_room_steps (length (file_requests text)) rows columns

  -- step 15, then the others
  parted : (same_bytes (first_line (lines text)) header ≡ true) × Passed (sizing ++ (entering ++ rooming))
  unfolding file_steps
  parted =
      let c = passed_clear (file_steps text rows columns) p in
      (not-false _ c.0, clear_passed (sizing ++ (entering ++ rooming)) c.1)

  size_clear : Clear sizing
  size_clear = passed_clear sizing (passed_front sizing (entering ++ rooming) parted.1)

  entry_clear : Clear entering
  entry_clear = passed_clear entering (passed_front entering rooming (passed_back sizing (entering ++ rooming) parted.1))

  room_clear : Clear rooming
  room_clear = passed_clear rooming (passed_back entering rooming (passed_back sizing (entering ++ rooming) parted.1))

  count_right : length (entries text) ≡ number 2 (size_fields text)
  unfolding file_entry_steps
  count_right = eqb-true _ _ (not-false _ entry_clear.1.0)

  few_requests : length (file_requests text) ≤ max_entries
  unfolding file_size_steps
  few_requests =
      let small : dimension_of text ≤ max_dimension = ltb-false _ _ size_clear.1.0 in
      let most : number 2 (size_fields text) ≤ max_entries = ltb-false _ _ size_clear.1.1.1.0 in
      requests_most (dimension_of text) (entries text) max_entries (omega arith) (omega (arith, count_right))

  request_within : (k : ℕ) → k < length (file_requests text) → InsideRequest (dimension_of text) (file_rows text) (file_columns text) k
  unfolding file_entry_steps
  request_within k l = stands_inside (dimension_of text) k (entries text) entry_clear.1.1.0 l

  pub file_accepted : AcceptedFile text rows columns
  unfolding file_size_steps
  file_accepted =
      record {
        headed = same_bytes_equal _ _ parted.0;
        square = sym (eqb-true _ _ (not-false _ size_clear.1.1.0));
        small = ltb-false max_dimension _ size_clear.1.0;
        counted = count_right;
        few = few_requests;
        rows_long = length-map (file_requests text) (λ (r : ℕ × ℕ). r.0);
        columns_long = length-map (file_requests text) (λ (r : ℕ × ℕ). r.1);
        inside = λ k l. (request_within k l).inside;
        below = λ k l. (request_within k l).below;
        rows_room = ltb-false rows _ room_clear.0;
        columns_room = ltb-false columns _ room_clear.1.0;
      }

-- ---- on the sample: its request 3 is (2, 1), of 3 columns
sample_accepted : AcceptedFile sample 4 5
sample_accepted = file_accepted sample 4 5 sample_passes

sample_inside : (2 < 3) × (1 ≤ 2)
unfolding told sample
sample_inside = let l : 3 < 4 = omega arith in (sample_accepted.inside 3 l, sample_accepted.below 3 l)
