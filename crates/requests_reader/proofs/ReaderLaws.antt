-- Why each return of the call keeps its promise.
-- Assumes nothing.
use Prim.Native.Nat.{ℕ, ◌≤◌, ◌<◌}
use native.Mathlib.Omega.{arith}
use mathlib.Core.Path.{◌≡◌, refl, sym, ap, ap₂, ◌∙◌}
use mathlib.Core.Bool.{Bool, true, false, not}
use mathlib.Core.List.{List, ◌++◌}
use lib.ListN.{length, drop}
use borrow.Author.Tests.{lt-ltb, le-ltb, eq-eqb, ne_eqb}
use Rattle.lists.specs.Every.{some}
use Rattle.lists.specs.Overwrite.{overwrite}
use Rattle.refusal.specs.Bounds.{max_dimension}
use Rattle.refusal.specs.Steps.{Reply, refused, answered, Step, verdict, Passed}
use Rattle.refusal.proofs.Steps.{first_hit, first_skip, first_end, first_refused, first_passed}
use Rattle.refusal.proofs.Steps.{append-refused, append_passed, after_refused, after_passed}
use Rattle.matrix_market.specs.Text.{lines, fields}
use Rattle.matrix_market.specs.File.{header, same_bytes, first_line, later_lines, from_size, body, line_entries, size_fields, entries, number, dimension_of}
use Rattle.matrix_market.specs.File.{stand_for, file_requests, request_rows, request_columns, file_rows, file_columns, malformed, outside_entry, request_count}
use Rattle.matrix_market.proofs.File.{requests_count}
use Rattle.matrix_market.specs.File.{file_size_steps, file_entry_steps, file_room_steps, file_steps, file_answer}
use Rattle.file_lines.specs.Scan.{rest_of}
use Rattle.file_lines.specs.Places.{fields_at}
use Rattle.file_lines.proofs.ScanLaws.{first_line_is, later_lines_are}
use Rattle.requests_reader.specs.HeaderLines.{LabelAt, SizeAt, SizeRead}
use Rattle.requests_reader.specs.EntryLines.{entries_from, Scanned, StoreEntriesInput, RequestsStored}
use Rattle.requests_reader.specs.Reader.{RequestsRead}
use Rattle.requests_reader.proofs.EntryLaws.{entries_of}
use Rattle.std.specs.Prelude.{Result}
use Rattle.refusal.specs.declared.Refusal.{Refusal}
use Rattle.refusal.specs.Refusal.{reply_of}

-- ---- how far the file is read
-- the first line is the header, and the size line stands at p
pub record HeaderPassed (text : List ℕ) (p : ℕ) : Type 0 where
  pub headed : not (same_bytes (first_line (lines text)) header) ≡ false
  pub size_is : size_fields text ≡ fields_at text p
  pub entries_are : entries text ≡ entries_of (rest_of (drop p text))

-- the size line has these numbers and is not refused, and the entries stand from p on
pub record SizePassed (text : List ℕ) (n count p : ℕ) : Type 0 where
  pub headed : not (same_bytes (first_line (lines text)) header) ≡ false
  pub sized : Passed (file_size_steps (size_fields text))
  pub n_is : dimension_of text ≡ n
  pub count_is : number 2 (size_fields text) ≡ count
  pub entries_are : entries text ≡ entries_from text p
  pub small : n ≤ max_dimension
  pub within : p ≤ length text

-- so many entries are as many as counted, and none is refused
pub record EntriesPassed (text : List ℕ) (n count p seen : ℕ) : Type 0 where
  pub size : SizePassed text n count p
  pub formed : some malformed (entries_from text p) ≡ false
  pub counted : length (entries_from text p) ≡ seen
  pub right : seen ≡ count
  pub inside : some (outside_entry n) (entries_from text p) ≡ false

module _ (text : List ℕ) (start p : ℕ) (h : LabelAt text header true start) (s : SizeAt text start p) where
  body_is : body text ≡ lines (drop p text)
  unfolding body
  body_is = sym (s.left ∙ ap (λ (t : List ℕ). from_size (lines t)) (h.left refl) ∙ ap from_size (sym (later_lines_are text)))

  pub header_passed : HeaderPassed text p
  unfolding size_fields entries
  header_passed =
      record {
        headed = ap (λ (l : List ℕ). not (same_bytes l header)) (first_line_is text) ∙ ap not (sym h.is);
        size_is = ap fields (ap first_line body_is ∙ first_line_is (drop p text));
        entries_are = ap line_entries (ap later_lines body_is ∙ later_lines_are (drop p text));
      }

pub size_passed : (text : List ℕ) (start at n count p : ℕ) → LabelAt text header true start → SizeAt text start at → SizeRead text at true n count p
    → SizePassed text n count p
size_passed text start at n count p l s z =
    let h = header_passed text start at l s in
    record {
      headed = h.headed;
      sized = ap (λ (l : List (List ℕ)). verdict (file_size_steps l)) h.size_is ∙ z.passes refl;
      n_is = ap (number 0) h.size_is ∙ z.n_is refl;
      count_is = ap (number 2) h.size_is ∙ z.count_is refl;
      entries_are = h.entries_are ∙ ap entries_of (sym (z.left refl));
      small = z.small;
      within = z.within;
    }

pub entries_passed : (text : List ℕ) (n count p seen : ℕ) (outside : Bool) → SizePassed text n count p → Scanned n text p true seen outside
    → seen ≡ count → outside ≡ false → EntriesPassed text n count p seen
entries_passed text n count p seen outside z c q o =
    record { size = z; formed = c.is; counted = c.counted refl; right = q; inside = c.found refl ∙ o }

pub can_store : (text : List ℕ) (n count p seen : ℕ) → EntriesPassed text n count p seen → StoreEntriesInput text p seen
can_store text n count p seen e =
    record {
      bound = n;
      small = omega (arith, e.size.small);
      formed = e.formed;
      inside = e.inside;
      counted = e.counted;
      within = e.size.within;
    }

-- ---- the returns
module _ (text rows₀ columns₀ : List ℕ) where
  abbrev steps : List Step
  steps = file_steps text (length rows₀) (length columns₀)

  -- what a refusal's return has to show
  abbrev Refuses : ℕ → Type 0
  Refuses k = (r : Result (ℕ × ℕ) Refusal) → reply_of r ≡ refused k → RequestsRead text rows₀ columns₀ r rows₀ columns₀

  -- a refusal leaves both lists
  refuses : (k : ℕ) → verdict steps ≡ refused k → Refuses k
  refuses k h r e =
      record {
        replies = e ∙ sym (first_refused _ k (file_answer text) h);
        rows_are = sym (after_refused _ k _ rows₀ h);
        columns_are = sym (after_refused _ k _ columns₀ h);
      }

  pub header_other : LabelAt text header false 0 → Refuses 15
  unfolding file_steps
  header_other h = refuses 15 (first_hit 15 _ tt (ap (λ (l : List ℕ). not (same_bytes l header)) (first_line_is text) ∙ ap not (sym h.is)))

  pub size_refused : (start at : ℕ) → LabelAt text header true start → SizeAt text start at → SizeRead text at false 0 0 0 → Refuses 16
  unfolding file_steps
  size_refused start at l s z =
      let h = header_passed text start at l s in
      refuses 16
      (first_skip 15 _ tt h.headed
      (append-refused (file_size_steps (size_fields text)) _ 16 tt (ap (λ (l : List (List ℕ)). verdict (file_size_steps l)) h.size_is ∙ z.refuses refl)))

  -- the steps of the entries and the lists' room, which decide where 15 and the size line pass
  abbrev later_steps : ℕ → ℕ → List (List (List ℕ)) → List Step
  later_steps k m es = file_entry_steps k m es ++ file_room_steps (length (stand_for k es)) (length rows₀) (length columns₀)

  later_decide : (n count p : ℕ) → SizePassed text n count p
      → (r : Reply (Unit {0})) → verdict (later_steps n count (entries_from text p)) ≡ r → verdict steps ≡ r
  unfolding file_steps
  later_decide n count p z r e =
      first_skip 15 _ tt z.headed
      (append_passed (file_size_steps (size_fields text)) _ tt z.sized
      ∙ ap (λ (k : ℕ). verdict (later_steps k (number 2 (size_fields text)) (entries text))) z.n_is
      ∙ ap₂ (λ (k : ℕ) (es : List (List (List ℕ))). verdict (later_steps n k es)) z.count_is z.entries_are
      ∙ e)

  module _ (n count p : ℕ) (z : SizePassed text n count p) where
    pub entry_malformed : Scanned n text p false 0 false → Refuses 16
    unfolding file_entry_steps
    entry_malformed c = refuses 16 (later_decide n count p z _ (first_hit 16 _ tt c.is))

    module _ (seen : ℕ) (outside : Bool) (c : Scanned n text p true seen outside) where
      pub count_wrong : (seen ≡ count → ⊥) → Refuses 16
      unfolding file_entry_steps
      count_wrong q =
          refuses 16
          (later_decide n count p z _
          (first_skip 16 _ tt c.is (first_hit 16 _ tt (ap not (ne_eqb _ _ (λ w. q (sym (c.counted refl) ∙ w)))))))

      pub index-outside : seen ≡ count → outside ≡ true → Refuses 17
      unfolding file_entry_steps
      index-outside q o =
          refuses 17
          (later_decide n count p z _
          (first_skip 16 _ tt c.is
          (first_skip 16 _ tt (ap not (eq-eqb _ _ (c.counted refl ∙ q))) (first_hit 17 _ tt (c.found refl ∙ o)))))

  module _ (n count p seen requests : ℕ) (e : EntriesPassed text n count p seen) (t : requests ≡ request_count n seen) where
    requests_are : length (stand_for n (entries_from text p)) ≡ requests
    requests_are = requests_count n (entries_from text p) ∙ ap (request_count n) e.counted ∙ sym t

    -- only the room is left
    room_decides : (r : Reply (Unit {0})) → verdict (file_room_steps requests (length rows₀) (length columns₀)) ≡ r → verdict steps ≡ r
    unfolding file_entry_steps
    room_decides r h =
        later_decide n count p e.size r
        (first_skip 16 _ tt e.formed
        (first_skip 16 _ tt (ap not (eq-eqb _ _ (e.counted ∙ e.right)))
        (first_skip 17 _ tt e.inside
        (ap (λ (k : ℕ). verdict (file_room_steps k (length rows₀) (length columns₀))) requests_are ∙ h))))

    pub rows_short : length rows₀ < requests → Refuses 7
    rows_short l = refuses 7 (room_decides _ (first_hit 7 _ tt (lt-ltb _ _ l)))

    module _ (l : requests ≤ length rows₀) where
      pub columns_short : length columns₀ < requests → Refuses 7
      columns_short m = refuses 7 (room_decides _ (first_skip 7 _ tt (le-ltb _ _ l) (first_hit 7 _ tt (lt-ltb _ _ m))))

      module _ (m : requests ≤ length columns₀) where
        passed : Passed steps
        passed = room_decides _ (first_skip 7 _ tt (le-ltb _ _ l) (first_skip 7 _ tt (le-ltb _ _ m) (first_end tt)))

        requests_told : stand_for n (entries_from text p) ≡ file_requests text
        requests_told = ap₂ stand_for (sym e.size.n_is) (sym e.size.entries_are)

        pub all_read : (r : Result (ℕ × ℕ) Refusal) (rows columns : List ℕ) → reply_of r ≡ answered (n, requests) → RequestsStored (stand_for n (entries_from text p)) rows₀ columns₀ rows columns
            → RequestsRead text rows₀ columns₀ r rows columns
        all_read r rows columns q w =
            record {
              replies = q ∙ ap₂ (λ (i k : ℕ). answered (i, k)) (sym e.size.n_is) (sym requests_are ∙ ap length requests_told) ∙ sym (first_passed _ (file_answer text) passed);
              rows_are =
                  w.rows_are ∙ ap (λ (l : List (ℕ × ℕ)). overwrite (request_rows l) rows₀) requests_told
                  ∙ sym (after_passed steps (overwrite (file_rows text) rows₀) rows₀ passed);
              columns_are =
                  w.columns_are ∙ ap (λ (l : List (ℕ × ℕ)). overwrite (request_columns l) columns₀) requests_told
                  ∙ sym (after_passed steps (overwrite (file_columns text) columns₀) columns₀ passed);
            }
