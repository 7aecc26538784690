-- What the functions that read entry lines promise.
-- Assumes nothing.
use Rattle.std.specs.Prelude.{ℕ, ◌≤◌, ◌<◌, ◌≡◌, Bool, true, false, not, ◌||◌, List, [], ◌∷◌, map, eqb, length, drop}
use Rattle.lists.specs.Every.{some}
use Rattle.lists.specs.Overwrite.{overwrite}
use Rattle.matrix_market.specs.Text.{lines, fields, is_blank}
use Rattle.matrix_market.specs.File.{line_entries, are_numbers, number, malformed, outside_entry, pair_of, request_rows, request_columns}
use Rattle.file_lines.specs.Scan.{line_of, past, cut}

-- a blank or a line end
unfoldable pub space : ℕ → Bool
space b = is_blank b || eqb b 10

-- the entries from p on, and the first of them
abbrev pub entries_from : List ℕ → ℕ → List (List (List ℕ))
entries_from text p = line_entries (lines (drop p text))

abbrev pub entry_at : List ℕ → ℕ → List (List ℕ)
entry_at text p = fields (line_of (past space (drop p text)))

-- their pairs
abbrev pub pairs_from : List ℕ → ℕ → List (ℕ × ℕ)
pairs_from text p = map pair_of (entries_from text p)

-- ---- the pass that tests
-- the next entry line: whether there is one, whether it is two numbers, these, and the place behind it
pub record EntryAt (text : List ℕ) (p : ℕ) (there formed : Bool) (first second next : ℕ) : Type 0 where
  pub none : there ≡ false → entries_from text p ≡ []
  pub broken : there ≡ true → formed ≡ false → some malformed (entries_from text p) ≡ true
  pub shaped : there ≡ true → formed ≡ are_numbers 2 (entry_at text p)
  pub found : there ≡ true → formed ≡ true → entries_from text p ≡ entry_at text p ∷ entries_from text next
  pub first_is : formed ≡ true → first ≡ cut (number 0 (entry_at text p))
  pub second_is : formed ≡ true → second ≡ cut (number 1 (entry_at text p))
  pub past_it : formed ≡ true → p < next
  pub within : next ≤ length text

-- whether every entry line is two numbers; then how many there are, and whether some index is outside n
pub record Scanned (n : ℕ) (text : List ℕ) (p : ℕ) (formed : Bool) (count : ℕ) (outside : Bool) : Type 0 where
  pub is : some malformed (entries_from text p) ≡ not formed
  pub counted : formed ≡ true → length (entries_from text p) ≡ count
  pub found : formed ≡ true → some (outside_entry n) (entries_from text p) ≡ outside

-- ---- the pass that stores
-- there is an entry from p on, and all of them are two numbers
pub record KnownEntryInput (text : List ℕ) (p : ℕ) : Type 0 where
  pub some_left : 0 < length (entries_from text p)
  pub formed : some malformed (entries_from text p) ≡ false
  pub within : p ≤ length text

-- the numbers of the first, and a place from which on stand the entries after it
pub record KnownEntryAt (text : List ℕ) (p first second next : ℕ) : Type 0 where
  pub found : entries_from text p ≡ entry_at text p ∷ entries_from text next
  pub first_is : first ≡ cut (number 0 (entry_at text p))
  pub second_is : second ≡ cut (number 1 (entry_at text p))
  pub within : next ≤ length text

-- the entries from p on can be stored: two numbers each, inside some small bound
pub record StoreEntriesInput (text : List ℕ) (p count : ℕ) : Type 0 where
  pub bound : ℕ
  pub small : bound < 4294967295
  pub formed : some malformed (entries_from text p) ≡ false
  pub inside : some (outside_entry bound) (entries_from text p) ≡ false
  pub counted : length (entries_from text p) ≡ count
  pub within : p ≤ length text

-- both lists begin with these requests
pub record RequestsStored (requests : List (ℕ × ℕ)) (rows₀ columns₀ rows columns : List ℕ) : Type 0 where
  pub rows_are : rows ≡ overwrite (request_rows requests) rows₀
  pub columns_are : columns ≡ overwrite (request_columns requests) columns₀
  pub rows_long : length rows ≡ length rows₀
  pub columns_long : length columns ≡ length columns₀
