-- What the functions that read the header, comments and the size line promise.
-- Assumes nothing.
use Rattle.std.specs.Prelude.{ℕ, ◌≤◌, ◌<◌, ◌≡◌, Bool, true, false, List, length, drop}
use Rattle.refusal.specs.Bounds.{max_dimension}
use Rattle.refusal.specs.Steps.{refused, verdict, Passed}
use Rattle.matrix_market.specs.Text.{lines}
use Rattle.matrix_market.specs.File.{same_bytes, skipped, from_size, number, file_size_steps}
use Rattle.file_lines.specs.Scan.{line_of, rest_of}
use Rattle.file_lines.specs.Places.{fields_at}

-- r is the place behind the line that p is in
pub record RestAt (text : List ℕ) (p r : ℕ) : Type 0 where
  pub left : drop r text ≡ rest_of (drop p text)
  pub past_it : p < length text → p < r
  pub within : r ≤ length text

-- whether the line at p is a comment or blank, and then the place behind it
pub record OverAt (text : List ℕ) (p : ℕ) (over : Bool) (next : ℕ) : Type 0 where
  pub found : over ≡ skipped (line_of (drop p text))
  pub left : over ≡ true → drop next text ≡ rest_of (drop p text)
  pub past_it : over ≡ true → p < next
  pub within : next ≤ length text

-- r is the place of the size line, the text's end where there is none
pub record SizeAt (text : List ℕ) (p r : ℕ) : Type 0 where
  pub left : lines (drop r text) ≡ from_size (lines (drop p text))
  pub within : r ≤ length text

-- whether the first line is the label, and then the place behind it
pub record LabelAt (text label : List ℕ) (found : Bool) (next : ℕ) : Type 0 where
  pub is : found ≡ same_bytes (line_of text) label
  pub left : found ≡ true → drop next text ≡ rest_of text
  pub within : next ≤ length text

-- whether the line at p passes 16; then its numbers, and the place behind it
pub record SizeRead (text : List ℕ) (p : ℕ) (accepted : Bool) (n count next : ℕ) : Type 0 where
  pub refuses : accepted ≡ false → verdict (file_size_steps (fields_at text p)) ≡ refused 16
  pub passes : accepted ≡ true → Passed (file_size_steps (fields_at text p))
  pub n_is : accepted ≡ true → number 0 (fields_at text p) ≡ n
  pub count_is : accepted ≡ true → number 2 (fields_at text p) ≡ count
  pub small : n ≤ max_dimension
  pub left : accepted ≡ true → drop next text ≡ rest_of (drop p text)
  pub within : next ≤ length text
