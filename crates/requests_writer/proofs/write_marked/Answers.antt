use native.Mathlib.Omega.{arith}
use Prim.Native.Nat.{ℕ, ◌≤◌, ◌+◌}
use mathlib.Core.Path.{◌≡◌, ap, ◌∙◌}
use lib.ListN.{length}
use mathlib.Core.Bool.{Bool}
use mathlib.Core.List.{List, ◌++◌}
use lib.ListN.{length-append, length-replicate}
use Rattle.lists.specs.Select.{tally}
use Rattle.bits.specs.Bits.{bit_at, bit_words}
use Rattle.refusal.specs.Bounds.{max_dimension}
use Rattle.pairs.specs.Pair.{pair_total}
use Rattle.pairs.specs.ColumnOrder.{column_marking, set_size}
use Rattle.matrix_market.specs.FileOf.{file_of}
use Rattle.requests_writer.specs.Lines.{Wrote, head_bytes, columns_bytes}
use Rattle.requests_writer.proofs.ByteLaws.{wrote_cong, wrote_more, wrote_length, file_parts}
use Rattle.requests_writer.proofs.ColumnLaws.{column_count_lem, size_small}
use Rattle.requests_writer.proofs.WriterLaws.{set_short, set_all}
use Rattle.requests_writer.proofs.write_marked.Goals as goal

-- the count is the number of marked pairs
counted : (n : ℕ) (marks : List ℕ) (count total : ℕ) → count ≡ tally (bit_at marks) 0 total → total ≡ pair_total n → count ≡ set_size n (column_marking n marks)
counted n marks count total e t = e ∙ ap (tally (bit_at marks) 0) t ∙ column_count_lem n marks

-- its first two lines and the others are the file
bytes_are : (n : ℕ) (S : ℕ → ℕ → Bool) (count : ℕ) → count ≡ set_size n S → head_bytes n count ++ columns_bytes n S n ≡ file_of n S
bytes_are n S count e = ap (λ (k : ℕ). head_bytes n k ++ columns_bytes n S n) e ∙ file_parts n S

-- the length is the file's
sized : (n : ℕ) (S : ℕ → ℕ → Bool) (count h l : ℕ) → count ≡ set_size n S → h ≡ length (head_bytes n count) → l ≡ length (columns_bytes n S n)
    → h + l ≡ length (file_of n S)
sized n S count h l e p q = omega (arith, p, q, ap length (bytes_are n S count e), length-append (head_bytes n count) (columns_bytes n S n))

-- there is room for the lines behind the first two
room_behind : (n : ℕ) (S : ℕ → ℕ → Bool) (count h l place : ℕ) (text text' : List ℕ) → h ≡ length (head_bytes n count) → l ≡ length (columns_bytes n S n)
    → h + l ≤ length text → Wrote (head_bytes n count) 0 text text' place
    → place + length (columns_bytes n S n) ≤ length text'
room_behind n S count h l place text text' p q r W =
    let g : 0 + length (head_bytes n count) ≤ length text = omega (arith, r, p) in
    omega (arith, W.next_is, wrote_length g W, r, p, q)

pub count_bits-count-requires : goal.count_bits-count-requires
count_bits-count-requires c = let t = c.pair_total.ensures in
    let P = c.requires in
    (omega arith, omega (arith, t.1), omega (arith, ap bit_words t.0, P.1))

pub head_length-requires : goal.head_length-requires
head_length-requires c =
    let a = c.args in
    let e = counted a.n a.marks.now _ _ c.count_bits-count.ensures c.pair_total.ensures.0 in
    (c.requires.0, omega (arith, e, size_small a.n (column_marking a.n a.marks.now) c.requires.0))

pub lines_length-requires : goal.lines_length-requires
lines_length-requires c = record { small = c.requires.0; all = c.requires.1; room = omega (arith, c.requires.0, length-replicate {A = ℕ} max_dimension 0) }

pub overflow_add-length : goal.overflow_add-length
overflow_add-length c = omega (arith, c.head_length.ensures.1, c.lines_length.ensures.1)

pub returns-then-text-length : goal.returns-then-text-length
returns-then-text-length c =
    let a = c.args in
    let S = column_marking a.n a.marks.now in
    let e = counted a.n a.marks.now _ _ c.count_bits-count.ensures c.pair_total.ensures.0 in
    set_short a.n S a.marks.now a.text.now _ (sized a.n S _ _ _ e c.head_length.ensures.0 c.lines_length.ensures.0) c.clear.ensures c.if-text-length.true

pub write_head-place-requires : goal.write_head-place-requires
write_head-place-requires c = omega (arith, c.if-text-length.false, c.head_length.ensures.0)

pub write_lines-requires : goal.write_lines-requires
write_lines-requires c =
    let a = c.args in (
      record { small = c.requires.0; all = c.requires.1; room = omega (arith, c.requires.0, length-replicate {A = ℕ} max_dimension 0, c.lines_length.auto.list) },
      room_behind a.n (column_marking a.n a.marks.now) _ _ _ _ a.text.now _ c.head_length.ensures.0 c.lines_length.ensures.0 c.if-text-length.false c.write_head-place.ensures,
    )

pub returns : goal.returns
returns c =
    let a = c.args in
    let S = column_marking a.n a.marks.now in
    let e = counted a.n a.marks.now _ _ c.count_bits-count.ensures c.pair_total.ensures.0 in
    let f = wrote_cong (bytes_are a.n S _ e) (wrote_more (omega arith) c.write_head-place.ensures c.write_lines.ensures) in
    set_all a.n S a.marks.now a.text.now _ (sized a.n S _ _ _ e c.head_length.ensures.0 c.lines_length.ensures.0) c.clear-2.ensures c.if-text-length.false f.text_is
