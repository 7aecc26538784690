use native.Mathlib.Omega.{arith}
use Prim.Native.Nat.{◌+◌}
use mathlib.Core.List.{[], ◌∷◌}
use Rattle.matrix_market.specs.Decimal.{decimal}
use Rattle.requests_writer.proofs.ByteLaws.{writing_start, writing_room, writing_more, writing_end, writing_long, entry_split}
use Rattle.requests_writer.proofs.numbers.write_entry.Goals as goal

pub write_number-row_end-requires : goal.write_number-row_end-requires
write_number-row_end-requires c = let w0 = writing_start {text = c.args.text.now} (entry_split c.args.c c.args.r) c.requires.2 in
    writing_room (decimal (c.args.r + 1)) _ w0

pub write_byte-column_start-requires : goal.write_byte-column_start-requires
write_byte-column_start-requires c = let w0 = writing_start {text = c.args.text.now} (entry_split c.args.c c.args.r) c.requires.2 in
    let w1 = writing_more (decimal (c.args.r + 1)) _ w0 c.write_number-row_end.ensures in
    (let h = writing_room (32 ∷ []) _ w1 in omega (arith, h))

pub write_number-column_end-requires : goal.write_number-column_end-requires
write_number-column_end-requires c = let w0 = writing_start {text = c.args.text.now} (entry_split c.args.c c.args.r) c.requires.2 in
    let w1 = writing_more (decimal (c.args.r + 1)) _ w0 c.write_number-row_end.ensures in
    let w2 = writing_more (32 ∷ []) _ w1 c.write_byte-column_start.ensures in
    writing_room (decimal (c.args.c + 1)) _ w2

pub write_byte-requires : goal.write_byte-requires
write_byte-requires c = let w0 = writing_start {text = c.args.text.now} (entry_split c.args.c c.args.r) c.requires.2 in
    let w1 = writing_more (decimal (c.args.r + 1)) _ w0 c.write_number-row_end.ensures in
    let w2 = writing_more (32 ∷ []) _ w1 c.write_byte-column_start.ensures in
    let w3 = writing_more (decimal (c.args.c + 1)) _ w2 c.write_number-column_end.ensures in
    (let h = writing_room (10 ∷ []) _ w3 in omega (arith, h))

pub shape_of-text : goal.shape_of-text
shape_of-text c = let w0 = writing_start {text = c.args.text.now} (entry_split c.args.c c.args.r) c.requires.2 in
    let w1 = writing_more (decimal (c.args.r + 1)) _ w0 c.write_number-row_end.ensures in
    let w2 = writing_more (32 ∷ []) _ w1 c.write_byte-column_start.ensures in
    let w3 = writing_more (decimal (c.args.c + 1)) _ w2 c.write_number-column_end.ensures in
    let w4 = writing_more (10 ∷ []) _ w3 c.write_byte.ensures in
    writing_long w4

pub returns : goal.returns
returns c = let w0 = writing_start {text = c.args.text.now} (entry_split c.args.c c.args.r) c.requires.2 in
    let w1 = writing_more (decimal (c.args.r + 1)) _ w0 c.write_number-row_end.ensures in
    let w2 = writing_more (32 ∷ []) _ w1 c.write_byte-column_start.ensures in
    let w3 = writing_more (decimal (c.args.c + 1)) _ w2 c.write_number-column_end.ensures in
    let w4 = writing_more (10 ∷ []) _ w3 c.write_byte.ensures in
    writing_end w4
