use native.Mathlib.Omega.{arith}
use Prim.Native.Nat.{◌≤◌, ◌+◌}
use lib.ListN.{length}
use mathlib.Core.List.{[], ◌∷◌}
use Rattle.matrix_market.specs.Decimal.{decimal}
use Rattle.matrix_market.specs.File.{header}
use Rattle.requests_writer.specs.Lines.{head_bytes}
use Rattle.requests_writer.proofs.ByteLaws.{writing_start, writing_room, writing_more, writing_end, writing_long, head-split}
use Rattle.requests_writer.proofs.write_head.Goals as goal

pub write_bytes-a-requires : goal.write_bytes-a-requires
write_bytes-a-requires c = let h0 : 0 + length (head_bytes c.args.n c.args.count) ≤ length c.args.text.now = omega (arith, c.requires) in
    let w0 = writing_start {text = c.args.text.now} (head-split c.args.n c.args.count) h0 in
    writing_room header _ w0

pub write_byte-b-requires : goal.write_byte-b-requires
write_byte-b-requires c = let h0 : 0 + length (head_bytes c.args.n c.args.count) ≤ length c.args.text.now = omega (arith, c.requires) in
    let w0 = writing_start {text = c.args.text.now} (head-split c.args.n c.args.count) h0 in
    let w1 = writing_more header _ w0 c.write_bytes-a.ensures in
    (let h = writing_room (10 ∷ []) _ w1 in omega (arith, h))

pub write_number-c-requires : goal.write_number-c-requires
write_number-c-requires c = let h0 : 0 + length (head_bytes c.args.n c.args.count) ≤ length c.args.text.now = omega (arith, c.requires) in
    let w0 = writing_start {text = c.args.text.now} (head-split c.args.n c.args.count) h0 in
    let w1 = writing_more header _ w0 c.write_bytes-a.ensures in
    let w2 = writing_more (10 ∷ []) _ w1 c.write_byte-b.ensures in
    writing_room (decimal c.args.n) _ w2

pub write_byte-d-requires : goal.write_byte-d-requires
write_byte-d-requires c = let h0 : 0 + length (head_bytes c.args.n c.args.count) ≤ length c.args.text.now = omega (arith, c.requires) in
    let w0 = writing_start {text = c.args.text.now} (head-split c.args.n c.args.count) h0 in
    let w1 = writing_more header _ w0 c.write_bytes-a.ensures in
    let w2 = writing_more (10 ∷ []) _ w1 c.write_byte-b.ensures in
    let w3 = writing_more (decimal c.args.n) _ w2 c.write_number-c.ensures in
    (let h = writing_room (32 ∷ []) _ w3 in omega (arith, h))

pub write_number-e-requires : goal.write_number-e-requires
write_number-e-requires c = let h0 : 0 + length (head_bytes c.args.n c.args.count) ≤ length c.args.text.now = omega (arith, c.requires) in
    let w0 = writing_start {text = c.args.text.now} (head-split c.args.n c.args.count) h0 in
    let w1 = writing_more header _ w0 c.write_bytes-a.ensures in
    let w2 = writing_more (10 ∷ []) _ w1 c.write_byte-b.ensures in
    let w3 = writing_more (decimal c.args.n) _ w2 c.write_number-c.ensures in
    let w4 = writing_more (32 ∷ []) _ w3 c.write_byte-d.ensures in
    writing_room (decimal c.args.n) _ w4

pub write_byte-f-requires : goal.write_byte-f-requires
write_byte-f-requires c = let h0 : 0 + length (head_bytes c.args.n c.args.count) ≤ length c.args.text.now = omega (arith, c.requires) in
    let w0 = writing_start {text = c.args.text.now} (head-split c.args.n c.args.count) h0 in
    let w1 = writing_more header _ w0 c.write_bytes-a.ensures in
    let w2 = writing_more (10 ∷ []) _ w1 c.write_byte-b.ensures in
    let w3 = writing_more (decimal c.args.n) _ w2 c.write_number-c.ensures in
    let w4 = writing_more (32 ∷ []) _ w3 c.write_byte-d.ensures in
    let w5 = writing_more (decimal c.args.n) _ w4 c.write_number-e.ensures in
    (let h = writing_room (32 ∷ []) _ w5 in omega (arith, h))

pub write_number-g-requires : goal.write_number-g-requires
write_number-g-requires c = let h0 : 0 + length (head_bytes c.args.n c.args.count) ≤ length c.args.text.now = omega (arith, c.requires) in
    let w0 = writing_start {text = c.args.text.now} (head-split c.args.n c.args.count) h0 in
    let w1 = writing_more header _ w0 c.write_bytes-a.ensures in
    let w2 = writing_more (10 ∷ []) _ w1 c.write_byte-b.ensures in
    let w3 = writing_more (decimal c.args.n) _ w2 c.write_number-c.ensures in
    let w4 = writing_more (32 ∷ []) _ w3 c.write_byte-d.ensures in
    let w5 = writing_more (decimal c.args.n) _ w4 c.write_number-e.ensures in
    let w6 = writing_more (32 ∷ []) _ w5 c.write_byte-f.ensures in
    writing_room (decimal c.args.count) _ w6

pub write_byte-requires : goal.write_byte-requires
write_byte-requires c = let h0 : 0 + length (head_bytes c.args.n c.args.count) ≤ length c.args.text.now = omega (arith, c.requires) in
    let w0 = writing_start {text = c.args.text.now} (head-split c.args.n c.args.count) h0 in
    let w1 = writing_more header _ w0 c.write_bytes-a.ensures in
    let w2 = writing_more (10 ∷ []) _ w1 c.write_byte-b.ensures in
    let w3 = writing_more (decimal c.args.n) _ w2 c.write_number-c.ensures in
    let w4 = writing_more (32 ∷ []) _ w3 c.write_byte-d.ensures in
    let w5 = writing_more (decimal c.args.n) _ w4 c.write_number-e.ensures in
    let w6 = writing_more (32 ∷ []) _ w5 c.write_byte-f.ensures in
    let w7 = writing_more (decimal c.args.count) _ w6 c.write_number-g.ensures in
    (let c = writing_room (10 ∷ []) _ w7 in omega (arith, c))

pub shape_of-text : goal.shape_of-text
shape_of-text c = let h0 : 0 + length (head_bytes c.args.n c.args.count) ≤ length c.args.text.now = omega (arith, c.requires) in
    let w0 = writing_start {text = c.args.text.now} (head-split c.args.n c.args.count) h0 in
    let w1 = writing_more header _ w0 c.write_bytes-a.ensures in
    let w2 = writing_more (10 ∷ []) _ w1 c.write_byte-b.ensures in
    let w3 = writing_more (decimal c.args.n) _ w2 c.write_number-c.ensures in
    let w4 = writing_more (32 ∷ []) _ w3 c.write_byte-d.ensures in
    let w5 = writing_more (decimal c.args.n) _ w4 c.write_number-e.ensures in
    let w6 = writing_more (32 ∷ []) _ w5 c.write_byte-f.ensures in
    let w7 = writing_more (decimal c.args.count) _ w6 c.write_number-g.ensures in
    let w8 = writing_more (10 ∷ []) _ w7 c.write_byte.ensures in
    writing_long w8

pub returns : goal.returns
returns c = let h0 : 0 + length (head_bytes c.args.n c.args.count) ≤ length c.args.text.now = omega (arith, c.requires) in
    let w0 = writing_start {text = c.args.text.now} (head-split c.args.n c.args.count) h0 in
    let w1 = writing_more header _ w0 c.write_bytes-a.ensures in
    let w2 = writing_more (10 ∷ []) _ w1 c.write_byte-b.ensures in
    let w3 = writing_more (decimal c.args.n) _ w2 c.write_number-c.ensures in
    let w4 = writing_more (32 ∷ []) _ w3 c.write_byte-d.ensures in
    let w5 = writing_more (decimal c.args.n) _ w4 c.write_number-e.ensures in
    let w6 = writing_more (32 ∷ []) _ w5 c.write_byte-f.ensures in
    let w7 = writing_more (decimal c.args.count) _ w6 c.write_number-g.ensures in
    let w8 = writing_more (10 ∷ []) _ w7 c.write_byte.ensures in
    writing_end w8
