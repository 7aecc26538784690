use native.Mathlib.Omega.{arith}
use mathlib.Core.Path.{◌≡◌, ap, ◌∙◌}
use Rattle.lists.specs.Select.{tally}
use Rattle.bits.specs.Bits.{bit_at, bit_words}
use Rattle.bits.proofs.Bits.{bit_words_most}
use Rattle.pairs.specs.Pair.{pair_total, pair_count}
use Rattle.pairs.proofs.Pair.{pair_total_small}
use Rattle.pairs.specs.Marks.{marking}
use Rattle.pairs.proofs.Marks.{marks_count}
use Rattle.pattern_lists.proofs.ListedPairs.{rows_short, columns_short, listed_all}
use Rattle.pattern_lists.proofs.listed.list_marked.Goals as goal

-- the count is the number of marked pairs
counted-After-slice_known-then-rows-count-1 : (c : goal.After-slice_known-then-rows-count-1) → c.count_marks-count.result ≡ pair_count c.args.n (marking c.args.marks.now)
counted-After-slice_known-then-rows-count-1 c =
    let a = c.args in
    c.count_marks-count.ensures ∙ ap (tally (bit_at a.marks.now) 0) c.pair_total.ensures.0 ∙ marks_count a.n a.marks.now

-- the count is the number of marked pairs
counted-After-slice_known-then-columns-count-1 : (c : goal.After-slice_known-then-columns-count-1) → c.count_marks-count.result ≡ pair_count c.args.n (marking c.args.marks.now)
counted-After-slice_known-then-columns-count-1 c =
    let a = c.args in
    c.count_marks-count.ensures ∙ ap (tally (bit_at a.marks.now) 0) c.pair_total.ensures.0 ∙ marks_count a.n a.marks.now

-- the count is the number of marked pairs
counted-After-list_pairs-arg-2-1 : (c : goal.After-list_pairs-arg-2-1) → c.count_marks-count.result ≡ pair_count c.args.n (marking c.args.marks.now)
counted-After-list_pairs-arg-2-1 c =
    let a = c.args in
    c.count_marks-count.ensures ∙ ap (tally (bit_at a.marks.now) 0) c.pair_total.ensures.0 ∙ marks_count a.n a.marks.now

-- the count is the number of marked pairs
counted-After-slice_known-6-1 : (c : goal.After-slice_known-6-1) → c.count_marks-count.result ≡ pair_count c.args.n (marking c.args.marks.now)
counted-After-slice_known-6-1 c =
    let a = c.args in
    c.count_marks-count.ensures ∙ ap (tally (bit_at a.marks.now) 0) c.pair_total.ensures.0 ∙ marks_count a.n a.marks.now

pub count_marks-count-requires : goal.count_marks-count-requires
count_marks-count-requires c = let t = c.pair_total.ensures in
    let P = c.requires in
    let n = c.args.n in
    record {
      stored = omega (arith, ap bit_words t.0, P.1);
      few = omega (arith, P.1, bit_words_most (pair_total n), pair_total_small n P.0);
      small = t.1;
    }

pub returns-then-rows-count : goal.returns-then-rows-count
returns-then-rows-count c = rows_short c.args.n _ c.args.marks.now c.args.rows.now c.args.columns.now _ (counted-After-slice_known-then-rows-count-1 c) c.clear.ensures c.if-rows-count.true

pub returns-then-columns-count : goal.returns-then-columns-count
returns-then-columns-count c = columns_short c.args.n _ c.args.marks.now c.args.rows.now c.args.columns.now _ (counted-After-slice_known-then-columns-count-1 c) c.clear-then-columns-count.ensures c.if-rows-count.false c.if-columns-count.true

pub list_pairs-listed-requires : goal.list_pairs-listed-requires
list_pairs-listed-requires c = record { small = c.requires.0; all = c.requires.1; rows_fit = omega (arith, counted-After-list_pairs-arg-2-1 c, c.if-rows-count.false); columns_fit = omega (arith, counted-After-list_pairs-arg-2-1 c, c.if-columns-count.false) }

pub returns : goal.returns
returns c = let L = c.list_pairs-listed.ensures in
    listed_all c.args.n _ c.args.marks.now c.args.rows.now c.args.columns.now _ (counted-After-slice_known-6-1 c) c.clear-2.ensures c.if-rows-count.false c.if-columns-count.false L.count_is L.rows_is L.columns_is
