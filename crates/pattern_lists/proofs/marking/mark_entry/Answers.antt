use Prim.Native.Nat.{ℕ}
use native.Mathlib.Omega.{arith}
use mathlib.Core.Path.{sym, subst}
use Rattle.pairs.specs.Marks.{Added, HasMark, single}
use Rattle.columns.specs.Kept.{nonzero}
use Rattle.pattern_lists.proofs.PatternMarks.{dropped_above, dropped_zero, kept_entry, entry_dropped, entry_kept}
use Rattle.pattern_lists.proofs.marking.mark_entry.Goals as goal

pub returns-then-r-c : goal.returns-then-r-c
returns-then-r-c c = let a = c.args in
    entry_dropped a.rows.now (nonzero a.values.now) a.c a.p a.marks.now
    (dropped_above a.rows.now (nonzero a.values.now) a.c a.p (omega (arith, c.if-r-c.true, c.at-r.ensures)))

pub mark_pair-requires : goal.mark_pair-requires
mark_pair-requires c = let a = c.args in
    let q = c.at-r.ensures in
    let F = c.requires.mark_entry_input in
    record {
      ordered = c.if-r-c.false;
      small = omega (arith, q, F.0);
      inside = subst (λ (r : ℕ). HasMark a.marks.now r a.c) (sym q) (F.1 (omega (arith, c.if-r-c.false)));
    }

pub returns-then-values-p : goal.returns-then-values-p
returns-then-values-p c = let a = c.args in
    entry_kept a.rows.now (nonzero a.values.now) a.c a.p
    (kept_entry a.rows.now (nonzero a.values.now) a.c a.p (omega (arith, c.if-r-c.false, c.at-r.ensures)) c.if-values-p.true)
    (subst (λ (r : ℕ). Added (single r a.c) a.marks.now c.mark_pair.new.marks) c.at-r.ensures c.mark_pair.ensures)

pub returns-else-values-p : goal.returns-else-values-p
returns-else-values-p c = let a = c.args in
    entry_dropped a.rows.now (nonzero a.values.now) a.c a.p a.marks.now
    (dropped_zero a.rows.now (nonzero a.values.now) a.c a.p c.if-values-p.false)
