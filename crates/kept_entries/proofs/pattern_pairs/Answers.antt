use native.Mathlib.Omega.{arith}
use native.Mathlib.Numerals.{add-one}
use Prim.Native.Nat.{ℕ, ◌≤◌, ◌-◌, ◌+◌}
use mathlib.Core.Path.{◌≡◌, ap, ap₂, sym, ◌∙◌}
use mathlib.Core.Bool.{Bool}
use mathlib.Core.List.{List}
use lib.ListN.{length, get_or, length-map}
use Rattle.lists.specs.Select.{tally, tally_most}
use Rattle.columns.specs.Columns.{start, row}
use Rattle.columns.specs.Kept.{nonzero, kept, desc_places, pattern}
use Rattle.columns.proofs.Factor.{factor_column, starts_end}
use Rattle.columns.specs.Form.{pattern_pairs}
use Rattle.columns.proofs.Form.{pattern_pairs_none, pattern_pairs_next}
use Rattle.kept_entries.proofs.pattern_pairs.Goals as goal

-- the entries kept in column c from the row c + 1 on are its descendants
descendants : (starts rows : List ℕ) (nz : ℕ → Bool) (c : ℕ)
    → tally (kept rows nz (c + 1)) (start starts c) (start starts (c + 1)) ≡ length (pattern starts rows nz c)
descendants starts rows nz c =
    ap (λ (k : ℕ). tally (kept rows nz k) (start starts c) (start starts (c + 1))) (add-one c)
    ∙ sym (length-map (desc_places starts rows nz c) (row rows))

-- the count stays below the next start and the columns
bound : (c : goal.After-kept_between-below) →
    c.loop-c.count + (1 + c.kept_between-below.result) ≤ get_or c.args.starts.now (c.loop-c.c + 1) 0 + (c.loop-c.c + 1)
bound c =
    let m : c.kept_between-below.result ≤ c.at-in-loop-c.result - c.at.result = rw c.kept_between-below.ensures (tally_most _ _ _) in
    omega (arith, c.requires.starts_rise.rising c.loop-c.c (omega arith))

-- which are within the rows and the starts
end : (c : goal.After-kept_between-below) →
    get_or c.args.starts.now (c.loop-c.c + 1) 0 ≤ length c.args.rows.now
end c = starts_end c.requires.starts_rise (c.loop-c.c + 1) (omega arith)

-- what is added counts column c
counted : (c : goal.After-kept_between-below) →
    c.kept_between-below.result ≡ length (pattern c.args.starts.now c.args.rows.now (nonzero c.args.values.now) c.loop-c.c)
counted c =
    (rw (c.at.ensures, c.at-in-loop-c.ensures) at c.kept_between-below.ensures)
    ∙ descendants c.args.starts.now c.args.rows.now (nonzero c.args.values.now) c.loop-c.c

pub loop-c-init : goal.loop-c-init
loop-c-init c = (omega arith, sym (pattern_pairs_none _))

pub kept_between-below-requires : goal.kept_between-below-requires
kept_between-below-requires c = rw (c.at.ensures, c.at-in-loop-c.ensures) (factor_column c.requires c.loop-c.c (omega arith))

pub overflow_add-count : goal.overflow_add-count
overflow_add-count c = omega (arith, bound c, end c, c.requires.starts_rise.columns)

pub overflow_add-count-in-loop-c : goal.overflow_add-count-in-loop-c
overflow_add-count-in-loop-c c = omega (arith, bound c, end c, c.requires.starts_rise.columns)

pub loop-c-preserved : goal.loop-c-preserved
loop-c-preserved c = (bound c, rw pattern_pairs_next (ap₂ ◌+◌ c.loop-c.invariant.1 (ap (λ (k : ℕ). 1 + k) (counted c))))

pub returns : goal.returns
returns c =
    let q : c.loop-c.c ≡ c.args.n = omega arith in
    c.loop-c.invariant.1 ∙ ap (λ (k : ℕ). pattern_pairs k (pattern c.args.starts.now c.args.rows.now (nonzero c.args.values.now))) q
