use Prim.Native.Nat.{ℕ, ◌+◌, ◌<◌}
use native.Mathlib.Omega.{arith}
use mathlib.Core.Path.{◌≡◌, ap, sym, ◌∙◌}
use mathlib.Core.List.{List}
use lib.ListN.{length}
use lib.Ieee.{Float, nan}
use borrow.Author.Rules.{rules}
use Rattle.lists.specs.Sum.{bit}
use Rattle.refusal.specs.Steps.{Reply, refused, answered, settle}
use Rattle.columns.specs.Columns.{start}
use Rattle.columns.specs.Kept.{f0}
use Rattle.result.specs.Place.{place_in}
use Rattle.result.proofs.Place.{place_in_stands}
use Rattle.result.proofs.Laws.{diagonal_of_place, mark_of_place, column_rows_lem}
use Rattle.result.specs.Lookup.{WellFormed, dimension, value_at, finds, diagonal_of, mark_of}
use Rattle.column_search.specs.Reply.{place_reply}
use Rattle.lookup.proofs.diagonal_list.diagonal.Goals as goal

-- the place is one of the values
inside : (starts rows : List ℕ) (values : ℕ) → WellFormed starts rows values → (c : ℕ) → c < dimension starts
    → (p : ℕ) → place_in rows c (start starts c) (start starts (c + 1)) ≡ answered p → p < values
inside starts rows values W c l p e =
    let C = W.column c l in
    let S = place_in_stands rows c _ _ C.ascends p e in
    omega (arith, S.below, C.weighed)

-- what the column search finds decides the diagonal and its mark
found_value : (starts rows : List ℕ) (values : List Float) → WellFormed starts rows (length values) → (c : ℕ) → c < dimension starts
    → (q : Reply ℕ) → place_in rows c (start starts c) (start starts (c + 1)) ≡ q
    → settle f0 (value_at nan values q) ≡ diagonal_of nan f0 starts rows values c
found_value starts rows values W c l q e =
    sym (diagonal_of_place nan starts rows values W f0 c l ∙ ap (λ (r : Reply ℕ). settle f0 (value_at nan values r)) e)

found_mark : (starts rows : List ℕ) (values : List Float) → WellFormed starts rows (length values) → (c : ℕ) → c < dimension starts
    → (q : Reply ℕ) → place_in rows c (start starts c) (start starts (c + 1)) ≡ q
    → bit (finds (value_at nan values q)) ≡ mark_of nan starts rows values c
found_mark starts rows values W c l q e =
    sym (mark_of_place nan starts rows values W c l ∙ ap (λ (r : Reply ℕ). bit (finds (value_at nan values r))) e)

pub find_in_column-found-requires : goal.find_in_column-found-requires
find_in_column-found-requires c = record { c_in_bounds = omega (arith, c.requires); column = column_rows_lem (c.requires.well_formed.column c.args.c c.requires.c_bound) }

pub offset_bounds-values-p : goal.offset_bounds-values-p
offset_bounds-values-p c =
    let a = c.args in
    let h = inside a.starts.now a.rows.now (length a.values.now) c.requires.well_formed a.c c.requires.c_bound c.in-Some.p (sym c.find_in_column-found.ensures.place_value ∙ ap place_reply c.in-Some.is) in
    search rules

pub bounds-values-p : goal.bounds-values-p
bounds-values-p c =
    let a = c.args in
    inside a.starts.now a.rows.now (length a.values.now) c.requires.well_formed a.c c.requires.c_bound c.in-Some.p (sym c.find_in_column-found.ensures.place_value ∙ ap place_reply c.in-Some.is)

pub returns-in-Some : goal.returns-in-Some
returns-in-Some c =
    let a = c.args in
    let e = sym c.find_in_column-found.ensures.place_value ∙ ap place_reply c.in-Some.is in
    record {
      value_value = found_value a.starts.now a.rows.now a.values.now c.requires.well_formed a.c c.requires.c_bound (answered c.in-Some.p) e;
      mark_value = found_mark a.starts.now a.rows.now a.values.now c.requires.well_formed a.c c.requires.c_bound (answered c.in-Some.p) e;
    }

pub returns-in-None : goal.returns-in-None
returns-in-None c =
    let a = c.args in
    let e = sym c.find_in_column-found.ensures.place_value ∙ ap place_reply c.in-None.is in
    record {
      value_value = found_value a.starts.now a.rows.now a.values.now c.requires.well_formed a.c c.requires.c_bound (refused 8) e;
      mark_value = found_mark a.starts.now a.rows.now a.values.now c.requires.well_formed a.c c.requires.c_bound (refused 8) e;
    }
