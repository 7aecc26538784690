use Rattle.std.proofs.Common.{ℕ, ◌≡◌, ◌+◌, ◌-◌, ◌/◌, ◌<◌, ◌≤◌, List, length, get_or, take, drop, ap, sym, ◌∙◌, arith}
use native.Mathlib.Nat.{add-zero}
use lib.ListN.{length-drop}
use lib.Seq.{length-take-le}
use Rattle.refusal.specs.Steps.{answered}
use Rattle.result.proofs.Place.{sought_none, sought_here, sought_below, sought_above, part_rest, ascending-take, ascending-drop}
use Rattle.result.specs.Looks.{looks}
use Rattle.result.proofs.Looks.{looks_none, looks_first, looks-middle, looks_below, looks_above}
use Rattle.column_search.proofs.+search.Goals as goal

-- the looks at a part whose first row is not r, nor its middle one
below_two : (xs : List ℕ) (r f m : ℕ) → (length xs ≡ 0 → ⊥) → f ≡ get_or xs 0 0 → (f ≡ r → ⊥) → m ≡ get_or xs (length xs / 2) 0 → (m ≡ r → ⊥) → r < m
    → looks xs r ≡ 2 + looks (take (length xs / 2) xs) r
below_two xs r f m some e n q o l = looks_below xs r (omega (arith, some)) (λ h. n (e ∙ h)) (λ h. o (q ∙ h)) (omega arith)

above_two : (xs : List ℕ) (r f m : ℕ) → (length xs ≡ 0 → ⊥) → f ≡ get_or xs 0 0 → (f ≡ r → ⊥) → m ≡ get_or xs (length xs / 2) 0 → (m ≡ r → ⊥) → m ≤ r
    → looks xs r ≡ 2 + looks (drop (length xs / 2 + 1) xs) r
above_two xs r f m some e n q o l = looks_above xs r (omega (arith, some)) (λ h. n (e ∙ h)) (λ h. o (q ∙ h)) (omega arith)

middle_two : (xs : List ℕ) (r f m : ℕ) → (length xs ≡ 0 → ⊥) → f ≡ get_or xs 0 0 → (f ≡ r → ⊥) → m ≡ get_or xs (length xs / 2) 0 → m ≡ r → looks xs r ≡ 2
middle_two xs r f m some e n q h = looks-middle xs r (omega (arith, some)) (λ p. n (e ∙ p)) (sym q ∙ h)

pub returns-then-m-eq0-clause-place_value : goal.returns-then-m-eq0-clause-place_value
returns-then-m-eq0-clause-place_value t c =
    let a = c.args in
    c.absent.ensures.0 ∙ sym (sought_none a.base a.part.now a.r c.if-m-eq0.true)

pub returns-then-m-eq0-clause-looks_value : goal.returns-then-m-eq0-clause-looks_value
returns-then-m-eq0-clause-looks_value t c =
    omega (arith, c.absent.ensures.1, looks_none c.args.part.now c.args.r c.if-m-eq0.true)

pub overflow_add-seen : goal.overflow_add-seen
overflow_add-seen t c =
    let a = c.args in
    let some : 0 < length a.part.now = omega (arith, c.if-m-eq0.false) in
    omega (arith, c.requires.r_bound, looks_first a.part.now a.r some (sym c.at.ensures ∙ c.if-at-r.true))

pub returns-then-at-r-clause-place_value : goal.returns-then-at-r-clause-place_value
returns-then-at-r-clause-place_value t c =
    let a = c.args in
    let some : 0 < length a.part.now = omega (arith, c.if-m-eq0.false) in
    c.found_at.ensures.0 ∙ ap answered (sym (add-zero a.base))
    ∙ sym (sought_here a.base a.part.now a.r 0 c.requires.ascending some (sym c.at.ensures ∙ c.if-at-r.true))

pub returns-then-at-r-clause-looks_value : goal.returns-then-at-r-clause-looks_value
returns-then-at-r-clause-looks_value t c =
    let a = c.args in
    let some : 0 < length a.part.now = omega (arith, c.if-m-eq0.false) in
    omega (arith, c.found_at.ensures.1, looks_first a.part.now a.r some (sym c.at.ensures ∙ c.if-at-r.true))

pub overflow_add-seen-then-there-r : goal.overflow_add-seen-then-there-r
overflow_add-seen-then-there-r t c =
    let a = c.args in
    omega (arith, c.requires.r_bound, middle_two a.part.now a.r _ _ c.if-m-eq0.false c.at.ensures c.if-at-r.false c.at-there.ensures c.if-there-r.true)

pub returns-then-there-r-clause-place_value : goal.returns-then-there-r-clause-place_value
returns-then-there-r-clause-place_value t c =
    let a = c.args in
    let within : length a.part.now / 2 < length a.part.now = omega (arith, c.if-m-eq0.false) in
    c.found_at-then-there-r.ensures.0
    ∙ sym (sought_here a.base a.part.now a.r (length a.part.now / 2) c.requires.ascending within (sym c.at-there.ensures ∙ c.if-there-r.true))

pub returns-then-there-r-clause-looks_value : goal.returns-then-there-r-clause-looks_value
returns-then-there-r-clause-looks_value t c =
    let a = c.args in
    omega (arith, c.found_at-then-there-r.ensures.1, middle_two a.part.now a.r _ _ c.if-m-eq0.false c.at.ensures c.if-at-r.false c.at-there.ensures c.if-there-r.true)

pub overflow_add-seen-then-r-there : goal.overflow_add-seen-then-r-there
overflow_add-seen-then-r-there t c =
    let a = c.args in
    omega (arith, c.requires.r_bound, below_two a.part.now a.r _ _ c.if-m-eq0.false c.at.ensures c.if-at-r.false c.at-there.ensures c.if-there-r.false c.if-r-there.true)

pub search-requires : goal.search-requires
search-requires t c =
    let a = c.args in
    let xs = a.part.now in
    let some : 0 < length xs = omega (arith, c.if-m-eq0.false) in
    let l : looks xs a.r ≡ 2 + looks (take (length xs / 2) xs) a.r =
    below_two xs a.r _ _ c.if-m-eq0.false c.at.ensures c.if-at-r.false c.at-there.ensures c.if-there-r.false c.if-r-there.true in
    let b : length xs / 2 ≤ length xs = omega arith in
    let k : length (take (length xs / 2) xs) ≡ length xs / 2 = length-take-le _ _ b in
    (omega arith, (ascending-take (length xs / 2) xs b c.requires.ascending, (omega (arith, k, c.requires.part_bound), omega (arith, c.requires.r_bound, l))))

pub returns-then-r-there-clause-place_value : goal.returns-then-r-there-clause-place_value
returns-then-r-there-clause-place_value t c =
    let a = c.args in
    let xs = a.part.now in
    let within : length xs / 2 < length xs = omega (arith, c.if-m-eq0.false) in
    let h : a.r < get_or xs (length xs / 2) 0 = omega (arith, c.if-r-there.true, c.at-there.ensures) in
    c.search.ensures.place_value ∙ sym (sought_below a.base xs a.r (length xs / 2) c.requires.ascending within h)

pub returns-then-r-there-clause-looks_value : goal.returns-then-r-there-clause-looks_value
returns-then-r-there-clause-looks_value t c =
    let a = c.args in
    omega (arith, c.search.ensures.looks_value, below_two a.part.now a.r _ _ c.if-m-eq0.false c.at.ensures c.if-at-r.false c.at-there.ensures c.if-there-r.false c.if-r-there.true)

pub overflow_add-seen-2 : goal.overflow_add-seen-2
overflow_add-seen-2 t c =
    let a = c.args in
    omega (arith, c.requires.r_bound, above_two a.part.now a.r _ _ c.if-m-eq0.false c.at.ensures c.if-at-r.false c.at-there.ensures c.if-there-r.false c.if-r-there.false)

pub search-requires-2 : goal.search-requires-2
search-requires-2 t c =
    let a = c.args in
    let xs = a.part.now in
    let some : 0 < length xs = omega (arith, c.if-m-eq0.false) in
    let l : looks xs a.r ≡ 2 + looks (drop (length xs / 2 + 1) xs) a.r =
    above_two xs a.r _ _ c.if-m-eq0.false c.at.ensures c.if-at-r.false c.at-there.ensures c.if-there-r.false c.if-r-there.false in
    let k : length (drop (length xs / 2 + 1) xs) ≡ length xs - (length xs / 2 + 1) = length-drop (length xs / 2 + 1) xs in
    rw part_rest
    ((omega (arith, k), (ascending-drop (length xs / 2 + 1) xs c.requires.ascending, (omega (arith, k, c.requires.part_bound), omega (arith, c.requires.r_bound, l)))))

pub returns-clause-place_value : goal.returns-clause-place_value
returns-clause-place_value t c =
    let a = c.args in
    let xs = a.part.now in
    let within : length xs / 2 < length xs = omega (arith, c.if-m-eq0.false) in
    let h : get_or xs (length xs / 2) 0 < a.r = omega (arith, c.if-r-there.false, c.if-there-r.false, c.at-there.ensures) in
    let found = rw part_rest at c.search-2.ensures.place_value in
    found ∙ sym (sought_above a.base xs a.r (length xs / 2) c.requires.ascending within h)

pub returns-clause-looks_value : goal.returns-clause-looks_value
returns-clause-looks_value t c =
    let a = c.args in
    let found = rw part_rest at c.search-2.ensures.looks_value in
    omega (arith, found, above_two a.part.now a.r _ _ c.if-m-eq0.false c.at.ensures c.if-at-r.false c.at-there.ensures c.if-there-r.false c.if-r-there.false)
