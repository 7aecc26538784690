use Prim.Native.Nat.{ℕ}
use mathlib.Core.Path.{◌≡◌, ap, ◌∙◌}
use mathlib.Core.List.{List, [], ◌∷◌}
use lib.ListN.{get_or}
use borrow.Author.Tests.{eq-eqb}
use Rattle.verdicts.specs.Number.{checked_number-reply, reply_number}
use Rattle.starred_table.specs.Table.{permutations}
use Rattle.starred.proofs.permutations.repeated.Goals as goal

-- the list that the call leaves
left-After-expect : (c : goal.After-expect) → (i : ℕ) → get_or c.from_orig_to_perm-reply.new.perm_to_orig i 0 ≡ get_or (7 ∷ 7 ∷ 7 ∷ []) i 0
left-After-expect c i = ap (λ (l : List ℕ). get_or l i 0) (c.from_orig_to_perm-reply.ensures.inverse_after ∙ permutations.repeated_untouched)

-- the list that the call leaves
left-After-expect-2 : (c : goal.After-expect-2) → (i : ℕ) → get_or c.from_orig_to_perm-reply.new.perm_to_orig i 0 ≡ get_or (7 ∷ 7 ∷ 7 ∷ []) i 0
left-After-expect-2 c i = ap (λ (l : List ℕ). get_or l i 0) (c.from_orig_to_perm-reply.ensures.inverse_after ∙ permutations.repeated_untouched)

-- the list that the call leaves
left-After-expect-3 : (c : goal.After-expect-3) → (i : ℕ) → get_or c.from_orig_to_perm-reply.new.perm_to_orig i 0 ≡ get_or (7 ∷ 7 ∷ 7 ∷ []) i 0
left-After-expect-3 c i = ap (λ (l : List ℕ). get_or l i 0) (c.from_orig_to_perm-reply.ensures.inverse_after ∙ permutations.repeated_untouched)

pub expect-requires : goal.expect-requires
expect-requires c = eq-eqb _ 11 (c.checked_number.ensures ∙ checked_number-reply c.from_orig_to_perm-reply.result ∙ ap reply_number (c.from_orig_to_perm-reply.ensures.replies ∙ permutations.repeated_refused))

pub expect-requires-2 : goal.expect-requires-2
expect-requires-2 c = eq-eqb _ 7 (left-After-expect c 0)

pub expect-requires-3 : goal.expect-requires-3
expect-requires-3 c = eq-eqb _ 7 (left-After-expect-2 c 1)

pub expect-requires-4 : goal.expect-requires-4
expect-requires-4 c = eq-eqb _ 7 (left-After-expect-3 c 2)
