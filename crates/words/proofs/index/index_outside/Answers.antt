use Prim.Native.Nat.{ℕ, ◌<◌, ◌≤◌}
use Rattle.std.proofs.Common.{◌≡◌, Bool, true, false, List, length, MatchBool, sym, arith, rules, tests}
use Rattle.std.specs.List.{HoldsAt, AllWithin}
use Rattle.std.proofs.lemmas.Iterator.{cases_from_any, YieldsList-from_slice}
use borrow.Author.Tests.{le-leb, lt-leb}
use Rattle.lists.specs.Test.{any-hit, any_all}
use Rattle.columns.specs.Columns.{outside, outside_at}
use Rattle.words.proofs.index.index_outside.Goals as goal

same : (n : ℕ) (r : Bool) (xs : List ℕ) → MatchBool r ((k : ℕ) × (k < length xs) × HoldsAt (λ x. n ≤ x) xs k) (AllWithin (λ x. x < n) xs 0 (length xs)) → r ≡ outside n xs
same n true xs h = sym (any-hit (outside_at n xs) (length xs) h.0 h.1 (le-leb _ _ (h.2 0)))
same n false xs h = sym (any_all (outside_at n xs) (length xs) (λ k l. lt-leb _ _ (h k 0 (omega arith) l)))

pub returns : goal.returns
returns c =
    let n = c.args.n in
    same n _ c.args.indices.now (cases_from_any _ _ _ (λ x. n ≤ x) (λ x. x < n) c.any.ensures.ran (YieldsList-from_slice c.args.indices.now cc) (λ x q k. search (rules, tests)) (λ x q k. search (rules, tests)))
