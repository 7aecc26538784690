use borrow.Author.Rules.{rules}
use Rattle.requests_reader.proofs.RequestLaws.{diagonal_start, diagonal_more, diagonal_end}
use Rattle.requests_reader.proofs.requests.store_diagonals.Goals as goal

pub loop-k-init : goal.loop-k-init
loop-k-init c = diagonal_start _ _ _

pub loop-k-preserved : goal.loop-k-preserved
loop-k-preserved c = let l = c.loop-k in
    diagonal_more _ _ _ _ _ _ l.invariant c.loop-k-test.true c.requires.1 c.requires.2

pub returns : goal.returns
returns c = diagonal_end _ _ _ _ _ _ c.loop-k.invariant (search rules) (search rules)
