use mathlib.Core.Path.{sym}
use borrow.Author.Tests.{lt-ltb, le-ltb, le-leb, lt-leb}
use Rattle.refusal.proofs.Steps.{first_hit, first_skip, first_end}
use Rattle.dependency_chain.specs.Chain.{seek_steps}
use Rattle.dependency_chain.proofs.check_seek.Goals as goal

pub returns-then-scratch-chain_words : goal.returns-then-scratch-chain_words
unfolding seek_steps
returns-then-scratch-chain_words c = sym (first_hit _ _ _ (rw (← c.chain_words.ensures) (lt-ltb _ _ c.if-scratch-chain_words.true)))

pub returns-then-n-row : goal.returns-then-n-row
unfolding seek_steps
returns-then-n-row c = sym (first_skip _ _ _ (rw (← c.chain_words.ensures) (le-ltb _ _ c.if-scratch-chain_words.false)) (first_hit _ _ _ (le-leb _ _ c.if-n-row.true)))

pub returns-then-n-column : goal.returns-then-n-column
unfolding seek_steps
returns-then-n-column c = sym (first_skip _ _ _ (rw (← c.chain_words.ensures) (le-ltb _ _ c.if-scratch-chain_words.false)) (first_skip _ _ _ (lt-leb _ _ c.if-n-row.false) (first_hit _ _ _ (le-leb _ _ c.if-n-column.true))))

pub returns : goal.returns
unfolding seek_steps
returns c = sym (first_skip _ _ _ (rw (← c.chain_words.ensures) (le-ltb _ _ c.if-scratch-chain_words.false)) (first_skip _ _ _ (lt-leb _ _ c.if-n-row.false) (first_skip _ _ _ (lt-leb _ _ c.if-n-column.false) (first_end _))))
