use native.Mathlib.Omega.{arith}
use Prim.Native.Nat.{ℕ, ◌-◌}
use mathlib.Core.Path.{◌≡◌, ap, ◌∙◌}
use lib.ListN.{length}
use mathlib.Core.List.{◌++◌}
use lib.ListN.{take, drop}
use lib.Seq.{length-take-le}
use Rattle.pairs.specs.Scratch.{mark_words}
use Rattle.requests_writer.proofs.Writer.{write_checks_small}
use Rattle.requests_writer.proofs.WriterLaws.{checked_input, scratch_short, scratch_part}
use Rattle.requests_writer.proofs.write_accepted.Goals as goal

pub mark_words-words-requires : goal.mark_words-words-requires
mark_words-words-requires c = write_checks_small _ _ _ c.requires

pub returns-then-scratch-words : goal.returns-then-scratch-words
returns-then-scratch-words c = let a = c.args in
    scratch_short a.n a.rows.now a.columns.now a.output.now a.scratch.now c.requires (omega (arith, c.if-scratch-words.true, c.mark_words-words.ensures.0))

pub write_with-requires : goal.write_with-requires
write_with-requires c =
    let a = c.args in
    let e : c.mark_words-words.result - 0 ≡ mark_words a.n = omega (arith, c.mark_words-words.ensures.0) in
    checked_input _ _ _ c.requires _ (ap (λ (k : ℕ). length (take k a.scratch.now)) e ∙ length-take-le (mark_words a.n) a.scratch.now (omega (arith, c.if-scratch-words.false, e)))

pub returns : goal.returns
returns c =
    let a = c.args in
    let e : c.mark_words-words.result - 0 ≡ mark_words a.n = omega (arith, c.mark_words-words.ensures.0) in
    scratch_part a.n a.rows.now a.columns.now a.output.now a.scratch.now c.requires (omega (arith, c.if-scratch-words.false, e))
    (ap (λ (k : ℕ). take k a.scratch.now) e)
    (ap (λ (k : ℕ). c.write_with.new.marks ++ drop k a.scratch.now) e)
    c.write_with.ensures
