use Rattle.requests_reader.proofs.SizeLaws.{size_not, size_broken, size_large, size_unequal, size_many, size_passes}
use Rattle.requests_reader.proofs.read_size.Goals as goal

pub returns-in_err-line : goal.returns-in_err-line
returns-in_err-line c = rw c.from_residual.ensures (size_not _ _ (size_broken _ _ c.in_err-line.ensures))

pub returns-then-line-gt-MAX_DIMENSION : goal.returns-then-line-gt-MAX_DIMENSION
returns-then-line-gt-MAX_DIMENSION c = size_not _ _ (size_large _ _ _ _ _ _ c.in_ok-line.ensures c.if-line-gt-MAX_DIMENSION.true)

pub returns-then-line : goal.returns-then-line
returns-then-line c = size_not _ _ (size_unequal _ _ _ _ _ _ c.in_ok-line.ensures c.if-line-gt-MAX_DIMENSION.false c.if-line.true)

pub returns-then-line-gt-MAX_ENTRIES : goal.returns-then-line-gt-MAX_ENTRIES
returns-then-line-gt-MAX_ENTRIES c =
    size_not _ _ (size_many _ _ _ _ _ _ c.in_ok-line.ensures c.if-line-gt-MAX_DIMENSION.false c.if-line.false c.if-line-gt-MAX_ENTRIES.true)

pub returns : goal.returns
returns c = size_passes _ _ _ _ _ _ c.in_ok-line.ensures c.if-line-gt-MAX_DIMENSION.false c.if-line.false c.if-line-gt-MAX_ENTRIES.false
