use mathlib.Core.Path.{sym}
use Rattle.requests_reader.proofs.RequestLaws.{count_none, count_some}
use Rattle.requests_reader.proofs.requests.request_count.Goals as goal

pub returns-then-count-eq0 : goal.returns-then-count-eq0
returns-then-count-eq0 c = sym (count_none _ _ c.if-count-eq0.true)

pub returns : goal.returns
returns c = sym (count_some _ _ c.if-count-eq0.false)
