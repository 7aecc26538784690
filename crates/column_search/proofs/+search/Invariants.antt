use Rattle.std.proofs.Common.{length}
use Rattle.column_search.proofs.+search.Given as goal

abbrev pub decreases-search : goal.decreases-search
decreases-search l = length l.part.now
