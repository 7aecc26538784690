use lib.Ieee.{of_bits, of_int}
use Rattle.starred.proofs.values.f2_entry.Goals as goal

-- src/values.rt:16:1
pub returns : goal.returns
unfolding of_bits of_int
returns c = c.entry.ensures
