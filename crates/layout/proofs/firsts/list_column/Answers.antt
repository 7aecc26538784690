use Rattle.layout.proofs.LayoutLaws.{column_input, column_counted, column_listed}
use Rattle.layout.proofs.firsts.list_column.Goals as goal

pub list_bits-requires : goal.list_bits-requires
list_bits-requires c = column_input c.requires

pub returns : goal.returns
returns c = let O = c.requires in
    column_listed O c.list_bits.ensures (column_counted O c.list_bits.ensures)
