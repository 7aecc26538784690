use borrow.Author.Rules.{rules}
use Rattle.selected_entry.proofs.Read.{ready_answered, looked-refused, looked-large, looked_found}
use Rattle.selected_entry.proofs.look_up.Goals as goal

-- src/lib.rt:40:31
pub overflow_add-end : goal.overflow_add-end
overflow_add-end c = let h = ready_answered c.args.n c.args.row c.args.col c.args.result_starts.now c.args.result_rows.now c.args.result_values.now c.args.answer _
    c.in-Ok.is c.requires in
    search rules

-- src/lib.rt:21:1
pub returns-in-Err : goal.returns-in-Err
returns-in-Err c = let a = c.args in
    looked-refused a.n a.row a.col a.result_starts.now a.result_rows.now a.result_values.now a.answer _ c.in-Err.is

-- src/lib.rt:21:1
pub returns-in-ClosureTooLarge : goal.returns-in-ClosureTooLarge
returns-in-ClosureTooLarge c = let a = c.args in
    looked-large a.n a.row a.col a.result_starts.now a.result_rows.now a.result_values.now a.answer _ c.in-Ok.is
    c.in-ClosureTooLarge.is

-- src/lib.rt:21:1
pub returns-in-Complete : goal.returns-in-Complete
returns-in-Complete c = let a = c.args in
    looked_found a.n a.row a.col a.result_starts.now a.result_rows.now a.result_values.now a.answer _ c.in-Ok.is
    c.in-Complete.is _ c.get-entry.ensures
