use Rattle.column_search.proofs.find_in_column.Goals as goal

pub search_between-requires : goal.search_between-requires
search_between-requires c = rw (c.at.ensures, c.at-2.ensures) c.requires.column

pub returns : goal.returns
returns c = rw (← c.at.ensures, ← c.at-2.ensures) c.search_between.ensures
