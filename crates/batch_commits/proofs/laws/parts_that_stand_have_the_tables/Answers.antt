use Rattle.batch_commits.proofs.Moving.{tables_stand}
use Rattle.batch_commits.proofs.laws.parts_that_stand_have_the_tables.Goals as goal

pub returns : goal.returns
returns g c = λ t custom cut.
    tables_stand t custom cut g.C.CellStore.tells (record {
      tables = c.tables_of_parts_are_tables_of_writes.ensures;
      placed = c.writes_of_trees_are_placed.ensures.placed;
      one_part = c.writes_of_trees_are_placed.ensures.one_part;
    })
