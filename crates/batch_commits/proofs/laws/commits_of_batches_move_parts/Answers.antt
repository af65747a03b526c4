use Rattle.batch_commits.proofs.Moving.{stand_broken, stand_done, stand_first}
use Rattle.batch_commits.proofs.laws.commits_of_batches_move_parts.Goals as goal

pub returns-clause-first : goal.returns-clause-first
returns-clause-first g c = λ t custom cut.
    stand_first t custom cut g.C.CellStore.tells (record {
      begin = c.parts_over_empty_stores_begin.ensures;
      moved = c.commits_move_all_parts_on.ensures.moved;
      begun = c.commits_move_all_parts_on.ensures.begun;
      stand = c.commits_move_all_parts_on.ensures.stand;
      placed = c.writes_of_trees_are_placed.ensures.placed;
      joined = c.writes_of_joined_rows.ensures;
    })

pub returns-clause-done : goal.returns-clause-done
returns-clause-done g c = λ t custom cut.
    stand_done t custom cut g.C.CellStore.tells (record {
      begin = c.parts_over_empty_stores_begin.ensures;
      moved = c.commits_move_all_parts_on.ensures.moved;
      begun = c.commits_move_all_parts_on.ensures.begun;
      stand = c.commits_move_all_parts_on.ensures.stand;
      placed = c.writes_of_trees_are_placed.ensures.placed;
      joined = c.writes_of_joined_rows.ensures;
    })

pub returns-clause-broken_off : goal.returns-clause-broken_off
returns-clause-broken_off g c = λ t custom cut.
    stand_broken t custom cut g.C.CellStore.tells (record {
      begin = c.parts_over_empty_stores_begin.ensures;
      moved = c.commits_move_all_parts_on.ensures.moved;
      begun = c.commits_move_all_parts_on.ensures.begun;
      stand = c.commits_move_all_parts_on.ensures.stand;
      placed = c.writes_of_trees_are_placed.ensures.placed;
      joined = c.writes_of_joined_rows.ensures;
    })
