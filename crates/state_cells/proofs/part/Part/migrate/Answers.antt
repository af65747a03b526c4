use Rattle.std.proofs.lemmas.Result.{on_ok_weaker}
use Rattle.state_cells.proofs.MigrateLemmas.{part_good, part_known, part_none_bad, part_none_left, part_rows, part_same}
use Rattle.state_cells.proofs.part.Part.migrate.Goals as goal

pub invariant_of-self : goal.invariant_of-self
invariant_of-self g c = part_known g.C.CellStore.tells g.met.C.CellStore.one_map c.self.inside.kind c.self.inside.store c.migrate.new.store c.self.inside.known c.migrate.ensures.reached c.migrate.ensures.told_before c.self.invariant

pub returns-clause-none_left : goal.returns-clause-none_left
returns-clause-none_left g c = on_ok_weaker c.migrate.result
    (λ done cells told.
    let was = c.migrate.ensures.told_before cells told in
    part_none_left g.C.CellStore.tells g.met.C.CellStore.one_map c.self.inside.kind was.0 cells c.migrate.new.store (done was.0 was.1) told)
    c.migrate.ensures.done

pub returns-clause-good : goal.returns-clause-good
returns-clause-good g c = rw (← c.self.view_is) (on_ok_weaker c.migrate.result (λ done cells told. part_good g.C.CellStore.tells c.self.inside.kind cells c.migrate.new.store (done cells told)) c.migrate.ensures.done)

pub returns-clause-none_bad : goal.returns-clause-none_bad
returns-clause-none_bad g c = rw (← c.self.view_is) (on_ok_weaker c.migrate.result (λ done cells told. part_none_bad g.C.CellStore.tells c.self.inside.kind cells c.migrate.new.store (done cells told)) c.migrate.ensures.done)

pub returns-clause-stopped : goal.returns-clause-stopped
returns-clause-stopped g c = rw (← c.self.view_is) c.migrate.ensures.stopped

pub returns-clause-same : goal.returns-clause-same
returns-clause-same g c = rw (← c.self.view_is) (part_same g.C.CellStore.tells c.self.inside.kind c.self.inside.store c.migrate.new.store c.migrate.ensures.reached)

pub returns-clause-rows : goal.returns-clause-rows
returns-clause-rows g c = rw (← c.self.view_is) (part_rows g.C.CellStore.tells g.met.C.CellStore.one_map c.self.inside.kind c.self.inside.store c.migrate.new.store c.migrate.ensures.reached)
