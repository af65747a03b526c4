use Rattle.state_cells.proofs.part.Part.commit.Goals as goal

pub returns-clause-ok : goal.returns-clause-ok
returns-clause-ok g c = rw (← c.self.view_is, ← c.groups-groups.ensures.same) c.commit_batch.ensures.ok

pub returns-clause-err : goal.returns-clause-err
returns-clause-err g c = rw (← c.self.view_is, ← c.groups-groups.ensures.same) c.commit_batch.ensures.err
