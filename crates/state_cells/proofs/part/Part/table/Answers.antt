use Rattle.state_cells.proofs.part.Part.table.Goals as goal

pub returns-clause-good : goal.returns-clause-good
returns-clause-good g c = rw (← c.self.view_is) c.table.ensures.good
