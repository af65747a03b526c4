use Rattle.state_parts.proofs.parts.Parts.migrate.Goals as goal

pub returns-clause-tables : goal.returns-clause-tables
returns-clause-tables g c = rw (← c.self.view_is) c.migrate_parts.ensures.tables
