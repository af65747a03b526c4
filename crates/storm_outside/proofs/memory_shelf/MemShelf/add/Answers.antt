use Rattle.storm_outside.proofs.Named.{file_of-new, file_of-kept}
use Rattle.storm_outside.proofs.memory_shelf.MemShelf.add.Goals as goal

pub returns-clause-held : goal.returns-clause-held
returns-clause-held c =
    rw c.in_ok-push.ensures.items (file_of-new c.self.inside.files.items c.args.name c.args.bytes (rw (← c.self.view_is) at c.requires))

pub returns-clause-kept : goal.returns-clause-kept
returns-clause-kept c = λ n b held.
    rw c.in_ok-push.ensures.items (file_of-kept c.self.inside.files.items (c.args.name, c.args.bytes) n b (rw (← c.self.view_is) at held))
