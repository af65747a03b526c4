use Rattle.storm_outside.proofs.Named.{is_found}
use Rattle.storm_outside.proofs.memory_shelf.MemShelf.has.Goals as goal

pub returns : goal.returns
returns c =
    rw (← c.self.view_is) (is_found c.self.inside.files.items c.deref.result.now c.args.name.now _ _ c.deref.ensures.value c.find_file.ensures c.is_some.ensures)
