use Rattle.parts_tests.proofs.Unmade.{none_made}
use Rattle.parts_tests.proofs.migrations.set_cell.Goals as goal

pub returns : goal.returns
returns c = none_made c.set.result c.args.stores.now c.set.new.self c.args.component c.args.part _ c.set.ensures.ok c.set.ensures.err c.requires
