use Rattle.storm_test_kit.proofs.Unmade.{none_made}
use Rattle.storm_test_kit.proofs.outside.hold.Goals as goal

pub returns : goal.returns
returns c = none_made c.set.result c.args.stores.now c.set.new.self c.args.component c.args.part _ c.set.ensures.ok c.set.ensures.err c.requires
