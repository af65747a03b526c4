use Rattle.storm_test_kit.proofs.Unmade.{none_made}
use Rattle.storm_test_kit.proofs.outside.refuse.Goals as goal

pub returns : goal.returns
returns c = none_made c.fail.result c.args.stores.now c.fail.new.self c.args.component c.args.part _ c.fail.ensures.ok c.fail.ensures.err c.requires
