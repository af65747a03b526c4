use Rattle.output_collector.specs.Sending.{sent}
use Rattle.output_collector.proofs.Sending.{Sends-all}
use Rattle.output_collector.proofs.collector.Collector.send_last.Goals as goal

pub returns-in_ok-send_from-in-All-clause-sends : goal.returns-in_ok-send_from-in-All-clause-sends
returns-in_ok-send_from-in-All-clause-sends g c =
    Sends-all g.I.Ids.tells c.args.below.now.root c.args.below.now.path.now c.args.route.component c.args.row c.args.route.targets c.in-All.first c.in-All.count c.send-in-All.result
    (sent c.args.self.now c.args.edges.now c.args.into.now) (sent c.send_from.new.self c.send_from.new.edges c.send_from.new.into) (sent c.send-in-All.new.self c.send-in-All.new.edges c.send-in-All.new.into)
    c.in-All.is c.requires c.in_ok-send_from-in-All.ensures.sends c.send-in-All.ensures.sends
