use Rattle.std.proofs.Common.{◌<◌, ◌-◌, length, rules}
use Rattle.state_reader.specs.Pairs.{told_by}
use Rattle.state_reader.proofs.Several.{begins_at}
use Rattle.state_reader.proofs.handles.ToldCommits.of_pair.Goals as goal

pub returns : goal.returns
returns c =
    let within : c.args.number - 1 < length c.args.self.others.items = search rules in
    begins_at told_by c.args.self.others.items (told_by c.args.self.first) (c.args.number - 1) c.swap_remove.result c.args.self.later within c.swap_remove.ensures.value
