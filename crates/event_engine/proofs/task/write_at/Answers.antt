use Rattle.std.proofs.Common.{rules}
use Rattle.std.proofs.lemmas.Result.{IfOk-weaker}
use Rattle.event_engine.proofs.WriteLemmas.{wrote_at}
use Rattle.event_engine.proofs.task.write_at.Goals as goal

pub returns : goal.returns
returns g c =
    IfOk-weaker c.write_at_once.result _ _
    (λ wrote did. wrote_at c.args.n c.args.a c.args.tasks.now.items c.args.ackers.now.items c.index_mut.result.now c.write_at_once.new.self c.index_mut-2.result.now c.write_at_once.new.at c.requires.within (search rules) c.requires.there (search rules) wrote did)
    c.write_at_once.ensures
