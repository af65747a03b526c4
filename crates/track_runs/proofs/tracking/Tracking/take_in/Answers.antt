use Rattle.std.proofs.Common.{◌≡◌, [], ◌∷◌, ◌++◌, rules}
use Rattle.std.proofs.lemmas.Result.{on_ok_weaker}
use Rattle.track_runs.proofs.Filling.{counts_filled}
use Rattle.track_runs.proofs.tracking.Tracking.take_in.Goals as goal

pub returns-clause-counts : goal.returns-clause-counts
returns-clause-counts g c =
    let filled : c.replace-full.result.items ≡ c.args.window.now.items ++ c.args.row ∷ [] = search rules in
    let emptied : c.replace-full.new.dest.items ≡ [] = search rules in
    on_ok_weaker c.track_some.result (λ adds. λ rest state key. rw emptied
    (counts_filled c.args.self.now.plan.now (g.O.RowOp.meaning c.args.self.now.custom.now) c.args.tallies.now c.track_some.new.tallies c.args.window.now.items c.replace-full.result.items c.args.row rest state key filled adds)) c.track_some.ensures.counts
