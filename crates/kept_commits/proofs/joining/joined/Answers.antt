use Rattle.std.proofs.lemmas.Result.{IfOk-weaker}
use Rattle.kept_commits.proofs.Runs.{both_stand}
use Rattle.kept_commits.proofs.joining.joined.Goals as goal

pub returns-clause-numbers : goal.returns-clause-numbers
returns-clause-numbers c =
    IfOk-weaker c.runs_of.result _ _
    (λ runs stand. both_stand c.args.some.now c.args.others.now c.in_ok-spans.spans.items c.in_ok-spans.ensures c.sort.new.spans.items c.deref.result.now runs.items c.sort.ensures.same c.deref.ensures.value stand)
    c.runs_of.ensures.numbers
