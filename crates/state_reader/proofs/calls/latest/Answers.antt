use Rattle.std.proofs.Common.{ap, ◌∙◌}
use Rattle.state_reader.specs.Calls.{seen_by}
use Rattle.state_reader.specs.Commits.{ends_in, value_by, writes_in}
use Rattle.state_reader.proofs.Commits.{ends_changes, writes_changes}
use Rattle.state_reader.proofs.calls.latest.Goals as goal

pub returns-clause-commits : goal.returns-clause-commits
returns-clause-commits c =
    c.look.ensures.commits ∙ ap (λ s. ends_in s.log.items) c.published.ensures ∙ ap ends_in c.requires ∙ ends_changes (seen_by c.args.writer.now)

pub returns-clause-value : goal.returns-clause-value
returns-clause-value c =
    c.look.ensures.value ∙ ap (λ s. value_by c.args.by (writes_in s.log.items) c.args.state c.args.key.now) c.published.ensures
    ∙ ap (λ l. value_by c.args.by l c.args.state c.args.key.now) (ap writes_in c.requires ∙ writes_changes (seen_by c.args.writer.now))
