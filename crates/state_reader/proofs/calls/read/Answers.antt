use Rattle.std.proofs.Common.{length, ap, ◌∙◌, sym}
use Rattle.left_right.specs.Sides.{view}
use Rattle.state_reader.specs.Commits.{ends_in, value_after, value_by, writes_in}
use Rattle.state_reader.proofs.Commits.{ends_changes, writes_changes}
use Rattle.state_reader.proofs.Keeping.{sees}
use Rattle.state_reader.proofs.calls.read.Goals as goal

pub enter_as-requires : goal.enter_as-requires
enter_as-requires g c x = sees _ _ x

pub returns-in-Ok-clause-commits : goal.returns-in-Ok-clause-commits
returns-in-Ok-clause-commits g c =
    c.look-seen.ensures.commits ∙ ap (λ s. ends_in s.log.items) c.get.ensures ∙ ap ends_in c.in-Ok.ensures.1.3 ∙ ends_changes (view c.in-Ok.reading.place).seen ∙ ap (λ v. length v.seen) (sym c.leave.ensures.1)

pub returns-in-Ok-clause-value : goal.returns-in-Ok-clause-value
returns-in-Ok-clause-value g c =
    c.look-seen.ensures.value ∙ ap (λ s. value_by c.args.by (writes_in s.log.items) c.args.state c.args.key.now) c.get.ensures
    ∙ ap (λ l. value_by c.args.by l c.args.state c.args.key.now) (ap writes_in c.in-Ok.ensures.1.3 ∙ writes_changes (view c.in-Ok.reading.place).seen)
    ∙ ap (λ v. value_after c.args.by v.seen c.args.state c.args.key.now) (sym c.leave.ensures.1)
