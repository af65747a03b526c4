use Rattle.std.proofs.Common.{length, ap, ◌∙◌, sym, subst}
use Rattle.left_right.specs.Sides.{view}
use Rattle.state_reader.specs.Views.{Begins}
use Rattle.state_reader.specs.Commits.{ends_in, value_after, value_by, writes_in}
use Rattle.state_reader.proofs.Commits.{ends_changes, writes_changes}
use Rattle.state_reader.proofs.Keeping.{sees, begins_trans, later_store}
use Rattle.state_reader.proofs.calls.read_told.Goals as goal

pub enter_as-requires : goal.enter_as-requires
enter_as-requires g c x = sees _ _ x

pub enter_as-requires-in-loop : goal.enter_as-requires-in-loop
enter_as-requires-in-loop g c x = sees _ _ x

pub returns-then-begins_with-clause-later : goal.returns-then-begins_with-clause-later
returns-then-begins_with-clause-later g c =
    subst (λ v. Begins (view c.args.reader.place).seen v.seen) (sym c.leave-then-begins_with.ensures.1)
    (later_store (view c.args.reader.place).seen (view c.in-Ok.first.place).seen (view c.in-Ok-enter_as.second.place).seen c.get-in-Ok-enter_as.result.now c.in-Ok.first.part.value c.get.result.now c.in-Ok-enter_as.second.part.value
    (begins_trans (view c.args.reader.place).seen (view c.loop.reader.place).seen (view c.in-Ok.first.place).seen c.loop.invariant.2 c.in-Ok.ensures.1.0) c.in-Ok.ensures.1.3 c.in-Ok-enter_as.ensures.1.3 c.get-in-Ok-enter_as.ensures c.get.ensures (c.begins_with.ensures.0 c.if-begins_with.true))

pub returns-then-begins_with-clause-commits : goal.returns-then-begins_with-clause-commits
returns-then-begins_with-clause-commits g c =
    c.look-seen.ensures.commits ∙ ap (λ s. ends_in s.log.items) c.get-then-begins_with.ensures ∙ ap ends_in c.in-Ok-enter_as.ensures.1.3 ∙ ends_changes (view c.in-Ok-enter_as.second.place).seen ∙ ap (λ v. length v.seen) (sym c.leave-then-begins_with.ensures.1)

pub returns-then-begins_with-clause-value : goal.returns-then-begins_with-clause-value
returns-then-begins_with-clause-value g c =
    c.look-seen.ensures.value ∙ ap (λ s. value_by c.args.by (writes_in s.log.items) c.args.state c.args.key.now) c.get-then-begins_with.ensures
    ∙ ap (λ l. value_by c.args.by l c.args.state c.args.key.now) (ap writes_in c.in-Ok-enter_as.ensures.1.3 ∙ writes_changes (view c.in-Ok-enter_as.second.place).seen)
    ∙ ap (λ v. value_after c.args.by v.seen c.args.state c.args.key.now) (sym c.leave-then-begins_with.ensures.1)
