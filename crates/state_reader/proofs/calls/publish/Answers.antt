use Rattle.std.proofs.Common.{List, ◌++◌, ap, sym, ◌∙◌}
use Rattle.left_right.specs.Sides.{view}
use Rattle.state_reader.specs.declared.change.Change.{Change}
use Rattle.state_reader.specs.Commits.{changes_of}
use Rattle.state_reader.specs.Calls.{pending, seen_by}
use Rattle.state_reader.proofs.Commits.{absorbed}
use Rattle.state_reader.proofs.Keeping.{publishes, made_pending, after_publish}
use Rattle.state_reader.proofs.calls.publish.Goals as goal

pub publish_as-requires : goal.publish_as-requires
publish_as-requires g c next is =
    let writer = c.append_all.new.writer in
    let ops = made_pending (pending c.args.writer) (pending writer) c.args.commit.now c.in-Ok.ensures.pending c.requires.ready.1 in
    publishes _ _ writer.desk.shown.value next c.args.commit.now (is ∙ absorbed writer.desk.shown.value.log.items (pending writer) ∙ ap (λ (l : List Change). writer.desk.shown.value.log.items ++ l) ops)

pub returns-in-Ok : goal.returns-in-Ok
returns-in-Ok g c =
    let old = c.args.writer in
    let writer = c.append_all.new.writer in
    let now = c.publish_as.result.0 in
    let ops = made_pending (pending old) (pending writer) c.args.commit.now c.in-Ok.ensures.pending c.requires.ready.1 in
    let was = ap (λ d. d.shown.value.log.items) c.append_all.ensures.desk ∙ c.requires.ready.0 ∙ ap (λ d. changes_of d.place.me.0.client.seen) (sym c.append_all.ensures.desk) in
    record { shown = after_publish (view writer.desk.place) (view now.desk.place) writer.desk.shown.value now.desk.shown.value (pending writer) (pending now) c.args.commit.now (seen_by old) (ap (λ d. d.place.me.0.client.seen) c.append_all.ensures.desk) was ops c.publish_as.result.1 c.publish_as.ensures.values c.publish_as.ensures.rule }
