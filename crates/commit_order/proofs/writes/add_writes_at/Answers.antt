use Rattle.std.proofs.Common.{rules, ◌≤◌, ◌++◌, length, ap, sym, ◌∙◌}
use Rattle.std.proofs.lemmas.List.{append-nil}
use Rattle.std.proofs.lemmas.Option.{slice_get_past}
use Rattle.commit_writes.specs.Writes.{done_of, writes_in}
use Rattle.commit_order.proofs.writes.add_writes_at.Goals as goal

pub returns-else-place-len : goal.returns-else-place-len
returns-else-place-len c =
    let past : length c.args.list.now ≤ c.args.place = search rules in
    sym (ap (λ o. c.args.into.now ++ writes_in (done_of o)) (slice_get_past c.args.list.now c.args.place past) ∙ append-nil c.args.into.now)
