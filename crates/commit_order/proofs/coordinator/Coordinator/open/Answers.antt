use Rattle.std.proofs.Common.{sym, ◌∙◌}
use Rattle.commit_order.proofs.Ending.{on_ok}
use Rattle.commit_order.proofs.Opening.{adds_opening}
use Rattle.commit_order.specs.Orders.{collector_of, cut_of}
use Rattle.tuple_account.specs.Histories.{acker_of}
use Rattle.commit_order.proofs.coordinator.Coordinator.open.Goals as goal

pub returns-clause-begun : goal.returns-clause-begun
returns-clause-begun g c =
    let emitted = c.in_ok-emitted.emitted in
    let sent = rw c.new-path.ensures at c.in_ok-emitted.ensures.parcels in
    let made = rw c.new-path.ensures at c.in_ok-emitted.ensures.edges in
    on_ok c.push.result
    (λ pushed w of_root of_rows. adds_opening g.I.Ids.tells (cut_of c.args.self.now) w (collector_of c.args.self.now) c.emit.new.self c.args.into.now c.emit.new.into
    c.push.new.self emitted.edges emitted.draw c.acker_of.result c.args.begun.rows c.requires.from (sym of_rows) (rw (← of_root) at sent) (rw (← of_root) at made)
    c.in_ok-emitted.ensures.enough c.in_ok-emitted.ensures.draw c.in_ok-emitted.ensures.drawn c.in_ok-emitted.ensures.given
    c.in_ok-emitted.ensures.outlet c.in_ok-emitted.ensures.source
    (c.acker_of.ensures ∙ (λ i. acker_of (sym c.requires.topology i) (sym of_root i))) (rw (← of_root) at pushed))
    c.push.ensures.ok
