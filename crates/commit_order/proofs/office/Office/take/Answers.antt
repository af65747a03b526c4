use Rattle.std.proofs.Common.{◌≡◌, Some, sym, ap, ◌∙◌}
use Rattle.std.specs.Option.{option_map}
use Rattle.commit_order.proofs.Steps.{end_step, waits-found, within_some}
use Rattle.commit_order.specs.Offices.{Settled}
use Rattle.replay_pending.specs.InFlight.{is_of_root}
use Rattle.replay_pending.specs.declared.entry.Entry.{Entry}
use Rattle.std.proofs.Common.{not, length}
use Rattle.commit_order.specs.Offices.{wait_of}
use Rattle.commit_order.proofs.office.Office.take.Goals as goal
use Rattle.commit_order.proofs.office.Office.take.Goals.{in-Some, in-None}

pub returns-clause-taken : goal.returns-clause-taken
returns-clause-taken c = λ like v is same.
    let f = c.self.inside in
    let here = rw (← c.self.view_is) at is in
    let all : option_map wait_of c.end.result ≡ Some v =
    ap (option_map wait_of) c.end.ensures.entry ∙ waits-found f.flight.pending like v c.args.root c.pending_are_few.ensures.once here same in
    elim c.match-end.branch [
      | in-Some w ↦ w.result-is ∙ ap Some w.into_wait.ensures ∙ sym (ap (option_map wait_of) w.in-Some.is) ∙ all
      | in-None w ↦ w.result-is ∙ sym (ap (option_map wait_of) w.in-None.is) ∙ all
    ]

pub returns-clause-left : goal.returns-clause-left
returns-clause-left c =
    let f = c.self.inside in
    rw (← c.self.view_is)
    (end_step f.plan.now f.began f.offers f.committed f.flight c.end.new.self f.out f.exhausted c.args.root c.end.ensures.ended)

pub invariant_of-self : goal.invariant_of-self
invariant_of-self c =
    let f = c.self.inside in
    rw c.end.ensures.ended (record {
      cap = c.self.invariant.cap;
      buckets = c.self.invariant.buckets;
      spans = within_some (length f.offers.records) (λ (e : Entry Settled). not (is_of_root c.args.root e)) f.flight.pending c.self.invariant.spans;
    })
