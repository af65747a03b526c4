use Rattle.std.proofs.Common.{◌≡◌, Some, false, not, length, sym, ap, ◌∙◌}
use Rattle.std.specs.Option.{option_map}
use Rattle.commit_order.proofs.Steps.{abort_step, waits-found, within_found, within_some}
use Rattle.commit_order.specs.Offices.{Settled, wait_of}
use Rattle.commit_turns.specs.declared.wait.Wait.{Wait}
use Rattle.record_offers.specs.Offers.{with_gone}
use Rattle.replay_pending.specs.InFlight.{is_of_root}
use Rattle.replay_pending.specs.declared.entry.Entry.{Entry}
use Rattle.taken_records.specs.Taken.{marked}
use Rattle.commit_order.proofs.office.Office.abort.Goals as goal

pub put_back-requires-clause-apart : goal.put_back-requires-clause-apart
put_back-requires-clause-apart c =
    let f = c.self.inside in
    (within_found (length f.offers.records) (is_of_root c.args.root) f.flight.pending c.in-Some.entry c.self.invariant.spans (sym c.abort.ensures.entry ∙ c.in-Some.is)).0

pub put_back-requires-clause-within : goal.put_back-requires-clause-within
put_back-requires-clause-within c =
    let f = c.self.inside in
    (within_found (length f.offers.records) (is_of_root c.args.root) f.flight.pending c.in-Some.entry c.self.invariant.spans (sym c.abort.ensures.entry ∙ c.in-Some.is)).1

pub invariant_of-self : goal.invariant_of-self
invariant_of-self c =
    let f = c.self.inside in
    rw (c.in-Some.ensures.aborted, c.put_back.ensures.same) (record {
      cap = c.self.invariant.cap;
      buckets = c.self.invariant.buckets;
      spans = within_some (length f.offers.records) (λ (e : Entry Settled). not (is_of_root c.args.root e)) f.flight.pending c.self.invariant.spans;
    })

pub returns-in-Some-clause-taken : goal.returns-in-Some-clause-taken
returns-in-Some-clause-taken c = λ like v is same.
    let f = c.self.inside in
    let here = rw (← c.self.view_is) at is in
    let all : option_map wait_of c.abort.result ≡ Some v =
    ap (option_map wait_of) c.abort.ensures.entry ∙ waits-found f.flight.pending like v c.args.root c.pending_are_few.ensures.once here same in
    ap Some c.into_wait.ensures ∙ sym (ap (option_map wait_of) c.in-Some.is) ∙ all

pub returns-in-Some-clause-left : goal.returns-in-Some-clause-left
returns-in-Some-clause-left c = λ w is.
    let f = c.self.inside in
    let spans : c.in-Some.entry.spans ≡ w.spans = ap (λ (v : Wait). v.spans) (sym c.into_wait.ensures ∙ same_some c.into_wait.result w is) in
    let back = c.put_back.ensures.same ∙ ap (with_gone f.offers) (c.marks_are_set.ensures.only c.in-Some.entry.spans false f.offers.gone c.put_back.new.self.gone c.put_back.ensures.gone) in
    rw (← c.self.view_is)
    (abort_step f.plan.now f.began f.offers f.committed f.flight c.abort.new.self f.out f.exhausted c.args.root w.spans c.put_back.new.self c.in-Some.ensures.aborted
    (back ∙ ap (λ spans. with_gone f.offers (marked false spans f.offers.gone)) spans))
  where
    same_some : (a b : Wait) → Some a ≡ Some b → a ≡ b
    same_some a b e = cc

pub returns-in-None-clause-taken : goal.returns-in-None-clause-taken
returns-in-None-clause-taken c = λ like v is same.
    let f = c.self.inside in
    let here = rw (← c.self.view_is) at is in
    sym (ap (option_map wait_of) c.in-None.is) ∙ ap (option_map wait_of) c.abort.ensures.entry ∙ waits-found f.flight.pending like v c.args.root c.pending_are_few.ensures.once here same
