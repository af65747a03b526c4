use Rattle.std.proofs.Common.{◌≡◌, ◌++◌, [], ◌∷◌, List, false, not, filter, map, length, ℕ, sym, ap, ap₂, subst, ◌∙◌, append_assoc}
use Rattle.std.specs.List.{AllByRecursion}
use Rattle.attempt_fates.specs.declared.fates.Attempt.{Attempt}
use Rattle.attempt_fates.specs.declared.fates.End.TheVariants as end
use Rattle.commit_order.proofs.Steps.{Within, within_parts, within_some}
use Rattle.commit_order.specs.Offices.{Settled, entry_ended, entry_spans}
use Rattle.commit_turns.specs.declared.wait.Wait.{Wait}
use Rattle.commit_turns.specs.Desks.{ended_at}
use Rattle.record_offers.specs.Offers.{OfferState, with_gone}
use Rattle.replay_pending.specs.InFlight.{InFlight, is_above}
use Rattle.replay_pending.specs.declared.entry.Entry.{Entry}
use Rattle.replay_pending.proofs.Late.{all_moved}
use Rattle.taken_records.specs.Taken.{put_back}
use Rattle.commit_order.proofs.drops.drop_above.Goals as goal

pub put_back-requires-clause-apart : goal.put_back-requires-clause-apart
put_back-requires-clause-apart c =
    let l = c.loop-entry in
    (subst (AllByRecursion (Within (length c.args.offers.now.records))) (c.end_above.ensures.first c.in-Some.entry c.in-Some.is)
    (within_some (length c.args.offers.now.records) (is_above c.args.first.txid) l.flight.pending l.invariant.within)).0.0

pub put_back-requires-clause-within : goal.put_back-requires-clause-within
put_back-requires-clause-within c =
    let l = c.loop-entry in
    rw l.invariant.offers
    ((subst (AllByRecursion (Within (length c.args.offers.now.records))) (c.end_above.ensures.first c.in-Some.entry c.in-Some.is)
    (within_some (length c.args.offers.now.records) (is_above c.args.first.txid) l.flight.pending l.invariant.within)).0.1)

pub returns-in_err-push-clause-within : goal.returns-in_err-push-clause-within
returns-in_err-push-clause-within c =
    let l = c.loop-entry in
    let p = is_above c.args.first.txid in
    let n = length c.args.offers.now.records in
    within_parts n p c.end_above.new.self.pending
    (subst (AllByRecursion (Within n)) (c.end_above.ensures.first c.in-Some.entry c.in-Some.is) (within_some n p l.flight.pending l.invariant.within)).1
    (subst (AllByRecursion (Within n)) (sym c.end_above.ensures.others) (within_some n (λ (x : Entry Settled). not (p x)) l.flight.pending l.invariant.within))

pub loop-entry-preserved : goal.loop-entry-preserved
loop-entry-preserved c =
    let l = c.loop-entry in
    let e = c.in-Some.entry in
    let now = c.end_above.new.self in
    let p = is_above c.args.first.txid in
    let n = length c.args.offers.now.records in
    let so = l.invariant.some in
    let first = c.end_above.ensures.first e c.in-Some.is in
    let rest = c.end_above.ensures.rest ∙ ap (λ (f : InFlight Settled). record f { pending = now.pending }) l.invariant.rest in
    let tick = c.tick_number-tick.ensures ∙ ap (λ (f : InFlight Settled). f.tick) rest in
    let item : c.ended.result ≡ entry_ended c.args.flight.now.tick (end.Dropped c.args.first) e =
    c.ended.ensures ∙ ap₂ (λ (n : ℕ) (w : Wait). ended_at n (end.Dropped c.args.first) w) tick c.into_wait.ensures in
    let gone = c.marks_are_set.ensures.only e.spans false l.offers.gone c.put_back.new.self.gone c.put_back.ensures.gone in
    record {
      rest = rest;
      offers = c.put_back.ensures.same ∙ ap (λ (o : OfferState). with_gone o c.put_back.new.self.gone) l.invariant.offers;
      within = within_parts n p now.pending
          (subst (AllByRecursion (Within n)) first (within_some n p l.flight.pending l.invariant.within)).1
          (subst (AllByRecursion (Within n)) (sym c.end_above.ensures.others) (within_some n (λ (x : Entry Settled). not (p x)) l.flight.pending l.invariant.within));
      some = record {
        done = so.done ++ c.ended.result ∷ [];
        fates = c.in_ok-push.ensures.ok ∙ ap (λ (xs : List Attempt). xs ++ c.ended.result ∷ []) so.fates ∙ append_assoc c.args.fates.now so.done (c.ended.result ∷ []);
        left = append_assoc so.done (c.ended.result ∷ []) (map (entry_ended c.args.flight.now.tick (end.Dropped c.args.first)) (filter p now.pending))
            ∙ ap (λ (x : Attempt). so.done ++ x ∷ map (entry_ended c.args.flight.now.tick (end.Dropped c.args.first)) (filter p now.pending)) item
            ∙ ap (λ (es : List (Entry Settled)). so.done ++ map (entry_ended c.args.flight.now.tick (end.Dropped c.args.first)) es) (sym first) ∙ so.left;
        back = ap (put_back (map entry_spans (filter p now.pending))) gone
            ∙ ap (λ (es : List (Entry Settled)). put_back (map entry_spans es) l.offers.gone) (sym first) ∙ so.back;
        others = c.end_above.ensures.others ∙ so.others;
      };
    }

pub returns-clause-flight : goal.returns-clause-flight
returns-clause-flight c =
    let l = c.loop-entry in
    let p = is_above c.args.first.txid in
    let f = c.args.flight.now in
    c.end_above.ensures.same c.in_default.is ∙ l.invariant.rest
    ∙ ap (λ (es : List (Entry Settled)). record f { pending = es }) (all_moved p f.pending l.flight.pending l.invariant.some.others (c.end_above.ensures.none c.in_default.is))
