use Rattle.std.proofs.Common.{◌≡◌, ◌++◌, [], ◌∷◌, List, Bool, false, map, length, sym, ap, ap₂, subst, ◌∙◌, append_assoc}
use Rattle.std.specs.List.{AllByRecursion}
use Rattle.std.specs.Vec.Iter.{into_iter_items}
use Rattle.std.proofs.lemmas.List.{map-append}
use Rattle.attempt_fates.specs.declared.fates.Attempt.{Attempt}
use Rattle.attempt_fates.specs.declared.fates.End.TheVariants as end
use Rattle.commit_order.proofs.Steps.{Within}
use Rattle.commit_order.specs.Offices.{Settled, entry_ended, entry_spans}
use Rattle.commit_turns.proofs.Aborting.{back_append}
use Rattle.record_offers.specs.Offers.{OfferState, with_gone}
use Rattle.replay_pending.specs.declared.entry.Entry.{Entry}
use Rattle.commit_turns.specs.declared.wait.Wait.{Wait}
use Rattle.commit_turns.specs.Desks.{ended_at}
use Rattle.taken_records.specs.Taken.{marked, put_back}
use Rattle.tuple_account.proofs.counted_items.Each.{each-back}
use Rattle.commit_order.proofs.ticks.time_out.Goals as goal

pub put_back-requires-clause-apart : goal.put_back-requires-clause-apart
put_back-requires-clause-apart c =
    let l = c.loop-entry in
    let all = l.invariant.all ∙ ap (λ (es : List (Entry Settled)). l.yielded ++ es) c.in-Some.ensures.steps.0 in
    (each-back (Within (length c.args.offers.now.records)) l.yielded (c.in-Some.entry ∷ into_iter_items c.next.new.self) (subst (AllByRecursion (Within (length c.args.offers.now.records))) all c.requires)).0.0

pub put_back-requires-clause-within : goal.put_back-requires-clause-within
put_back-requires-clause-within c =
    let l = c.loop-entry in
    let all = l.invariant.all ∙ ap (λ (es : List (Entry Settled)). l.yielded ++ es) c.in-Some.ensures.steps.0 in
    rw l.invariant.back
    ((each-back (Within (length c.args.offers.now.records)) l.yielded (c.in-Some.entry ∷ into_iter_items c.next.new.self) (subst (AllByRecursion (Within (length c.args.offers.now.records))) all c.requires)).0.1)

pub loop-entry-preserved : goal.loop-entry-preserved
loop-entry-preserved c =
    let l = c.loop-entry in
    let e = c.in-Some.entry in
    let f = entry_ended c.args.tick end.TimedOut in
    let item : c.ended.result ≡ f e = c.ended.ensures ∙ ap (λ (w : Wait). ended_at c.args.tick end.TimedOut w) c.into_wait.ensures in
    let gone = c.marks_are_set.ensures.only e.spans false l.offers.gone c.put_back.new.self.gone c.put_back.ensures.gone in
    let before = put_back (map entry_spans l.yielded) c.args.offers.now.gone in
    record {
      told = c.in_ok-push.ensures.ok ∙ ap₂ (λ (xs : List Attempt) (x : Attempt). xs ++ x ∷ []) l.invariant.told item
          ∙ append_assoc c.args.fates.now (map f l.yielded) (f e ∷ []) ∙ ap (λ (xs : List Attempt). c.args.fates.now ++ xs) (sym (map-append f l.yielded (e ∷ [])));
      back = c.put_back.ensures.same
          ∙ ap₂ (λ (o : OfferState) (marks : List Bool). with_gone o marks) l.invariant.back gone
          ∙ ap (λ (marks : List Bool). with_gone c.args.offers.now (marked false e.spans marks)) (ap (λ (o : OfferState). o.gone) l.invariant.back)
          ∙ ap (with_gone c.args.offers.now) (sym (ap (λ xs. put_back xs c.args.offers.now.gone) (map-append entry_spans l.yielded (e ∷ [])) ∙ back_append (map entry_spans l.yielded) (e.spans ∷ []) c.args.offers.now.gone));
      all = l.invariant.all ∙ ap (λ (es : List (Entry Settled)). l.yielded ++ es) c.in-Some.ensures.steps.0 ∙ sym (append_assoc l.yielded (e ∷ []) (into_iter_items c.next.new.self));
    }
