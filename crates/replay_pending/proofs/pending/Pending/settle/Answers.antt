use Rattle.std.proofs.Common.{ap, sym}
use Rattle.std.specs.Prelude.{is_some}
use Rattle.replay_pending.specs.InFlight.{is_timed_of}
use Rattle.replay_pending.proofs.Found.{found_by, none_by, settled_there}
use Rattle.replay_pending.proofs.Counting.{kept-settled}
use Rattle.replay_pending.proofs.pending.Pending.settle.Goals as goal

pub invariant_of-self : goal.invariant_of-self
invariant_of-self g c =
    let f = c.self.inside in
    let at = found_by (is_timed_of c.args.root) f.entries.items c.deref.result.now c.timed_place.result c.in-Some.place c.timed_place.ensures c.deref.ensures.value c.in-Some.is in
    rw (settled_there c.args.root c.args.list f.entries.items c.in-Some.place c.index_mut.result.now c.self.invariant.few.once at c.index_mut.ensures.value)
    (kept-settled f.cap f.tries f.entries.items c.args.root c.args.list c.self.invariant)

pub returns-in-Some-clause-timed : goal.returns-in-Some-clause-timed
returns-in-Some-clause-timed g c =
    let f = c.self.inside in
    let at = found_by (is_timed_of c.args.root) f.entries.items c.deref.result.now c.timed_place.result c.in-Some.place c.timed_place.ensures c.deref.ensures.value c.in-Some.is in
    rw (← c.self.view_is) (sym (ap is_some at.2))

pub returns-in-Some-clause-settled : goal.returns-in-Some-clause-settled
returns-in-Some-clause-settled g c =
    let f = c.self.inside in
    let at = found_by (is_timed_of c.args.root) f.entries.items c.deref.result.now c.timed_place.result c.in-Some.place c.timed_place.ensures c.deref.ensures.value c.in-Some.is in
    λ on. rw (← c.self.view_is)
    (ap (λ es. record { cap = f.cap; buckets = f.buckets; tick = f.tick; pending = es; tries = f.tries })
    (settled_there c.args.root c.args.list f.entries.items c.in-Some.place c.index_mut.result.now c.self.invariant.few.once at c.index_mut.ensures.value))

pub returns-in-None-clause-timed : goal.returns-in-None-clause-timed
returns-in-None-clause-timed g c =
    let f = c.self.inside in
    let none = none_by (is_timed_of c.args.root) f.entries.items c.deref.result.now c.timed_place.result c.timed_place.ensures c.deref.ensures.value c.in-None.is in
    rw (← c.self.view_is) (sym (ap is_some none))
