use Rattle.std.proofs.Common.{ap, sym, ◌∙◌, ◌∷◌, filter}
use Rattle.rotating_ledger.proofs.RootLemmas.{root_eq-refl}
use Rattle.replay_pending.specs.InFlight.{is_above}
use Rattle.replay_pending.proofs.Counting.{kept-filter}
use Rattle.replay_pending.proofs.Found.{ended-at, found_by, some_same}
use Rattle.replay_pending.proofs.Late.{first_out, none_out}
use Rattle.replay_pending.proofs.pending.Pending.end_above.Goals as goal

pub invariant_of-self : goal.invariant_of-self
invariant_of-self g c =
    let f = c.self.inside in
    let es = f.entries.items in
    let at = found_by (is_above c.args.txid) es c.deref.result.now c.place_above.result c.in-Some.place
    c.place_above.ensures c.deref.ensures.value c.in-Some.is in
    rw (c.remove.ensures.items ∙ ended-at at.0.root es c.in-Some.place at.0 c.self.invariant.few.once at.1 (root_eq-refl at.0.root))
    (kept-filter f.cap f.tries es _ c.self.invariant)

pub returns-in-Some-clause-first : goal.returns-in-Some-clause-first
returns-in-Some-clause-first g c =
    let es = c.self.inside.entries.items in
    let out = first_out (is_above c.args.txid) es c.remove.new.self.items c.deref.result.now c.place_above.result c.in-Some.place c.remove.result
    c.place_above.ensures c.deref.ensures.value c.in-Some.is c.remove.ensures.value c.remove.ensures.items in
    λ e is. rw (← c.self.view_is)
    (out.told ∙ ap (λ x. x ∷ filter (is_above c.args.txid) c.remove.new.self.items) (some_same c.remove.result e is))

pub returns-in-Some-clause-others : goal.returns-in-Some-clause-others
returns-in-Some-clause-others g c =
    let es = c.self.inside.entries.items in
    let out = first_out (is_above c.args.txid) es c.remove.new.self.items c.deref.result.now c.place_above.result c.in-Some.place c.remove.result
    c.place_above.ensures c.deref.ensures.value c.in-Some.is c.remove.ensures.value c.remove.ensures.items in
    rw (← c.self.view_is) (sym out.kept)

pub returns-in-None-clause-none : goal.returns-in-None-clause-none
returns-in-None-clause-none g c =
    let es = c.self.inside.entries.items in
    let none = none_out (is_above c.args.txid) es c.deref.result.now c.place_above.result c.place_above.ensures c.deref.ensures.value c.in-None.is in
    λ _. rw (← c.self.view_is) none.0
