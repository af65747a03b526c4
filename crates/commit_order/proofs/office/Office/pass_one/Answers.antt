use Rattle.std.proofs.Common.{◌++◌, ℕ, length, map, sym, ap, subst, ◌∙◌}
use Rattle.std.specs.Option.{option_map}
use Rattle.std.specs.Prelude.{slice_get}
use Rattle.attempt_fates.specs.declared.fates.End.TheVariants as end
use Rattle.commit_order.proofs.Ending.{on_err, on_ok}
use Rattle.commit_order.proofs.Passing.{on_err_of}
use Rattle.commit_order.proofs.Ticking.{late_short, late_within, none_first, some_first, tick_none, tick_short, tick_some, ticked_in_flight}
use Rattle.commit_order.specs.Offices.{AddsSome, Settled, entry_ended, try_at}
use Rattle.replay_pending.specs.InFlight.{InFlight}
use Rattle.replay_pending.specs.declared.entry.Entry.{Entry}
use Rattle.tuple_account.specs.storm_values.Lines.{first_some}
use Rattle.commit_order.proofs.office.Office.pass_one.Goals as goal

pub invariant_of-self-in_default : goal.invariant_of-self-in_default
invariant_of-self-in_default c =
    let f = c.self.inside in ticked_in_flight f.plan.now (length f.offers.records) f.flight c.tick.new.self c.self.invariant c.in_ok-late.ensures.ok

pub invariant_of-self-2 : goal.invariant_of-self-2
invariant_of-self-2 c =
    let f = c.self.inside in ticked_in_flight f.plan.now (length f.offers.records) f.flight c.tick.new.self c.self.invariant c.in_ok-late.ensures.ok

pub invariant_of-self-3 : goal.invariant_of-self-3
invariant_of-self-3 c =
    let f = c.self.inside in
    rw c.time_out.ensures.same (ticked_in_flight f.plan.now (length f.offers.records) f.flight c.tick.new.self c.self.invariant c.in_ok-late.ensures.ok)

pub invariant_of-self-in_err-time_out : goal.invariant_of-self-in_err-time_out
invariant_of-self-in_err-time_out c =
    let f = c.self.inside in
    rw c.time_out.ensures.same (ticked_in_flight f.plan.now (length f.offers.records) f.flight c.tick.new.self c.self.invariant c.in_ok-late.ensures.ok)

pub time_out-requires : goal.time_out-requires
time_out-requires c =
    let f = c.self.inside in
    late_within f.plan.now f.began f.offers f.committed f.flight c.tick.new.self f.out f.exhausted c.self.invariant c.in_ok-late.ensures.ok c.in_ok-late.late.items c.in_ok-late.ensures.told

pub returns-in_default-clause-ok : goal.returns-in_default-clause-ok
returns-in_default-clause-ok c =
    let f = c.self.inside in
    let none = none_first c.in_ok-late.late.items
    (ap (λ es. option_map (λ (e : Entry Settled). e.root) (slice_get es 0)) (sym c.deref.ensures.value) ∙ sym c.first_root.ensures ∙ c.in_default.is) in
    rw (← c.self.view_is)
    (tick_none f.plan.now f.began f.offers f.committed f.flight c.tick.new.self f.out f.exhausted c.self.invariant c.in_ok-late.ensures.ok c.in_ok-late.late.items c.in_ok-late.ensures.told
    c.args.fates.now none)

pub returns-in_err-time_out-clause-err : goal.returns-in_err-time_out-clause-err
returns-in_err-time_out-clause-err c =
    let f = c.self.inside in
    let late = c.in_ok-late.late.items in
    let one = some_first late c.in-Some.first
    (ap (λ es. option_map (λ (e : Entry Settled). e.root) (slice_get es 0)) (sym c.deref.ensures.value) ∙ sym c.first_root.ensures ∙ c.in-Some.is) in
    let tick = c.tick_number.ensures ∙ ap (λ (p : InFlight Settled). p.tick) c.in_ok-late.ensures.ok in
    rw (← c.self.view_is)
    (on_err c.from_residual-in_err-time_out.result
    (late_short f.plan.now f.began f.offers f.committed f.flight c.tick.new.self f.out f.exhausted c.self.invariant c.in_ok-late.ensures.ok late c.in_ok-late.ensures.told
    c.in-Some.first one c.args.fates.now c.time_out.new.fates
    (subst (λ (n : ℕ). AddsSome (map (entry_ended n end.TimedOut) late) c.args.fates.now c.time_out.new.fates) tick c.in_err-time_out.ensures.err)))

pub returns-clause-ok : goal.returns-clause-ok
returns-clause-ok c =
    let f = c.self.inside in
    let late = c.in_ok-late.late.items in
    let one = some_first late c.in-Some.first
    (ap (λ es. option_map (λ (e : Entry Settled). e.root) (slice_get es 0)) (sym c.deref.ensures.value) ∙ sym c.first_root.ensures ∙ c.in-Some.is) in
    let tick = c.tick_number.ensures ∙ ap (λ (p : InFlight Settled). p.tick) c.in_ok-late.ensures.ok in
    let tried = c.first_last_try-self-inside.ensures ∙ ap (λ es. first_some (map (try_at f.plan.now c.tick.new.self.tries) es)) c.deref-2.ensures.value in
    let adds = c.in_ok-time_out.ensures.ok ∙ ap (λ (n : ℕ). c.args.fates.now ++ map (entry_ended n end.TimedOut) late) tick in
    rw (← c.self.view_is)
    (on_ok c.drop_with.result
    (tick_some f.plan.now f.began f.offers f.committed f.flight c.tick.new.self f.out f.exhausted c.self.invariant c.in_ok-late.ensures.ok late c.in_ok-late.ensures.told
    c.in-Some.first one c.time_out.new.offers c.in_ok-time_out.ensures.offers c.first_last_try-self-inside.result tried c.drop_with.new.self c.args.fates.now c.time_out.new.fates
    c.drop_with.new.fates adds)
    c.drop_with.ensures.ok)

pub returns-clause-err : goal.returns-clause-err
returns-clause-err c =
    let f = c.self.inside in
    let late = c.in_ok-late.late.items in
    let one = some_first late c.in-Some.first
    (ap (λ es. option_map (λ (e : Entry Settled). e.root) (slice_get es 0)) (sym c.deref.ensures.value) ∙ sym c.first_root.ensures ∙ c.in-Some.is) in
    let tick = c.tick_number.ensures ∙ ap (λ (p : InFlight Settled). p.tick) c.in_ok-late.ensures.ok in
    let tried = c.first_last_try-self-inside.ensures ∙ ap (λ es. first_some (map (try_at f.plan.now c.tick.new.self.tries) es)) c.deref-2.ensures.value in
    let adds = c.in_ok-time_out.ensures.ok ∙ ap (λ (n : ℕ). c.args.fates.now ++ map (entry_ended n end.TimedOut) late) tick in
    rw (← c.self.view_is)
    (on_err_of c.drop_with.result
    (tick_short f.plan.now f.began f.offers f.committed f.flight c.tick.new.self f.out f.exhausted c.self.invariant c.in_ok-late.ensures.ok late c.in_ok-late.ensures.told
    c.in-Some.first one c.time_out.new.offers c.in_ok-time_out.ensures.offers c.first_last_try-self-inside.result tried c.args.fates.now c.time_out.new.fates
    c.drop_with.new.fates adds)
    c.drop_with.ensures.err)
