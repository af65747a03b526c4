use Rattle.std.proofs.Common.{◌≡◌, ◌&&◌, [], ◌∷◌, Some, sym, subst}
use Rattle.std.specs.Prelude.{OnErr, OnOk}
use Rattle.commit_order.proofs.Ending.{still_goes}
use Rattle.commit_order.proofs.Steps.{office_by, timed_found, timed_none}
use Rattle.commit_order.specs.Offices.{AddsSome, GoesOn, wait_of}
use Rattle.commit_turns.specs.declared.wait.Wait.{Wait}
use Rattle.commit_turns.specs.Desks.{ended_at, is_of_root, is_timed, timed_of, without}
use Rattle.commit_turns.specs.Turns.{aborted}
use Rattle.tuple_account.specs.storm_values.declared.value.Root.{Root}
use Rattle.commit_order.proofs.office.Office.end_timed.Goals as goal

pub returns-in_default-clause-ok : goal.returns-in_default-clause-ok
returns-in_default-clause-ok c =
    let f = c.self.inside in
    rw (← c.self.view_is)
    (rw (timed_none f.flight.pending c.args.root c.timed.result c.timed.ensures c.in_default.is)
    (still_goes (office_by f.plan.now f.began f.offers f.committed f.flight f.out f.exhausted) c.args.fates.now))

pub returns-clause-ok : goal.returns-clause-ok
returns-clause-ok c =
    let o = c.args.self.now in
    let w = wait_of c.in-Some.field-0.now in
    let both = timed_found c.self.inside.flight.pending c.args.root c.timed.result c.in-Some.field-0 c.timed.ensures c.in-Some.is in
    let at : timed_of c.args.root o.desk.pending ≡ Some w = rw (← c.self.view_is) both.0 in
    rw at
    (subst
    (λ (r : Root). OnOk c.end_aborted.result
    (GoesOn (aborted o.topology o.cut (ended_at o.desk.tick c.args.end w ∷ []) (record o.desk { pending = without r o.desk.pending })) o c.end_aborted.new.self
    c.args.fates.now c.end_aborted.new.fates))
    (sym both.1) (c.end_aborted.ensures.ok (λ (v : Wait). is_of_root c.args.root v && is_timed v) w at both.1))

pub returns-clause-err : goal.returns-clause-err
returns-clause-err c =
    let o = c.args.self.now in
    let w = wait_of c.in-Some.field-0.now in
    let both = timed_found c.self.inside.flight.pending c.args.root c.timed.result c.in-Some.field-0 c.timed.ensures c.in-Some.is in
    let at : timed_of c.args.root o.desk.pending ≡ Some w = rw (← c.self.view_is) both.0 in
    rw at
    (subst
    (λ (r : Root). OnErr c.end_aborted.result
    (AddsSome (aborted o.topology o.cut (ended_at o.desk.tick c.args.end w ∷ []) (record o.desk { pending = without r o.desk.pending })).ended
    c.args.fates.now c.end_aborted.new.fates))
    (sym both.1) (c.end_aborted.ensures.err (λ (v : Wait). is_of_root c.args.root v && is_timed v) w at both.1))
