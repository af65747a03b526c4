use Rattle.std.proofs.Common.{◌++◌, [], ◌∷◌, ℕ, false, sym, ap, ap₂, ◌∙◌, subst}
use Rattle.attempt_fates.specs.declared.fates.Attempt.{Attempt}
use Rattle.commit_order.proofs.Ending.{aborts_go, aborts_short, on_ok, one_came}
use Rattle.commit_order.proofs.Passing.{on_err_of}
use Rattle.commit_order.proofs.Steps.{office_by}
use Rattle.commit_order.specs.Offices.{AddsSome, DropsAll, Office, try_of}
use Rattle.commit_turns.specs.declared.wait.Wait.{Wait}
use Rattle.commit_turns.specs.Desks.{ended_at, without}
use Rattle.commit_turns.specs.Turns.{drops}
use Rattle.replay_pending.specs.InFlight.{with_aborted}
use Rattle.replay_pending.proofs.Found.{some_same}
use Rattle.taken_records.specs.Taken.{marked}
use Rattle.tuple_account.specs.storm_values.declared.value.Root.{Root}
use Rattle.commit_order.proofs.office.Office.end_aborted.Goals as goal

pub returns-clause-ok : goal.returns-clause-ok
returns-clause-ok c = λ like w at same.
    let o0 = c.args.self.now in
    let o : Office = record o0 { desk = record o0.desk { pending = without c.args.root o0.desk.pending } } in
    let here = some_same c.in-Some.wait w (sym c.in-Some.is ∙ c.abort.ensures.taken like w at same) in
    let inside = c.self.view_is ∙ c.abort.ensures.left c.in-Some.wait c.in-Some.is in
    let is = inside ∙ ap (λ (v : Wait). record o { desk = record o.desk { tries = with_aborted c.args.root.txid o.desk.tries; gone = marked false v.spans o.desk.gone } }) here in
    let f = c.self.inside in
    let at_abort = office_by f.plan.now f.began f.offers f.committed f.flight f.out f.exhausted in
    let mid : Office = record at_abort { desk = record at_abort.desk { exhausted = c.last_try-self-inside.result } } in
    let came = one_came o c.args.root o0.desk.tick c.args.end w at_abort c.last_try-self-inside.result same is
    (c.last_try-self-inside.ensures ∙ ap (λ (p : Office). try_of p.topology p.desk.tries c.args.root.txid) (sym c.self.view_is)) in
    let tick = c.tick_number.ensures ∙ ap (λ (p : Office). p.desk.tick) inside in
    let item = c.ended.ensures ∙ ap₂ (λ (n : ℕ) (v : Wait). ended_at n c.args.end v) tick here in
    let adds = c.in_ok-push.ensures.ok ∙ ap (λ (a : Attempt). c.args.fates.now ++ a ∷ []) item in
    on_ok c.drop_with.result
    (λ drop.
    let goes = aborts_go o mid (ended_at o0.desk.tick c.args.end w) [] c.drop_with.new.self c.args.fates.now c.push.new.self c.drop_with.new.fates came adds
    (subst (λ (r : Root). DropsAll r mid c.drop_with.new.self c.push.new.self c.drop_with.new.fates) (sym same) drop) in
    record { office = goes.office; fates = goes.fates })
    c.drop_with.ensures.ok

pub returns-clause-err : goal.returns-clause-err
returns-clause-err c = λ like w at same.
    let o0 = c.args.self.now in
    let o : Office = record o0 { desk = record o0.desk { pending = without c.args.root o0.desk.pending } } in
    let here = some_same c.in-Some.wait w (sym c.in-Some.is ∙ c.abort.ensures.taken like w at same) in
    let inside = c.self.view_is ∙ c.abort.ensures.left c.in-Some.wait c.in-Some.is in
    let is = inside ∙ ap (λ (v : Wait). record o { desk = record o.desk { tries = with_aborted c.args.root.txid o.desk.tries; gone = marked false v.spans o.desk.gone } }) here in
    let f = c.self.inside in
    let at_abort = office_by f.plan.now f.began f.offers f.committed f.flight f.out f.exhausted in
    let mid : Office = record at_abort { desk = record at_abort.desk { exhausted = c.last_try-self-inside.result } } in
    let came = one_came o c.args.root o0.desk.tick c.args.end w at_abort c.last_try-self-inside.result same is
    (c.last_try-self-inside.ensures ∙ ap (λ (p : Office). try_of p.topology p.desk.tries c.args.root.txid) (sym c.self.view_is)) in
    let tick = c.tick_number.ensures ∙ ap (λ (p : Office). p.desk.tick) inside in
    let item = c.ended.ensures ∙ ap₂ (λ (n : ℕ) (v : Wait). ended_at n c.args.end v) tick here in
    let adds = c.in_ok-push.ensures.ok ∙ ap (λ (a : Attempt). c.args.fates.now ++ a ∷ []) item in
    on_err_of c.drop_with.result
    (λ short. aborts_short o mid (ended_at o0.desk.tick c.args.end w) [] c.args.fates.now c.push.new.self c.drop_with.new.fates came adds
    (subst (λ (r : Root). AddsSome (drops mid.topology mid.cut mid.desk.tick r mid.desk.pending) c.push.new.self c.drop_with.new.fates) (sym same) short))
    c.drop_with.ensures.err
