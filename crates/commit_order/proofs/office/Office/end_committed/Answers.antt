use Rattle.std.proofs.Common.{◌≡◌, ◌++◌, [], ◌∷◌, ℕ, Some, false, true, refl, ap₂, sym, ap, subst, ◌∙◌}
use Rattle.std.specs.Prelude.{IsSome, List}
use Rattle.commit_order.proofs.Ending.{next_txid, on_ok, second_is_some}
use Rattle.commit_order.proofs.Steps.{is_next, next_there}
use Rattle.attempt_fates.specs.declared.fates.Attempt.{Attempt}
use Rattle.attempt_fates.specs.declared.fates.End.TheVariants as end
use Rattle.commit_order.specs.Offices.{Office}
use Rattle.commit_turns.specs.Desks.{ended_at, without}
use Rattle.commit_turns.specs.Turns.{end_by}
use Rattle.state_parts.specs.declared.answer.CommitOutcome.TheVariants as outcome
use Rattle.commit_turns.specs.declared.wait.Wait.{Wait}
use Rattle.replay_pending.proofs.Found.{passes, some_same}
use Rattle.tuple_account.specs.storm_values.declared.value.Root.{Root}
use Rattle.tuple_account.specs.tree_model.declared.messages.AckMsg.{AckMsg}
use Rattle.commit_order.proofs.office.Office.end_committed.Goals as goal

pub unreachable-requires-in_default-settled : goal.unreachable-requires-in_default-settled
unreachable-requires-in_default-settled c =
    let d = c.args.self.now.desk in
    let at = next_there d.pending d.committed _ c.args.root refl c.requires in
    let here = some_same c.in-Some.wait at.0 (sym c.in-Some.is ∙ c.take.ensures.taken (is_next d.committed) at.0 at.1 at.2) in
    let there = second_is_some d.committed at.0 (passes (is_next d.committed) d.pending at.0 at.1) in
    absurd (never (subst IsSome (ap (λ (w : Wait). w.settled) (sym here) ∙ c.in_default-settled.is) there))
  where
    never : false ≡ true → ⊥
    never e = cc

item : (o : Office) (w wait : Wait) → wait ≡ w → (list : List AckMsg) (now tick : ℕ) → now ≡ tick → w.settled ≡ Some list
    → record { root = wait.root; spans = wait.spans; start = wait.start; finish = now; end = end.Committed list } ≡ ended_at tick (end_by o.topology o.cut outcome.Done w.settled) w
item o w wait here list now tick same settled = rw (here, same, settled) refl

pub returns-clause-ok : goal.returns-clause-ok
returns-clause-ok c = λ w next.
    let o = c.args.self.now in
    let d = o.desk in
    let f = c.self.inside in
    let at = next_there d.pending d.committed _ c.args.root refl c.requires in
    let same : at.0 ≡ w = some_same at.0 w (sym at.1 ∙ next) in
    let here : c.in-Some.wait ≡ w = some_same c.in-Some.wait at.0 (sym c.in-Some.is ∙ c.take.ensures.taken (is_next d.committed) at.0 at.1 at.2) ∙ same in
    let roots : c.args.root ≡ w.root = sym at.2 ∙ ap (λ (v : Wait). v.root) same in
    let txid = ap (λ (v : Wait). v.root.txid) here ∙ next_txid d.committed w (passes (is_next d.committed) d.pending w next) in
    let left = c.self.view_is ∙ c.take.ensures.left ∙ ap (λ (r : Root). record o { desk = record d { pending = without r d.pending } }) roots in
    let tick = c.tick_number.ensures ∙ ap (λ (p : Office). p.desk.tick) left in
    let list = ap (λ (v : Wait). v.settled) (sym here) ∙ c.in-Some-settled.is in
    on_ok c.push.result
    (λ pushed. record {
      office = ap₂ (λ (p : Office) (n : ℕ). record p { desk = record p.desk { committed = n } }) left txid;
      fates = pushed ∙ ap (λ (a : Attempt). c.args.fates.now ++ a ∷ []) (item o w c.in-Some.wait here c.in-Some-settled.list c.tick_number.result d.tick tick list);
    })
    c.push.ensures.ok
