-- A verdict that an attempt is complete is heard before its commit fails; what stands in inboxes
-- waits.
use Rattle.std.proofs.Common.{◌≡◌, ◌≤◌, ℕ, ◌+◌, ◌==◌, ◌&&◌, Bool, true, false, cond, List, [], ◌∷◌, ◌++◌, map, slice_get, Option, None, Some, Contains, refl, sym, ap, ◌∙◌, subst, arith}
use Rattle.std.specs.Prelude.{is_some}
use Rattle.std.specs.List.{AllByRecursion, find}
use Rattle.std.proofs.lemmas.Bool.{and_parts}
use Rattle.event_worlds.specs.acker_core.declared.verdict.Verdict.{Verdict}
use Rattle.event_worlds.specs.acker_core.declared.verdict.Verdict.TheVariants.{Complete}
use Rattle.event_worlds.specs.attempt_fates.declared.fates.Attempt.{Attempt}
use Rattle.event_worlds.specs.bolt_ops.RowOp.{Custom}
use Rattle.box_account.specs.Hearing.{HeardBeforeFailing, HeardComplete}
use Rattle.box_account.specs.Inboxes.{weigh_acker_inboxes, weigh_inboxes, weigh_task_inboxes}
use Rattle.event_worlds.specs.commit_turns.declared.wait.Wait.{Wait}
use Rattle.event_worlds.specs.commit_turns.Account.{desk_of, ends_of, waits_of}
use Rattle.event_worlds.specs.commit_turns.Desks.{Desk, without}
use Rattle.event_worlds.specs.attempt_fates.Fates.{is_failed_commit}
use Rattle.event_worlds.specs.commit_turns.Turns.{decided_by, drops, next_to_commit}
use Rattle.event_worlds.specs.counted_items.Weights.{weigh}
use Rattle.event_worlds.proofs.counted_items.Counts.{times-within}
use Rattle.event_worlds.proofs.counted_items.Each.{each-append, each-weaker}
use Rattle.event_worlds.proofs.counted_items.Weighing.{weigh-append}
use Rattle.event_worlds.specs.Accounted.{LedAt, station_of, weigh_ackers, weigh_tasks}
use Rattle.event_worlds.specs.Added.{added}
use Rattle.event_worlds.specs.Worlds.{AckerSide, Known, Step, TaskSide, World, acted_past, delivered, is_over, next, next_outcome, next_words, of_acker, of_open, of_outcome, of_shut, of_task, of_tick, of_turn, sent, step, task_at, task_needs, turn_needs, turn_past, turned_in, with_progress, with_task}
use Rattle.event_worlds.specs.state_parts.declared.answer.CommitOutcome.{CommitOutcome}
use Rattle.event_worlds.specs.state_parts.declared.answer.CommitOutcome.TheVariants as outcome
use Rattle.event_worlds.specs.topology_plan.Topology.{Topology, tasks_in_all}
use Rattle.event_worlds.specs.tree_model.declared.messages.AckMsg.{AckMsg}
use Rattle.event_worlds.specs.tree_model.declared.messages.Parcel.{Parcel}
use Rattle.event_worlds.specs.tree_model.declared.messages.Parcel.TheVariants.{ToTask, ToAcker}
use Rattle.event_worlds.specs.taken_records.Cuts.{Cut}
use Rattle.event_worlds.specs.tuple_account.Ends.{verdicts_of_ends, verdicts_of_waits, verdicts_settled}
use Rattle.event_worlds.specs.tuple_account.Fits.{Fits}
use Rattle.event_worlds.specs.tuple_account.Histories.{History, Packet, joined}
use Rattle.event_worlds.specs.tuple_account.Moves.{Station}
use Rattle.event_worlds.proofs.tuple_account.Routing.{verdict_code}
use Rattle.world_progress.specs.Lasting.{IsFine}
use Rattle.world_progress.proofs.Turning.{drops_fine, turn_fine}

-- ---- inboxes

tasks-wait : (f : Packet → ℕ) (n : ℕ) (sides : List TaskSide) → weigh_task_inboxes f n sides ≤ weigh_tasks f n sides
tasks-wait f n [] = omega arith
tasks-wait f n (side ∷ sides) = let rest = tasks-wait f (n + 1) sides in omega arith

ackers-wait : (f : Packet → ℕ) (n : ℕ) (sides : List AckerSide) → weigh_acker_inboxes f n sides ≤ weigh_ackers f n sides
ackers-wait f n [] = omega arith
ackers-wait f n (side ∷ sides) = let rest = ackers-wait f (n + 1) sides in omega arith

-- what stands in inboxes waits
pub inboxes-wait : (f : Packet → ℕ) (k : Known) → weigh_inboxes f k.world ≤ (station_of k).waiting f
inboxes-wait f k = let a = tasks-wait f 0 k.world.tasks in let b = ackers-wait f 0 k.world.ackers in omega arith

-- ---- what was heard

false_true : false ≡ true → ⊥
false_true e = cc

-- what was heard stays heard
heard_then : (h more : History) (v : Verdict) → Contains h.heard v → Contains (h.heard ++ more.heard) v
heard_then h more v there = times-within verdict_code h.heard (h.heard ++ more.heard) v (λ f. let a = weigh-append f h.heard more.heard in omega arith) there

pub heard_later : (h more : History) (fates : List Attempt) → HeardBeforeFailing h fates → HeardBeforeFailing (joined h more) fates
heard_later h more fates all =
    each-weaker (λ (a : Attempt). is_failed_commit a.end ≡ true → HeardComplete h a.root) (λ (a : Attempt). is_failed_commit a.end ≡ true → HeardComplete (joined h more) a.root)
    (λ a was is. let c = was is in (c.0, heard_then h more (Complete a.root c.0) c.1)) fates all

-- no commit that failed needs no verdict
fine_heard : (h : History) (fates : List Attempt) → AllByRecursion IsFine fates → HeardBeforeFailing h fates
fine_heard h fates fine =
    each-weaker IsFine (λ (a : Attempt). is_failed_commit a.end ≡ true → HeardComplete h a.root) (λ a off on. absurd (false_true (sym off ∙ on))) fates fine

-- ---- outcomes

-- an attempt that is settled is one of those that wait
settled_heard : (f : Verdict → ℕ) (test : Wait → Bool) (w : Wait) (list : List AckMsg) → w.settled ≡ Some list → (ws : List Wait) → find test ws ≡ Some w
    → f (Complete w.root list) ≤ weigh f (verdicts_of_waits (map waits_of ws))
settled_heard f test w list settled [] found = absurd (never found)
  where
    never : None ≡ Some w → ⊥
    never e = cc
settled_heard f test w list settled (x ∷ ws) found = by (test x) found (settled_heard f test w list settled ws)
  where
    some_or : Option Wait → Wait
    some_or None = x
    some_or (Some y) = y

    here : x ≡ w → f (Complete w.root list) ≤ weigh f (verdicts_settled x.root x.settled)
    here same =
        let e : weigh f (verdicts_settled x.root x.settled) ≡ weigh f (verdicts_settled w.root (Some list)) = ap (λ (y : Wait). weigh f (verdicts_settled y.root y.settled)) same ∙ ap (λ (o : Option (List AckMsg)). weigh f (verdicts_settled w.root o)) settled in omega arith

    by : (c : Bool) → cond c (Some x) (find test ws) ≡ Some w → (find test ws ≡ Some w → f (Complete w.root list) ≤ weigh f (verdicts_of_waits (map waits_of ws))) → f (Complete w.root list) ≤ weigh f (verdicts_of_waits (map waits_of (x ∷ ws)))
    by true at later =
        let z = here (ap some_or at) in
        let a = weigh-append f (verdicts_settled x.root x.settled) (verdicts_of_waits (map waits_of ws)) in omega arith
    by false at later =
        let z = later at in
        let a = weigh-append f (verdicts_settled x.root x.settled) (verdicts_of_waits (map waits_of ws)) in omega arith

found_settled : (count : ℕ) (w : Wait) (ws : List Wait) → find (λ (x : Wait). (x.root.txid == count) && is_some x.settled) ws ≡ Some w → is_some w.settled ≡ true
found_settled count w [] found = absurd (never found)
  where
    never : None ≡ Some w → ⊥
    never e = cc
found_settled count w (x ∷ ws) found = by ((x.root.txid == count) && is_some x.settled) refl found (found_settled count w ws)
  where
    some_or : Option Wait → Wait
    some_or None = x
    some_or (Some y) = y

    by : (c : Bool) → ((x.root.txid == count) && is_some x.settled) ≡ c → cond c (Some x) (find (λ (y : Wait). (y.root.txid == count) && is_some y.settled) ws) ≡ Some w
        → (find (λ (y : Wait). (y.root.txid == count) && is_some y.settled) ws ≡ Some w → is_some w.settled ≡ true) → is_some w.settled ≡ true
    by true is at later = subst (λ (y : Wait). is_some y.settled ≡ true) (ap some_or at) (and_parts (x.root.txid == count) (is_some x.settled) is).1
    by false is at later = later at

module _ (t : Topology) (cut : Cut) (h : History) (d : Desk) (fates : List Attempt) (fits : Fits t (desk_of cut d) (ends_of fates) h) where
  -- the attempt that is next to be committed was heard of
  next_heard : (w : Wait) → next_to_commit t cut d ≡ Some w → HeardComplete h w.root
  next_heard w at = by w.settled refl (found_settled (d.committed + 1) w d.pending at)
    where
      by : (o : Option (List AckMsg)) → w.settled ≡ o → is_some o ≡ true → HeardComplete h w.root
      by None settled some = absurd (false_true some)
      by (Some list) settled some = (
        list,
        times-within verdict_code (Complete w.root list ∷ []) h.heard (Complete w.root list)
            (λ f.
            let s = settled_heard f (λ (x : Wait). (x.root.txid == d.committed + 1) && is_some x.settled) w list settled d.pending at in
            let a = weigh-append f (verdicts_of_ends (ends_of fates)) (verdicts_of_waits (map waits_of d.pending)) in
            let z = fits.heard f in omega arith)
            (0, omega arith, refl),
      )

  outcome_heard : (how : CommitOutcome) (o : Option Wait) → next_to_commit t cut d ≡ o → HeardBeforeFailing h (decided_by t cut how o d).ended
  outcome_heard how None at = tt
  outcome_heard outcome.Done (Some w) at = (λ failed. next_heard w at, tt)
  outcome_heard (outcome.Failed component part before after) (Some w) at =
      let others = without w.root d.pending in
      (λ failed. next_heard w at, fine_heard h (drops t cut d.tick w.root others) (drops_fine t cut d.tick w.root others))

-- ---- steps

fates-delivered : (t : Topology) (p : Parcel) (w : World) → (delivered t p w).fates ≡ w.fates
fates-delivered t (ToTask n tuple) w = refl
fates-delivered t (ToAcker n m) w = refl

fates-sent : (t : Topology) (o : Option Parcel) (w : World) → (sent t o w).fates ≡ w.fates
fates-sent t None w = refl
fates-sent t (Some p) w = fates-delivered t p w

module _ (t : Topology) (custom : Custom) (cut : Cut) (words : ℕ → ℕ → ℕ) (outcomes : List CommitOutcome) (all : Station) (h : History) (k : Known) (led : LedAt t custom cut words all h k) (was : HeardBeforeFailing h k.world.fates) where
  abbrev Is : World → Type 0
  Is w = HeardBeforeFailing h w.fates

  turn_is : (ids : List ℕ) (out : List Parcel) → Is (turn_past t cut ids k.world out)
  turn_is ids (p ∷ rest) = subst (HeardBeforeFailing h) (sym (fates-delivered t p (record k.world { orders = rest }))) was
  turn_is ids [] =
      each-append (λ (a : Attempt). is_failed_commit a.end ≡ true → HeardComplete h a.root) k.world.fates (turned_in t cut k.world).ended was
      (fine_heard h (turned_in t cut k.world).ended (turn_fine t cut (slice_get k.world.verdicts 0) k.world.unheard k.world.shut k.world.desk))

  outcome_is : (how : CommitOutcome) (b : Bool) → Is (cond b (with_progress t cut (decided_by t cut how (next_to_commit t cut k.world.desk) k.world.desk) k.world) k.world)
  outcome_is how false = was
  outcome_is how true =
      each-append (λ (a : Attempt). is_failed_commit a.end ≡ true → HeardComplete h a.root) k.world.fates (decided_by t cut how (next_to_commit t cut k.world.desk) k.world.desk).ended was
      (outcome_heard t cut h k.world.desk k.world.fates led.fits how (next_to_commit t cut k.world.desk) refl)

  step_is : (s : Step) → Is (step t custom cut words outcomes s k).world
  unfolding step
  step_is (of_task n) =
      let ids = next_words words k.counts n (task_needs t custom (task_at t n k.world)) in
      let a = acted_past t custom n ids (task_at t n k.world) (task_at t n k.world).outbox in subst (HeardBeforeFailing h) (sym (fates-sent t a.parcel (with_task n a.side k.world))) was
  step_is (of_acker n) = was
  step_is of_turn = turn_is (next_words words k.counts (tasks_in_all t) (turn_needs t cut k.world)) k.world.orders
  step_is of_outcome = outcome_is (next_outcome outcomes k.world.fates) k.world.desk.out
  step_is of_tick = was
  step_is (of_shut q) = was
  step_is (of_open q) = was

  pub heard_next : (s : Step) → HeardBeforeFailing (joined h (added t custom cut words s k)) (next t custom cut words outcomes s k).world.fates
  heard_next s = heard_later h (added t custom cut words s k) (next t custom cut words outcomes s k).world.fates (by (is_over t cut k.world))
    where
      by : (b : Bool) → Is (cond b k (step t custom cut words outcomes s k)).world
      by true = was
      by false = step_is s
