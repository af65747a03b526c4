-- Where a run of workers begins: an engine that was started, beside the boxes and at the board that were made.
use Rattle.std.proofs.Common.{◌≡◌, ◌-◌, ◌^◌, ℕ, List, length, min, Result, sym, ap, subst, ◌∙◌, arith}
use Rattle.event_worlds.specs.bolt_ops.RowOp.{Custom}
use Rattle.worker_stretches.specs.box_rows.declared.boxes.Boxes.{Boxes}
use Rattle.worker_stretches.specs.box_rows.declared.mail.Mail.{Mail}
use Rattle.worker_stretches.specs.event_engine.declared.engine.Engine.{Engine}
use Rattle.worker_stretches.specs.event_engine.Engines.{IsIdle, IsReady, cut_in}
use Rattle.worker_stretches.specs.event_engine.Starts.{IsStarted}
use Rattle.pulse_board.specs.declared.rule.Book.{Book}
use Rattle.pulse_board.specs.declared.seat.Board.{Board}
use Rattle.pulse_board.specs.declared.seat.BoardSeat.{BoardSeat}
use Rattle.worker_rounds.specs.schedule_core.declared.fault.RunFault.{RunFault}
use Rattle.event_worlds.specs.state_parts.declared.parts.StatePart.{StatePart}
use Rattle.event_worlds.specs.storm_ids.declared.ids.Ids.{Ghosts}
use Rattle.storm_stores.specs.CellMaps.{CellMap}
use Rattle.task_queues.specs.declared.pass.Mailbox.{Mailbox}
use Rattle.task_queues.specs.declared.pass.Pass.{Pass}
use Rattle.event_worlds.specs.topology_plan.Topology.{Topology}
use Rattle.event_worlds.specs.taken_records.Cuts.{Cut}
use Rattle.worker_rounds.specs.Running.{IsGathered}
use Rattle.worker_runs.proofs.Ending.{RunEnded}
use Rattle.worker_runs.proofs.Rows.{first-empty, first-rooms}
use Rattle.worker_runs.proofs.Starting.{no-tick, swept-start}
use Rattle.worker_runs.specs.WorkerRuns.{AreFirstBoxes, IsFirstSeat}

module _ {I : Type 0} {g : Ghosts I} (told : (ℕ → ℕ → ℕ) → Type 0) (tells : I → (ℕ → ℕ) → ℕ → Type 0) (t : Topology) (cut : Cut) (boxes : Boxes) (board : Board) (e0 : Engine I g) (seat : BoardSeat) where
  -- nobody works yet, where a run is of the plan that its boxes are of
  pub gathered-first : IsReady t cut e0 → IsIdle e0 → IsStarted told tells t cut e0 → AreFirstBoxes t boxes → IsFirstSeat board seat → IsGathered boxes.posts.plan.now (cut_in e0) boxes.posts.boxes.items board e0 boxes.row.items seat
  gathered-first ready idle started first own =
      subst (λ (u : Topology). IsGathered u (cut_in e0) boxes.posts.boxes.items board e0 boxes.row.items seat) (sym first.plan)
      (subst (λ (k : Cut). IsGathered t k boxes.posts.boxes.items board e0 boxes.row.items seat) (sym ready.seated.of_cut) (record {
        ready = ready;
        idle = idle;
        swept = swept-start told tells t cut e0 started;
        fit = first.row;
        empty = first-empty t boxes.row.items first.first;
        room = first-rooms t boxes.row.items first.first;
        whole = own.whole;
        in_time =
            no-tick told tells t cut e0 started ∙ (let z : 0 ≡ min 0 (2 ^ 64 - 1) = omega arith in z)
            ∙ sym (ap (λ (b : Book). min (length b.drawn) (2 ^ 64 - 1)) own.first);
      }))

module _ {I S T V : Type 0} {g : Ghosts I} (tells : I → (ℕ → ℕ) → ℕ → Type 0) (holds : S → CellMap → Type 0) (count : S → ℕ) (handed : T → ℕ) (ticking : T → List ℕ → Type 0) (availing : V → List ℕ → Type 0) (custom : Custom) (avail later : V) (boxes : List (Mailbox Mail)) (board : Board) (before after : T) (old : Engine I g)
    (row : List (Pass Mail)) (was : List (StatePart S)) (done : Result (Unit {0}) RunFault) (e : Engine I g) (now_row : List (Pass Mail)) (seat : BoardSeat) (is : List (StatePart S)) where
  -- what ran is of the plan and the input that the engine was started with
  pub ended-here : (u t : Topology) (k cut : Cut) → u ≡ t → k ≡ cut → RunEnded tells holds count handed ticking availing custom avail later boxes board before after old row was done e now_row seat is u k → RunEnded tells holds count handed ticking availing custom avail later boxes board before after old row was done e now_row seat is t cut
  ended-here u t k cut plan input ran =
      subst (λ (v : Topology). RunEnded tells holds count handed ticking availing custom avail later boxes board before after old row was done e now_row seat is v cut) plan
      (subst (λ (c : Cut). RunEnded tells holds count handed ticking availing custom avail later boxes board before after old row was done e now_row seat is u c) input ran)
