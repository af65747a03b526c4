-- The laws of worlds and of boxes that a run of workers rests on. This project's own.
use Rattle.std.specs.Prelude.{◌≡◌, ◌<◌, ℕ, List, All, true}
use Rattle.event_worlds.specs.bolt_ops.RowOp.{Custom}
use Rattle.worker_stretches.specs.box_account.Hearing.{HeardBeforeFailing}
use Rattle.worker_stretches.specs.box_account.Inboxes.{GoesThrough}
use Rattle.worker_stretches.specs.box_account.Taken.{TookTrue}
use Rattle.worker_stretches.specs.box_account.Telling.{BoxesTell}
use Rattle.worker_stretches.specs.box_rows.declared.mail.Mail.{Mail}
use Rattle.worker_stretches.specs.box_rows.FitRows.{IsFitRow}
use Rattle.event_worlds.specs.commit_turns.Turns.{is_finished}
use Rattle.event_worlds.specs.Accounted.{IsInput}
use Rattle.event_worlds.specs.Added.{first_history}
use Rattle.event_worlds.specs.Beside.{LedBeside}
use Rattle.event_worlds.specs.Rounds.{CanFinish, DoesNotCoincide}
use Rattle.event_worlds.specs.Worlds.{Known, first_known, first_world, is_over}
use Rattle.task_queues.specs.declared.pass.Mailbox.{Mailbox}
use Rattle.task_queues.specs.declared.pass.Pass.{Pass}
use Rattle.event_worlds.specs.topology_plan.Topology.{Topology}
use Rattle.event_worlds.specs.taken_records.Cuts.{Cut}
use Rattle.event_worlds.specs.tuple_account.Histories.{History, Packet}
use Rattle.worker_stretches.specs.world_progress.Lasting.{Lasting, NoneAborted}

-- how a run of workers begins, what is finished, what aborts, and what boxes tell at its end
pub record RunLaws (t : Topology) (custom : Custom) (cut : Cut) : Type 0 where
  pub lasting : (words : ℕ → ℕ → ℕ) → IsInput t cut
      → Lasting t custom cut words (first_history t words) (first_known t cut words)
  pub heard : (words : ℕ → ℕ → ℕ)
      → HeardBeforeFailing (first_history t words) (first_world t cut words).fates
  pub finished : (words : ℕ → ℕ → ℕ) (h : History) (k : Known) → IsInput t cut → CanFinish t
      → Lasting t custom cut words h k → k.world.tick < t.buckets
      → All DoesNotCoincide k.world.fates → is_over t cut k.world ≡ true
      → is_finished t cut k.world.desk ≡ true
  pub none_aborts : (words : ℕ → ℕ → ℕ) (h : History) (k : Known) → IsInput t cut → CanFinish t
      → Lasting t custom cut words h k → k.world.tick < t.buckets
      → All DoesNotCoincide k.world.fates → NoneAborted cut k.world.fates
  pub boxes : (words : ℕ → ℕ → ℕ) (weight : (Packet → ℕ) → ℕ) (h : History) (k : Known)
      (row : List (Pass Mail)) → LedBeside t custom cut words weight h k
      → GoesThrough row h k.world → TookTrue t row → HeardBeforeFailing h k.world.fates
      → BoxesTell t custom cut row k.world.fates
  pub took : (boxes : List (Mailbox Mail)) (row : List (Pass Mail)) → IsFitRow t boxes row
      → TookTrue t row
