-- Workers after a stretch.
use Rattle.std.proofs.Common.{ℕ, List, [], ◌∷◌, ◌++◌}
use Rattle.std.specs.List.{AllByRecursion, AllZip}
use Rattle.event_worlds.specs.bolt_ops.RowOp.{Custom}
use Rattle.box_rows.specs.declared.mail.Mail.{Mail}
use Rattle.worker_test_kit.specs.Resting.{Came}
use Rattle.pulse_board.specs.declared.seat.Board.{Board}
use Rattle.event_worlds.specs.storm_ids.declared.ids.Ids.{Ghosts}
use Rattle.task_queues.specs.declared.pass.Mailbox.{Mailbox}
use Rattle.event_worlds.specs.topology_plan.Topology.{Topology}
use Rattle.worker_pool.specs.declared.worker.Worker.{Worker}
use Rattle.worker_pool.specs.Workers.{Stretched}

module _ {I : Type 0} {g : Ghosts I} where
  -- those that were stretched came back
  pub all_came : (tells : I → (ℕ → ℕ) → ℕ → Type 0) (t : Topology) (boxes : List (Mailbox Mail)) (board : Board) (custom : Custom) (old new : List (Worker I g))
      → AllZip (Stretched tells t boxes board custom) old new → AllByRecursion (Came t boxes board) new
  all_came tells t boxes board custom [] [] all = tt
  all_came tells t boxes board custom [] (y ∷ ys) all = absurd all
  all_came tells t boxes board custom (x ∷ xs) [] all = absurd all
  all_came tells t boxes board custom (x ∷ xs) (y ∷ ys) all =
      (record { passes = all.0.keeps.passes; work = all.0.work }, all_came tells t boxes board custom xs ys all.1)

-- the last of a list, and the others
pub parts : {X : Type 0} (P : X → Type 0) (xs : List X) (x : X) → AllByRecursion P (xs ++ x ∷ []) → AllByRecursion P xs × P x
parts P [] x all = (tt, all.0)
parts P (y ∷ ys) x all = let rest = parts P ys x all.1 in ((all.0, rest.0), rest.1)
