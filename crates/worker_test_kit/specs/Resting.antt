-- Workers between stretches, and after one.
use Rattle.std.specs.Prelude.{◌≡◌, false, List}
use Rattle.std.specs.List.{AllByRecursion}
use Rattle.box_rows.specs.declared.mail.Mail.{Mail}
use Rattle.box_rows.specs.Rows.{ArePasses}
use Rattle.pulse_board.specs.declared.seat.Board.{Board}
use Rattle.pulse_board.specs.Seats.{IsSeatOf}
use Rattle.event_worlds.specs.storm_ids.declared.ids.Ids.{Ghosts}
use Rattle.task_queues.specs.declared.pass.Mailbox.{Mailbox}
use Rattle.event_worlds.specs.topology_plan.Topology.{Topology}
use Rattle.worker_pool.specs.Ackers.{IsAcker}
use Rattle.worker_pool.specs.declared.worker.Worker.{Worker}
use Rattle.worker_pool.specs.Desks.{IsDesk}
use Rattle.worker_pool.specs.Workers.{IsAtWork}

module _ {I : Type 0} {g : Ghosts I} where
  -- a worker has tasks and ackers of the topology and a seat, whatever its row
  pub record Rests (t : Topology) (board : Board) (w : Worker I g) : Type 0 where
    pub desks : AllByRecursion (IsDesk t) w.desks.items
    pub ackers : AllByRecursion (IsAcker t) w.ackers.items
    pub seat : IsSeatOf board w.seat
    pub fine : w.wants ≡ false

  -- after a stretch it has its row, and where it did not want memory all else
  pub record Came (t : Topology) (boxes : List (Mailbox Mail)) (board : Board) (w : Worker I g)
      : Type 0 where
    pub passes : ArePasses t boxes w.row.items
    pub work : w.wants ≡ false → IsAtWork t boxes board w
