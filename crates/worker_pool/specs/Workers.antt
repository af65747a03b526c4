-- Workers, and what they say of their turns and stretches. This project's own.
use Rattle.std.specs.Prelude.{◌≡◌, ◌≤◌, ◌⊎◌, ℕ, ◌+◌, Bool, true, false, length, map, List}
use Rattle.std.specs.List.{AllByRecursion}
use Rattle.event_worlds.specs.bolt_ops.RowOp.{Custom}
use Rattle.box_rows.specs.declared.mail.Mail.{Mail}
use Rattle.box_rows.specs.Mails.{last_box}
use Rattle.box_rows.specs.Rows.{ArePasses, numbers_at}
use Rattle.pulse_board.specs.Books.{numbers_in}
use Rattle.pulse_board.specs.declared.rule.Book.{Book}
use Rattle.pulse_board.specs.declared.seat.Board.{Board}
use Rattle.event_worlds.specs.counted_items.Weights.{weigh}
use Rattle.pulse_board.specs.Rule.{bit}
use Rattle.pulse_board.specs.Seats.{IsSeatOf, book_of}
use Rattle.event_worlds.specs.storm_ids.declared.ids.Ids.{Ghosts}
use Rattle.task_queues.specs.declared.pass.Mailbox.{Mailbox}
use Rattle.event_worlds.specs.topology_plan.Topology.{Topology}
use Rattle.worker_pool.specs.declared.acker.AckerDesk.{AckerDesk}
use Rattle.worker_pool.specs.declared.desk.TaskDesk.{TaskDesk}
use Rattle.worker_pool.specs.declared.worker.Worker.{Worker}
use Rattle.worker_pool.specs.Ackers.{IsAcker, IsAckerHeld, acker_left}
use Rattle.worker_pool.specs.Crews.{AreNotPast, AreUpTo, CrewDid}
use Rattle.worker_pool.specs.Desks.{IsDesk, IsTaskHeld, task_left}
use Rattle.worker_pool.specs.Says.{HasDone}

-- how many turns a stretch has at most
abbrev pub most_turns : ℕ
most_turns = 4096

-- a seat drew no tick, keeps its numbers, and does not see fewer ticks later
pub record KeepsBook (old new : Book) : Type 0 where
  pub numbers : numbers_in new ≡ numbers_in old
  pub drawn : new.drawn ≡ old.drawn
  pub grows : new.wrapped ≡ false → (old.wrapped ≡ false) × (old.seen ≤ new.seen)

module _ {I : Type 0} {g : Ghosts I} where
  -- a worker has a pass to each box, and tasks and ackers of the topology
  pub record IsAtWork (t : Topology) (boxes : List (Mailbox Mail)) (board : Board) (w : Worker I g)
      : Type 0 where
    pub passes : ArePasses t boxes w.row.items
    pub boxes_are : length boxes ≡ last_box t + 1
    pub desks : AllByRecursion (IsDesk t) w.desks.items
    pub ackers : AllByRecursion (IsAcker t) w.ackers.items
    pub seat : IsSeatOf board w.seat

  -- and has not wanted memory
  pub record IsReady (t : Topology) (boxes : List (Mailbox Mail)) (board : Board) (w : Worker I g)
      : Type 0 where
    pub work : IsAtWork t boxes board w
    pub fine : w.wants ≡ false

  -- a worker kept its passes and its seat, each with the numbers that it had
  pub record Keeps (t : Topology) (boxes : List (Mailbox Mail)) (board : Board)
      (old new : Worker I g) : Type 0 where
    pub passes : ArePasses t boxes new.row.items
    pub numbers : map numbers_at new.row.items ≡ map numbers_at old.row.items
    pub seat : IsSeatOf board new.seat
    pub book : KeepsBook (book_of old.seat) (book_of new.seat)

  -- its tasks and ackers did what they did
  abbrev pub Did : (I → (ℕ → ℕ) → ℕ → Type 0) → Topology → Custom → Worker I g → Worker I g
      → Type 0
  Did tells t custom old new =
      CrewDid tells t custom old.desks.items new.desks.items old.ackers.items new.ackers.items
      old.row.items new.row.items

  -- what was taken and is left to execute or meet
  abbrev pub left_at : Worker I g → ℕ
  left_at w = weigh task_left w.desks.items + weigh acker_left w.ackers.items

  -- so much was done, and so much is left
  abbrev pub HasWorked : ℕ → Worker I g → Worker I g → Type 0
  HasWorked n old new = HasDone n (left_at old) old.row.items (left_at new) new.row.items

  -- none of a worker's tasks and ackers can do anything
  pub record IsHeldUp (t : Topology) (w : Worker I g) : Type 0 where
    pub tasks : AllByRecursion (λ (d : TaskDesk I g). IsTaskHeld d w.row.items) w.desks.items
    pub ackers : AllByRecursion (λ (d : AckerDesk). IsAckerHeld t d w.row.items) w.ackers.items

  -- what a turn says: something was done, or the worker is held up; its ackers rotated
  pub record Turned (t : Topology) (did : Bool) (old new : Worker I g) : Type 0 where
    pub done : HasWorked (bit did) old new
    pub held : did ≡ false → IsHeldUp t new
    pub ticked : (book_of new.seat).wrapped ≡ false
        → AreUpTo (book_of new.seat).seen old.ackers.items new.ackers.items

  -- why a stretch ended, and so many turns in which something was done
  pub record Ended (t : Topology) (w : Worker I g) : Type 0 where
    pub is : ((book_of w.seat).halted ≡ true) ⊎ (IsHeldUp t w ⊎ (w.turns ≡ most_turns))

  -- What a worker says of its stretch: it kept its passes and its seat; where it did not want
  -- memory it is at work still, and its tasks and ackers did what they did, something in each of
  -- its turns, until it was held up, and no acker counted a tick that its seat has not seen; where
  -- it did it made a halt.
  pub record Stretched (tells : I → (ℕ → ℕ) → ℕ → Type 0) (t : Topology)
      (boxes : List (Mailbox Mail)) (board : Board) (custom : Custom) (old new : Worker I g)
      : Type 0 where
    pub keeps : Keeps t boxes board old new
    pub work : new.wants ≡ false → IsAtWork t boxes board new
    pub did : new.wants ≡ false → Did tells t custom old new
    pub done : new.wants ≡ false → HasWorked new.turns old new
    pub ticked : new.wants ≡ false → (book_of new.seat).wrapped ≡ false
        → AreNotPast (book_of new.seat).seen old.ackers.items new.ackers.items
    pub ended : new.wants ≡ false → Ended t new
    pub halts : new.wants ≡ true → (book_of new.seat).made ≡ true
