-- What workers hold, each a list in the order of the workers. This project's own.
use Rattle.std.specs.Prelude.{◌≡◌, ◌≤◌, ℕ, List, [], ◌∷◌, Vec, false, length, map, vec_capacity}
use Rattle.std.specs.List.{AllByRecursion}
use Rattle.std.specs.declared.alloc.Global.{Global}
use Rattle.box_rows.specs.AllRows.{Row}
use Rattle.box_rows.specs.declared.mail.Mail.{Mail}
use Rattle.box_rows.specs.Rows.{ArePasses}
use Rattle.pass_numbers.specs.Numbers.{IsWhole, Numbered}
use Rattle.pulse_board.specs.Books.{numbers_in}
use Rattle.pulse_board.specs.declared.rule.Book.{Book}
use Rattle.pulse_board.specs.declared.seat.Board.{Board}
use Rattle.pulse_board.specs.declared.seat.BoardSeat.{BoardSeat}
use Rattle.pulse_board.specs.Seats.{IsSeatOf, book_of}
use Rattle.event_worlds.specs.storm_ids.declared.ids.Ids.{Ghosts}
use Rattle.task_queues.specs.declared.pass.Mailbox.{Mailbox}
use Rattle.event_worlds.specs.topology_plan.Topology.{Topology}
use Rattle.worker_pool.specs.Ackers.{IsAcker}
use Rattle.worker_pool.specs.declared.acker.AckerDesk.{AckerDesk}
use Rattle.worker_pool.specs.declared.desk.TaskDesk.{TaskDesk}
use Rattle.worker_pool.specs.declared.worker.Worker.{Worker}
use Rattle.worker_pool.specs.Desks.{IsDesk}
use Rattle.worker_stretches.specs.Hands.{items_in}

-- a seat is of the board, and has all its numbers
pub record IsWholeSeat (board : Board) (seat : BoardSeat) : Type 0 where
  pub of_board : IsSeatOf board seat
  pub whole : IsWhole (numbers_in (book_of seat))

-- a book knows what another does: where its seat saw no wrapped count the other's saw none, and no
-- greater count
abbrev pub Knows : Book → Book → Type 0
Knows book other = book.wrapped ≡ false → (other.wrapped ≡ false) × (other.seen ≤ book.seen)

module _ {I : Type 0} {g : Ghosts I} where
  abbrev pub desks_in : Worker I g → Vec (TaskDesk I g) Global
  desks_in w = w.desks

  abbrev pub ackers_in : Worker I g → Vec AckerDesk Global
  ackers_in w = w.ackers

  abbrev pub row_in : Worker I g → Row
  row_in w = w.row

  abbrev pub book_in : Worker I g → Book
  book_in w = book_of w.seat

  -- the seat and those of workers have all numbers, each once
  abbrev pub HaveNumbers : BoardSeat → List (Worker I g) → Type 0
  HaveNumbers seat workers = Numbered numbers_in (book_of seat ∷ map book_in workers)

  -- hands of desks and of ackers are those of a plan, and there are as many
  pub record AreHands (t : Topology) (hands : List (Vec (TaskDesk I g) Global))
      (offices : List (Vec AckerDesk Global)) : Type 0 where
    pub desks : AllByRecursion (IsDesk t) (items_in hands)
    pub ackers : AllByRecursion (IsAcker t) (items_in offices)
    pub many : length offices ≡ length hands

  -- empty lists with room for so many workers, and for so many hands of each kind
  pub record AreRooms (count : ℕ) (crews : Vec (Worker I g) Global)
      (hands : Vec (Vec (TaskDesk I g) Global) Global) (offices : Vec (Vec AckerDesk Global) Global)
      : Type 0 where
    pub no_crew : crews.items ≡ []
    pub no_hand : hands.items ≡ []
    pub no_office : offices.items ≡ []
    pub for_crews : count ≤ vec_capacity crews
    pub for_hands : count ≤ vec_capacity hands
    pub for_offices : count ≤ vec_capacity offices

  -- a worker's seat drew no tick
  abbrev pub DrewNone : Worker I g → Type 0
  DrewNone w = (book_of w.seat).drawn ≡ []

  -- a book knows what that of a worker's seat does
  abbrev pub KnowsOf : Book → Worker I g → Type 0
  KnowsOf book w = Knows book (book_of w.seat)

  -- a worker's row and seat are of these boxes and this board, and it drew no tick
  pub record IsOf (t : Topology) (boxes : List (Mailbox Mail)) (board : Board) (w : Worker I g)
      : Type 0 where
    pub passes : ArePasses t boxes w.row.items
    pub seat : IsSeatOf board w.seat
    pub drawn : DrewNone w

  -- a worker did not want memory
  abbrev pub HasEnough : Worker I g → Type 0
  HasEnough w = w.wants ≡ false
