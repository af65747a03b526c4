-- What a seat keeps, and a worker with it.
use Rattle.std.proofs.Common.{◌≡◌, ◌≤◌, ◌+◌, ℕ, Bool, true, false, ◌||◌, List, [], ◌∷◌, map, refl, ap, sym, subst, ◌∙◌, arith}
use Rattle.std.specs.List.{AllByRecursion}
use Rattle.std.specs.Prelude.{max, nat_lt}
use Rattle.event_worlds.specs.bolt_ops.RowOp.{Custom}
use Rattle.box_rows.specs.declared.mail.Mail.{Mail}
use Rattle.box_rows.specs.Rows.{ArePasses, IsSameRow, numbers_at}
use Rattle.pulse_board.specs.Books.{looked, made_halt, with_halt}
use Rattle.pulse_board.specs.declared.rule.Book.{Book}
use Rattle.pulse_board.specs.declared.seat.Board.{Board}
use Rattle.pulse_board.specs.declared.seat.BoardSeat.{BoardSeat}
use Rattle.pulse_board.specs.Rule.{bit}
use Rattle.pulse_board.specs.Seats.{IsSeatOf, book_of}
use Rattle.event_worlds.specs.storm_ids.declared.ids.Ids.{Ghosts}
use Rattle.task_queues.specs.declared.pass.Mailbox.{Mailbox}
use Rattle.task_queues.specs.declared.pass.Pass.{Pass}
use Rattle.event_worlds.specs.topology_plan.Topology.{Topology}
use Rattle.worker_pool.specs.declared.acker.AckerDesk.{AckerDesk}
use Rattle.worker_pool.specs.declared.desk.TaskDesk.{TaskDesk}
use Rattle.worker_pool.specs.declared.worker.Worker.{Worker}
use Rattle.worker_pool.specs.Crews.{AckersSay, AreNotPast, AreUpTo, TasksSay}
use Rattle.worker_pool.specs.Desks.{IsTaskHeld}
use Rattle.worker_pool.specs.Workers.{Did, Ended, HasWorked, IsAtWork, Keeps, KeepsBook, Stretched, Turned}
use Rattle.worker_pool.proofs.Adding.{did-none, did-then}
use Rattle.worker_pool.proofs.Desking.{task_stays_held}
use Rattle.worker_pool.proofs.Lists.{zip-by, zip-same}
use Rattle.worker_pool.proofs.Saying.{true-false}

book-same : (b : Book) → KeepsBook b b
book-same b = record { numbers = refl; drawn = refl; grows = λ fresh. (fresh, omega arith) }

book-then : (a b c : Book) → KeepsBook a b → KeepsBook b c → KeepsBook a c
book-then a b c one two = record {
  numbers = two.numbers ∙ one.numbers;
  drawn = two.drawn ∙ one.drawn;
  grows = λ fresh. let q = two.grows fresh in let p = one.grows q.0 in let x = p.1 in let y = q.1 in (p.0, omega arith);
}

looked-drawn : (b : Book) (count : ℕ) (v : Bool) → nat_lt count b.seen ≡ v → (looked b count).drawn ≡ b.drawn
looked-drawn b count true is = rw is refl
looked-drawn b count false is = rw is refl

looked-numbers : (b : Book) (count : ℕ) (v : Bool) → nat_lt count b.seen ≡ v → (looked b count).numbers ≡ b.numbers
looked-numbers b count true is = rw is refl
looked-numbers b count false is = rw is refl

looked-fresh : (b : Book) (count : ℕ) (v : Bool) → nat_lt count b.seen ≡ v → (looked b count).wrapped ≡ false → b.wrapped ≡ false
looked-fresh b count true is fresh = let marks : (looked b count).wrapped ≡ true = rw is refl in true-false (sym marks ∙ fresh)
looked-fresh b count false is fresh = let stays : (looked b count).wrapped ≡ b.wrapped = rw is refl in sym stays ∙ fresh

pub book-looked : (a b : Book) (count : ℕ) → b ≡ looked a count → (b.wrapped ≡ false → count ≡ b.seen) → (b.wrapped ≡ false → a.seen ≤ count) → KeepsBook a b
book-looked a b count is seen grows = record {
  numbers = ap (λ (x : Book). x.numbers) is ∙ looked-numbers a count (nat_lt count a.seen) refl;
  drawn = ap (λ (x : Book). x.drawn) is ∙ looked-drawn a count (nat_lt count a.seen) refl;
  grows = λ fresh. (
    looked-fresh a count (nat_lt count a.seen) refl (ap (λ (x : Book). x.wrapped) (sym is) ∙ fresh),
    let s = seen fresh in let g = grows fresh in omega arith,
  );
}

pub book-halted : (a b : Book) (halted : Bool) → b ≡ with_halt a halted → KeepsBook a b
book-halted a b halted is = record {
  numbers = ap (λ (x : Book). x.numbers) is;
  drawn = ap (λ (x : Book). x.drawn) is;
  grows = λ fresh. (ap (λ (x : Book). x.wrapped) (sym is) ∙ fresh, let e = ap (λ (x : Book). x.seen) is in omega arith);
}

pub book-halts : (a b : Book) → b ≡ made_halt a → KeepsBook a b
book-halts a b is = record {
  numbers = ap (λ (x : Book). x.numbers) is;
  drawn = ap (λ (x : Book). x.drawn) is;
  grows = λ fresh. (ap (λ (x : Book). x.wrapped) (sym is) ∙ fresh, let e = ap (λ (x : Book). x.seen) is in omega arith);
}

module _ {I : Type 0} {g : Ghosts I} (t : Topology) (boxes : List (Mailbox Mail)) (board : Board) where
  pub keeps-none : (w : Worker I g) → ArePasses t boxes w.row.items → IsSeatOf board w.seat → Keeps t boxes board w w
  keeps-none w passes seat = record { passes = passes; numbers = refl; seat = seat; book = book-same (book_of w.seat) }

  pub keeps-then : (a b c : Worker I g) → Keeps t boxes board a b → Keeps t boxes board b c → Keeps t boxes board a c
  keeps-then a b c one two = record {
    passes = two.passes;
    numbers = two.numbers ∙ one.numbers;
    seat = two.seat;
    book = book-then (book_of a.seat) (book_of b.seat) (book_of c.seat) one.book two.book;
  }

  -- its seat moved alone
  pub keeps-seat : (a b : Worker I g) → ArePasses t boxes a.row.items → b.row ≡ a.row → IsSeatOf board b.seat → KeepsBook (book_of a.seat) (book_of b.seat) → Keeps t boxes board a b
  keeps-seat a b passes row seat book = record {
    passes = subst (λ r. ArePasses t boxes r.items) (sym row) passes;
    numbers = ap (λ r. map numbers_at r.items) row;
    seat = seat;
    book = book;
  }

-- ---- turns

either : (a b : Bool) → bit (a || b) ≤ bit a + bit b
either true true = omega arith
either true false = omega arith
either false true = omega arith
either false false = omega arith

both : {A B C : Type 0} (a b : Bool) → (a ≡ false → A) → (b ≡ false → B) → (A → B → C) → (a || b) ≡ false → C
both true b one two then none = true-false none
both false true one two then none = true-false none
both false false one two then none = then (one refl) (two refl)

pub looked-seen : (b : Book) (count : ℕ) (old new : List AckerDesk) → (b.wrapped ≡ false → count ≡ b.seen) → AreUpTo count old new → b.wrapped ≡ false → AreUpTo b.seen old new
looked-seen b count old new seen all fresh = subst (λ (n : ℕ). AreUpTo n old new) (seen fresh) all

-- ackers aged up to a tick, and then up to a later one
up-then : (one two : ℕ) → one ≤ two → (a b c : List AckerDesk) → AreUpTo one a b → AreUpTo two b c → AreUpTo two a c
up-then one two later =
    zip-by (λ (x y : AckerDesk). y.counted ≡ max x.counted one) (λ (x y : AckerDesk). y.counted ≡ max x.counted two) (λ (x y : AckerDesk). y.counted ≡ max x.counted two)
    (λ x y z p q. omega arith)

-- they aged no further than a tick, and then up to a later one
past-then : (one two : ℕ) → one ≤ two → (a b c : List AckerDesk) → AreNotPast one a b → AreUpTo two b c → AreNotPast two a c
past-then one two later =
    zip-by (λ (x y : AckerDesk). y.counted ≤ max x.counted one) (λ (x y : AckerDesk). y.counted ≡ max x.counted two) (λ (x y : AckerDesk). y.counted ≤ max x.counted two)
    (λ x y z p q. omega arith)

past-none : (aged : ℕ) (ackers : List AckerDesk) → AreNotPast aged ackers ackers
past-none aged = zip-same (λ (x y : AckerDesk). y.counted ≤ max x.counted aged) (λ x. omega arith)

tasks-same : {I : Type 0} {g : Ghosts I} (desks : List (TaskDesk I g)) (was is : List (Pass Mail)) → IsSameRow was is → AllByRecursion (λ (d : TaskDesk I g). IsTaskHeld d was) desks → AllByRecursion (λ (d : TaskDesk I g). IsTaskHeld d is) desks
tasks-same [] was is same held = tt
tasks-same (d ∷ desks) was is same held = (task_stays_held d was is same held.0, tasks-same desks was is same held.1)

module _ {I : Type 0} {g : Ghosts I} (t : Topology) where
  -- tasks had their turns, and then ackers
  pub turned-both : (worked met : Bool) (old new : Worker I g) (mid : List (Pass Mail)) → TasksSay worked old.desks.items new.desks.items old.row.items mid → AckersSay t met old.ackers.items new.ackers.items mid new.row.items
      → ((book_of new.seat).wrapped ≡ false → AreUpTo (book_of new.seat).seen old.ackers.items new.ackers.items) → Turned t (worked || met) old new
  turned-both worked met old new mid tasks ackers ticked = record {
    done = record { least = let d = tasks.done.least in let e = ackers.done.least in let n = either worked met in omega arith };
    held = both worked met tasks.held ackers.held (λ one two. record { tasks = tasks-same new.desks.items mid new.row.items two.0 one.1; ackers = two.1 });
    ticked = ticked;
  }

  -- one in which nothing was done, and another
  pub turned-then : (did : Bool) (a b c : Worker I g) → KeepsBook (book_of b.seat) (book_of c.seat) → Turned t false a b → Turned t did b c → Turned t did a c
  turned-then did a b c keeps one two = record {
    done = record { least = let d = one.done.least in let e = two.done.least in omega arith };
    held = two.held;
    ticked = λ fresh.
        let g = keeps.grows fresh in
        up-then (book_of b.seat).seen (book_of c.seat).seen g.1 a.ackers.items b.ackers.items c.ackers.items (one.ticked g.0) (two.ticked fresh);
  }

  pub worked-then : (m n : ℕ) (a b c : Worker I g) → HasWorked m a b → HasWorked n b c → HasWorked (m + n) a c
  worked-then m n a b c one two = record { least = let d = one.least in let e = two.least in omega arith }

-- ---- stretches

module _ {I : Type 0} {g : Ghosts I} (tells : I → (ℕ → ℕ) → ℕ → Type 0) (t : Topology) (boxes : List (Mailbox Mail)) (board : Board) (custom : Custom) where
  -- a stretch after so many turns in which something was done
  pub record Going (n : ℕ) (old new : Worker I g) : Type 0 where
    pub work : IsAtWork t boxes board new
    pub keeps : Keeps t boxes board old new
    pub did : Did tells t custom old new
    pub worked : HasWorked n old new
    pub ticked : (book_of new.seat).wrapped ≡ false → AreNotPast (book_of new.seat).seen old.ackers.items new.ackers.items

  pub going-start : (w : Worker I g) (m : ℕ) → IsAtWork t boxes board w → Going 0 w (record w { turns = m })
  going-start w m work = record {
    work = record { passes = work.passes; boxes_are = work.boxes_are; desks = work.desks; ackers = work.ackers; seat = work.seat };
    keeps = keeps-seat t boxes board w (record w { turns = m }) work.passes refl work.seat (book-same (book_of w.seat));
    did = did-none tells t custom w.desks.items w.ackers.items w.row.items;
    worked = record { least = omega arith };
    ticked = λ fresh. past-none (book_of w.seat).seen w.ackers.items;
  }

  -- the board was looked at
  pub going-looked : (n : ℕ) (a b : Worker I g) (seat : BoardSeat) (halted : Bool) → Going n a b → IsSeatOf board seat → book_of seat ≡ with_halt (book_of b.seat) halted → Going n a (record b { seat = seat })
  going-looked n a b seat halted so_far of_board book = record {
    work = record { passes = so_far.work.passes; boxes_are = so_far.work.boxes_are; desks = so_far.work.desks; ackers = so_far.work.ackers; seat = of_board };
    keeps = keeps-then t boxes board a b (record b { seat = seat }) so_far.keeps
        (keeps-seat t boxes board b (record b { seat = seat }) so_far.work.passes refl of_board (book-halted (book_of b.seat) (book_of seat) halted book));
    did = so_far.did;
    worked = record { least = so_far.worked.least };
    ticked = λ fresh.
        subst (λ (n : ℕ). AreNotPast n a.ackers.items b.ackers.items) (ap (λ (x : Book). x.seen) (sym book))
        (so_far.ticked (ap (λ (x : Book). x.wrapped) (sym book) ∙ fresh));
  }

  -- there was a turn
  pub going-turn : (n : ℕ) (did : Bool) (a b c : Worker I g) → Going n a b → Keeps t boxes board b c → IsAtWork t boxes board c → Did tells t custom b c → Turned t did b c → Going (n + bit did) a c
  going-turn n did a b c so_far keeps work more turned = record {
    work = work;
    keeps = keeps-then t boxes board a b c so_far.keeps keeps;
    did = did-then tells t custom a.desks.items b.desks.items c.desks.items a.ackers.items b.ackers.items c.ackers.items a.row.items b.row.items c.row.items so_far.did more;
    worked = worked-then t n (bit did) a b c so_far.worked turned.done;
    ticked = λ fresh.
        let g = keeps.book.grows fresh in
        past-then (book_of b.seat).seen (book_of c.seat).seen g.1 a.ackers.items b.ackers.items c.ackers.items (so_far.ticked g.0) (turned.ticked fresh);
  }

  -- it is counted
  pub going-counted : (n m : ℕ) (a b : Worker I g) → Going n a b → Going n a (record b { turns = m })
  going-counted n m a b so_far = record {
    work = record { passes = so_far.work.passes; boxes_are = so_far.work.boxes_are; desks = so_far.work.desks; ackers = so_far.work.ackers; seat = so_far.work.seat };
    keeps = record { passes = so_far.keeps.passes; numbers = so_far.keeps.numbers; seat = so_far.keeps.seat; book = so_far.keeps.book };
    did = so_far.did;
    worked = record { least = so_far.worked.least };
    ticked = so_far.ticked;
  }

  pub stretched : (n : ℕ) (a b : Worker I g) → Going n a b → b.wants ≡ false → b.turns ≡ n → Ended t b → Stretched tells t boxes board custom a b
  stretched n a b so_far fine turns ended = record {
    keeps = so_far.keeps;
    work = λ w. so_far.work;
    did = λ w. so_far.did;
    done = λ w. subst (λ (k : ℕ). HasWorked k a b) (sym turns) so_far.worked;
    ticked = λ w. so_far.ticked;
    ended = λ w. ended;
    halts = λ w. true-false (sym w ∙ fine);
  }

  -- memory was wanted, and the board is halted
  pub stretched-short : (n : ℕ) (a b c : Worker I g) (seat : BoardSeat) → Going n a b → Keeps t boxes board b c → IsSeatOf board seat → book_of seat ≡ made_halt (book_of c.seat) → Stretched tells t boxes board custom a (record c { seat = seat; wants = true })
  stretched-short n a b c seat so_far keeps of_board book = record {
    keeps = keeps-then t boxes board a b (record c { seat = seat; wants = true }) so_far.keeps
        (keeps-then t boxes board b c (record c { seat = seat; wants = true }) keeps
        (keeps-seat t boxes board c (record c { seat = seat; wants = true }) keeps.passes refl of_board (book-halts (book_of c.seat) (book_of seat) book)));
    work = λ w. true-false w;
    did = λ w. true-false w;
    done = λ w. true-false w;
    ticked = λ w. true-false w;
    ended = λ w. true-false w;
    halts = λ w. ap (λ (x : Book). x.made) book;
  }
