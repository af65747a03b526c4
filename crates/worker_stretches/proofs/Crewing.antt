-- Workers that are made, and taken apart.
use Rattle.std.proofs.Common.{◌≡◌, ◌<◌, zero, suc, ◌+◌, Bool, true, false, List, [], ◌∷◌, ◌++◌, All, length, map, Vec, sym, refl, ap, subst, ◌∙◌, append_assoc, append-nil, arith}
use Rattle.std.specs.Prelude.{◌||◌}
use Rattle.std.specs.List.{AllByRecursion, AllZip}
use Rattle.std.specs.List.Sorted.{IsPermutation}
use Rattle.std.specs.declared.alloc.Global.{Global}
use Rattle.std.proofs.lemmas.List.{map-append}
use Rattle.std.proofs.lemmas.List.Sorted.{IsPermutation-append_comm, IsPermutation-append_right, IsPermutation-refl, IsPermutation-trans}
use Rattle.box_rows.specs.AllRows.{ArePassesIn, HasJoined, Row}
use Rattle.box_rows.specs.declared.mail.Mail.{Mail}
use Rattle.box_rows.specs.Mails.{last_box}
use Rattle.box_rows.specs.Rows.{ArePasses}
use Rattle.box_rows.specs.Splitting.{joined_views}
use Rattle.box_rows.proofs.AllRows.{one-fewer}
use Rattle.event_worlds.proofs.counted_items.Each.{each-back, each-front}
use Rattle.event_worlds.proofs.counted_items.Weighing.{weigh-append}
use Rattle.pass_numbers.specs.Numbers.{Numbered}
use Rattle.pass_numbers.proofs.Numbering.{any_order, one_numbered, one_whole}
use Rattle.pulse_board.specs.Books.{numbers_in}
use Rattle.pulse_board.specs.declared.rule.Book.{Book}
use Rattle.pulse_board.specs.declared.seat.Board.{Board}
use Rattle.pulse_board.specs.declared.seat.BoardSeat.{BoardSeat}
use Rattle.pulse_board.specs.Seats.{IsSeatOf, book_of}
use Rattle.event_worlds.specs.storm_ids.declared.ids.Ids.{Ghosts}
use Rattle.task_queues.specs.declared.pass.Mailbox.{Mailbox}
use Rattle.task_queues.specs.declared.pass.Pass.{Pass}
use Rattle.task_queues.specs.Passes.{view_of}
use Rattle.event_worlds.specs.topology_plan.Topology.{Topology}
use Rattle.worker_pool.specs.Ackers.{IsAcker}
use Rattle.worker_pool.specs.declared.acker.AckerDesk.{AckerDesk}
use Rattle.worker_pool.specs.declared.desk.TaskDesk.{TaskDesk}
use Rattle.worker_pool.specs.declared.worker.Worker.{Worker}
use Rattle.worker_pool.specs.Desks.{IsDesk}
use Rattle.worker_pool.specs.Workers.{IsReady}
use Rattle.worker_stretches.specs.Hands.{items_in}
use Rattle.worker_stretches.specs.Parts.{AreHands, HasEnough, HaveNumbers, IsOf, IsWholeSeat, ackers_in, book_in, desks_in, row_in}
use Rattle.worker_stretches.proofs.Zipping.{each-last, no_more, one-more}

-- the last of a list in the second place
books-second : (b c : Book) (books : List Book) → Numbered numbers_in (b ∷ (books ++ c ∷ [])) → Numbered numbers_in (b ∷ c ∷ books)
books-second b c books = any_order numbers_in (b ∷ (books ++ c ∷ [])) (b ∷ c ∷ books) (λ f. let a = weigh-append f books (c ∷ []) in omega arith)

books-last : (b c : Book) (books : List Book) → Numbered numbers_in (b ∷ c ∷ books) → Numbered numbers_in (b ∷ (books ++ c ∷ []))
books-last b c books = any_order numbers_in (b ∷ c ∷ books) (b ∷ (books ++ c ∷ [])) (λ f. let a = weigh-append f books (c ∷ []) in omega arith)

moved-over : {X Y : Type 0} (f : X → Y) (xs : List X) (x : X) (y : Y) (before rest all : List Y) → f x ≡ y → before ≡ y ∷ rest → map f xs ++ before ≡ all → map f (xs ++ x ∷ []) ++ rest ≡ all
moved-over f xs x y before rest all is front so_far =
    ap (λ zs. zs ++ rest) (map-append f xs (x ∷ [])) ∙ append_assoc (map f xs) (f x ∷ []) rest ∙ ap (λ z. map f xs ++ z ∷ rest) is ∙ ap (λ zs. map f xs ++ zs) (sym front) ∙ so_far

items-last : {X : Type 0} (hands : List (Vec X Global)) (v : Vec X Global) → items_in (hands ++ v ∷ []) ≡ items_in hands ++ v.items
items-last [] v = append-nil v.items
items-last (h ∷ hands) v = ap (λ xs. h.items ++ xs) (items-last hands v) ∙ sym (append_assoc h.items (items_in hands) v.items)

pub either-false : (a b : Bool) → (a || b) ≡ false → (a ≡ false) × (b ≡ false)
either-false true b is = absurd (let e : true ≡ false = is in cc)
either-false false b is = (refl, is)

module _ {I : Type 0} {g : Ghosts I} (t : Topology) (boxes : List (Mailbox Mail)) (board : Board) where
  -- Workers for some of the rows and hands.
  pub record Crewing (rows : List Row) (hands : List (Vec (TaskDesk I g) Global)) (offices : List (Vec AckerDesk Global))
      (rest : List Row) (left : List (Vec (TaskDesk I g) Global)) (more : List (Vec AckerDesk Global)) (crews : List (Worker I g)) (own : BoardSeat) : Type 0 where
    pub many_left : length left ≡ length rest
    pub many_more : length more ≡ length rest
    pub many : length rest + length crews ≡ length hands
    pub rows_are : map row_in crews ++ rest ≡ rows
    pub hands_are : map desks_in crews ++ left ≡ hands
    pub offices_are : map ackers_in crews ++ more ≡ offices
    pub passes : AllByRecursion (ArePassesIn t boxes) rest
    pub desks : AllByRecursion (IsDesk t) (items_in left)
    pub ackers : AllByRecursion (IsAcker t) (items_in more)
    pub ready : AllByRecursion (IsReady t boxes board) crews
    pub seat : IsSeatOf board own
    pub numbers : HaveNumbers own crews

  pub crewing-none : (rows : List Row) (hands : List (Vec (TaskDesk I g) Global)) (offices : List (Vec AckerDesk Global)) (own : BoardSeat)
      → AllByRecursion (ArePassesIn t boxes) rows → AreHands t hands offices → length rows ≡ length hands → IsWholeSeat board own → Crewing rows hands offices rows hands offices [] own
  crewing-none rows hands offices own passes are many whole = record {
    many_left = sym many;
    many_more = are.many ∙ sym many;
    many = let e : length rows + 0 ≡ length hands = omega arith in e;
    rows_are = refl;
    hands_are = refl;
    offices_are = refl;
    passes = passes;
    desks = are.desks;
    ackers = are.ackers;
    ready = tt;
    seat = whole.of_board;
    numbers = one_numbered numbers_in (book_of own) whole.whole;
  }

  pub crewing-more : (rows : List Row) (hands : List (Vec (TaskDesk I g) Global)) (offices : List (Vec AckerDesk Global))
      (rest rest' : List Row) (left left' : List (Vec (TaskDesk I g) Global)) (more more' : List (Vec AckerDesk Global)) (crews : List (Worker I g)) (w : Worker I g) (own own' : BoardSeat)
      → Crewing rows hands offices rest left more crews own → rest ≡ w.row ∷ rest' → left ≡ w.desks ∷ left' → more ≡ w.ackers ∷ more' → length boxes ≡ last_box t + 1 → w.wants ≡ false
      → IsSeatOf board own' → IsSeatOf board w.seat → ((others : List Book) → Numbered numbers_in (book_of own ∷ others) → Numbered numbers_in (book_of own' ∷ book_of w.seat ∷ others))
      → Crewing rows hands offices rest' left' more' (crews ++ w ∷ []) own'
  crewing-more rows hands offices rest rest' left left' more more' crews w own own' so_far row_is desks_is ackers_is boxes_are fine seat' seat split =
      let row = subst (AllByRecursion (ArePassesIn t boxes)) row_is so_far.passes in
      let desks = subst (λ hs. AllByRecursion (IsDesk t) (items_in hs)) desks_is so_far.desks in
      let ackers = subst (λ hs. AllByRecursion (IsAcker t) (items_in hs)) ackers_is so_far.ackers in record {
        many_left = let a = so_far.many_left in let b = ap length row_is in let c = ap length desks_is in omega arith;
        many_more = let a = so_far.many_more in let b = ap length row_is in let c = ap length ackers_is in omega arith;
        many = let a = so_far.many in let b = ap length row_is in let c = one-more crews w in omega arith;
        rows_are = moved-over row_in crews w w.row rest rest' rows refl row_is so_far.rows_are;
        hands_are = moved-over desks_in crews w w.desks left left' hands refl desks_is so_far.hands_are;
        offices_are = moved-over ackers_in crews w w.ackers more more' offices refl ackers_is so_far.offices_are;
        passes = row.1;
        desks = each-back (IsDesk t) w.desks.items (items_in left') desks;
        ackers = each-back (IsAcker t) w.ackers.items (items_in more') ackers;
        ready = each-last (IsReady t boxes board) crews w so_far.ready (record {
          work = record {
            passes = row.0;
            boxes_are = boxes_are;
            desks = each-front (IsDesk t) w.desks.items (items_in left') desks;
            ackers = each-front (IsAcker t) w.ackers.items (items_in more') ackers;
            seat = seat;
          };
          fine = fine;
        });
        seat = seat';
        numbers = subst (λ (bs : List Book). Numbered numbers_in (book_of own' ∷ bs)) (sym (map-append book_in crews (w ∷ []))) (books-last (book_of own') (book_of w.seat) (map book_in crews) (split (map book_in crews) so_far.numbers));
      }

  -- ---- what is left of workers

  pub record Parting (crews : List (Worker I g)) (row : List (Pass Mail)) (rest : List (Worker I g)) (now : List (Pass Mail)) (own : BoardSeat)
      (given : List (Vec (TaskDesk I g) Global)) (met : List (Vec AckerDesk Global)) (wants : Bool) : Type 0 where
    pub passes : ArePasses t boxes now
    pub of_them : AllByRecursion (IsOf t boxes board) rest
    pub joined : HasJoined row (map row_in crews) now (map row_in rest)
    pub seat : IsSeatOf board own
    pub numbers : HaveNumbers own rest
    pub desks : IsPermutation (items_in (map desks_in crews)) (items_in given ++ items_in (map desks_in rest))
    pub ackers : IsPermutation (items_in (map ackers_in crews)) (items_in met ++ items_in (map ackers_in rest))
    pub many : length met ≡ length given
    pub room : length rest + length given ≡ length crews
    pub enough : wants ≡ false → AllByRecursion HasEnough rest → AllByRecursion HasEnough crews

  pub parting-none : (crews : List (Worker I g)) (row : List (Pass Mail)) (own : BoardSeat) → ArePasses t boxes row → AllByRecursion (IsOf t boxes board) crews → IsSeatOf board own → HaveNumbers own crews
      → Parting crews row crews row own [] [] false
  parting-none crews row own passes are seat numbers = record {
    passes = passes;
    of_them = are;
    joined = record { sent = λ f. refl; taken = λ f. refl; numbers = λ n all. all };
    seat = seat;
    numbers = numbers;
    desks = IsPermutation-refl (items_in (map desks_in crews));
    ackers = IsPermutation-refl (items_in (map ackers_in crews));
    many = refl;
    room = let e : length crews + 0 ≡ length crews = omega arith in e;
    enough = λ is all. all;
  }

  -- a hand goes from the end of one list to that of another
  hand-over : {X : Type 0} (hand : Worker I g → Vec X Global) (all : List X) (given : List (Vec X Global)) (rest fewer : List (Worker I g)) (w : Worker I g) → rest ≡ fewer ++ w ∷ []
      → IsPermutation all (items_in given ++ items_in (map hand rest)) → IsPermutation all (items_in (given ++ hand w ∷ []) ++ items_in (map hand fewer))
  hand-over hand all given rest fewer w is so_far =
      let parts : items_in (map hand rest) ≡ items_in (map hand fewer) ++ (hand w).items =
      ap (λ ws. items_in (map hand ws)) is ∙ ap items_in (map-append hand fewer (w ∷ [])) ∙ items-last (map hand fewer) (hand w) in
      let then = subst (λ xs. IsPermutation all (items_in given ++ xs)) parts so_far in
      let ended = ap (λ xs. xs ++ items_in (map hand fewer)) (items-last given (hand w)) ∙ append_assoc (items_in given) (hand w).items (items_in (map hand fewer)) in
      subst (IsPermutation all) (sym ended)
      (IsPermutation-trans all (items_in given ++ (items_in (map hand fewer) ++ (hand w).items)) (items_in given ++ ((hand w).items ++ items_in (map hand fewer))) then
      (IsPermutation-append_right (items_in given) (items_in (map hand fewer) ++ (hand w).items) ((hand w).items ++ items_in (map hand fewer)) (IsPermutation-append_comm (items_in (map hand fewer)) (hand w).items)))

  pub parting-more : (crews : List (Worker I g)) (row : List (Pass Mail)) (rest fewer : List (Worker I g)) (w : Worker I g) (now then : List (Pass Mail)) (own own' : BoardSeat)
      (given : List (Vec (TaskDesk I g) Global)) (met : List (Vec AckerDesk Global)) (wants wants' : Bool)
      → Parting crews row rest now own given met wants → rest ≡ fewer ++ w ∷ [] → ArePasses t boxes then → map view_of then ≡ joined_views (map view_of now) (map view_of w.row.items)
      → IsSeatOf board own' → ((others : List Book) → Numbered numbers_in (book_of own ∷ book_of w.seat ∷ others) → Numbered numbers_in (book_of own' ∷ others)) → wants' ≡ (wants || w.wants)
      → Parting crews row fewer then own' (given ++ w.desks ∷ []) (met ++ w.ackers ∷ []) wants'
  parting-more crews row rest fewer w now then own own' given met wants wants' so_far is passes views seat join short =
      let them = subst (AllByRecursion (IsOf t boxes board)) is so_far.of_them in
      let last = each-back (IsOf t boxes board) fewer (w ∷ []) them in record {
        passes = passes;
        of_them = each-front (IsOf t boxes board) fewer (w ∷ []) them;
        joined = one-fewer t boxes row now then (map row_in crews) (map row_in rest) (map row_in fewer) w.row so_far.joined (ap (map row_in) is ∙ map-append row_in fewer (w ∷ [])) so_far.passes last.0.passes views;
        seat = seat;
        numbers = join (map book_in fewer) (books-second (book_of own) (book_of w.seat) (map book_in fewer)
            (subst (λ (bs : List Book). Numbered numbers_in (book_of own ∷ bs)) (ap (map book_in) is ∙ map-append book_in fewer (w ∷ [])) so_far.numbers));
        desks = hand-over desks_in (items_in (map desks_in crews)) given rest fewer w is so_far.desks;
        ackers = hand-over ackers_in (items_in (map ackers_in crews)) met rest fewer w is so_far.ackers;
        many = let a = one-more met w.ackers in let b = one-more given w.desks in let c = so_far.many in omega arith;
        room = let a = one-more given w.desks in let b = ap length is in let c = one-more fewer w in let d = so_far.room in omega arith;
        enough = λ none all.
            let parts = either-false wants w.wants (sym short ∙ none) in
            so_far.enough parts.0 (subst (AllByRecursion HasEnough) (sym is) (each-last HasEnough fewer w all parts.1));
      }

  pub parted : (crews : List (Worker I g)) (row now : List (Pass Mail)) (own : BoardSeat) (given : List (Vec (TaskDesk I g) Global)) (met : List (Vec AckerDesk Global)) (wants : Bool)
      → Parting crews row [] now own given met wants → IsWholeSeat board own
  parted crews row now own given met wants all = record { of_board = all.seat; whole = one_whole numbers_in (book_of own) all.numbers }

-- from pairs by recursion to pairs by places
pub all-by : {X : Type 0} (P : X → Type 0) (xs : List X) → AllByRecursion P xs → All P xs
all-by P [] all k d below = absurd (omega arith)
all-by P (x ∷ xs) all zero d below = all.0
all-by P (x ∷ xs) all (suc k) d below = all-by P xs all.1 k d (omega arith)

pub zip-nothing : {X : Type 0} (R : X → X → Type 0) (xs : List X) → length xs ≡ 0 → AllZip R xs xs
zip-nothing R [] none = tt
zip-nothing R (x ∷ xs) none = absurd (omega arith)

module _ {I : Type 0} {g : Ghosts I} (t : Topology) (boxes : List (Mailbox Mail)) (board : Board) where
  pub some-left : (rows : List Row) (hands : List (Vec (TaskDesk I g) Global)) (offices : List (Vec AckerDesk Global)) (rest rest' : List Row) (row : Row)
      (left : List (Vec (TaskDesk I g) Global)) (more : List (Vec AckerDesk Global)) (crews : List (Worker I g)) (own : BoardSeat)
      → Crewing t boxes board rows hands offices rest left more crews own → rest ≡ row ∷ rest' → (0 < length left) × (0 < length more) × (length crews < length hands)
  some-left rows hands offices rest rest' row left more crews own so_far is =
      let e = ap length is in let a = so_far.many_left in let b = so_far.many_more in let c = so_far.many in (omega arith, omega arith, omega arith)

  pub all-crewed : (rows : List Row) (hands : List (Vec (TaskDesk I g) Global)) (offices : List (Vec AckerDesk Global)) (rest : List Row)
      (left : List (Vec (TaskDesk I g) Global)) (more : List (Vec AckerDesk Global)) (crews : List (Worker I g)) (own : BoardSeat)
      → Crewing t boxes board rows hands offices rest left more crews own → rest ≡ []
      → (map row_in crews ≡ rows) × (map desks_in crews ≡ hands) × (map ackers_in crews ≡ offices)
  all-crewed rows hands offices rest left more crews own so_far is =
      let e = ap length is in let a = so_far.many_left in let b = so_far.many_more in
      let l = no_more left (omega arith) in
      let m = no_more more (omega arith) in
      (ended (map row_in crews) rest rows is so_far.rows_are, ended (map desks_in crews) left hands l so_far.hands_are, ended (map ackers_in crews) more offices m so_far.offices_are)
    where
      ended : {X : Type 0} (xs ys zs : List X) → ys ≡ [] → xs ++ ys ≡ zs → xs ≡ zs
      ended xs ys zs none is = sym (append-nil xs) ∙ ap (λ ws. xs ++ ws) (sym none) ∙ is

  pub room-left : (crews : List (Worker I g)) (row : List (Pass Mail)) (rest fewer : List (Worker I g)) (w : Worker I g) (now : List (Pass Mail)) (own : BoardSeat)
      (given : List (Vec (TaskDesk I g) Global)) (met : List (Vec AckerDesk Global)) (wants : Bool)
      → Parting t boxes board crews row rest now own given met wants → rest ≡ fewer ++ w ∷ [] → (length given < length crews) × (length met < length crews) × IsOf t boxes board w
  room-left crews row rest fewer w now own given met wants so_far is =
      let e = ap length is in let o = one-more fewer w in let r = so_far.room in let m = so_far.many in
      (omega arith, omega arith, (each-back (IsOf t boxes board) fewer (w ∷ []) (subst (AllByRecursion (IsOf t boxes board)) is so_far.of_them)).0)
