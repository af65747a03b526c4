-- A stretch of all workers over one row.
use Rattle.std.proofs.Common.{◌≡◌, ◌≤◌, ◌<◌, ℕ, suc, Bool, false, List, [], ◌∷◌, All, length, map, Vec, sym, refl, ap, subst, ◌∙◌, arith}
use Rattle.std.specs.List.{AllByRecursion, AllZip}
use Rattle.std.specs.List.Sorted.{IsPermutation}
use Rattle.std.specs.declared.alloc.Global.{Global}
use Rattle.std.proofs.lemmas.List.{length-map}
use Rattle.std.proofs.lemmas.List.Sorted.{All-permutation, IsPermutation-sym, IsPermutation-trans}
use Rattle.event_worlds.specs.bolt_ops.RowOp.{Custom}
use Rattle.box_rows.specs.AllRows.{AreAll, HasComeBack, HasJoined, HasSplit, Row, numbers_by, sent_by, taken_by}
use Rattle.box_rows.specs.declared.mail.Mail.{Mail}
use Rattle.box_rows.specs.FitRows.{AreWhole, IsFitRow}
use Rattle.box_rows.specs.Rows.{ArePasses, IsSameRow, sent_in, taken_in}
use Rattle.box_rows.proofs.Fitting.{covers}
use Rattle.box_rows.proofs.Wholes.{still-all, whole-first, whole-fit, whole-last}
use Rattle.event_worlds.specs.counted_items.Weights.{weigh}
use Rattle.event_worlds.proofs.counted_items.Sums.{same-IsPermutation}
use Rattle.event_worlds.proofs.counted_items.Weighing.{weigh-map}
use Rattle.event_worlds.proofs.counted_items.Each.{each-append}
use Rattle.pass_numbers.specs.declared.Number.{Number}
use Rattle.pass_numbers.specs.Numbers.{over}
use Rattle.pass_numbers.proofs.Numbering.{numbered_as}
use Rattle.pulse_board.specs.Books.{numbers_in}
use Rattle.pulse_board.specs.declared.rule.Book.{Book}
use Rattle.pulse_board.specs.declared.seat.Board.{Board}
use Rattle.pulse_board.specs.declared.seat.BoardSeat.{BoardSeat}
use Rattle.pulse_board.specs.Seats.{book_of}
use Rattle.event_worlds.specs.storm_ids.declared.ids.Ids.{Ghosts}
use Rattle.task_queues.specs.declared.pass.Mailbox.{Mailbox}
use Rattle.task_queues.specs.declared.pass.Pass.{Pass}
use Rattle.event_worlds.specs.topology_plan.Topology.{Topology}
use Rattle.event_worlds.specs.tuple_account.Parts.{weigh_entries}
use Rattle.event_worlds.proofs.tuple_account.Moving.{moves-alike}
use Rattle.worker_pool.specs.Ackers.{CountsFew, HasYoung, IsAcker, acker_inbox, acker_station}
use Rattle.worker_pool.specs.declared.acker.AckerDesk.{AckerDesk}
use Rattle.worker_pool.specs.declared.desk.TaskDesk.{TaskDesk}
use Rattle.worker_pool.specs.declared.worker.Worker.{Worker}
use Rattle.worker_pool.specs.Desks.{IsDesk, desk_inbox, desk_station}
use Rattle.worker_pool.specs.Workers.{Stretched}
use Rattle.worker_stretches.specs.Hands.{items_in}
use Rattle.worker_stretches.specs.Parts.{AreHands, DrewNone, HasEnough, HaveNumbers, IsOf, KnowsOf, ackers_in, book_in, desks_in, row_in}
use Rattle.worker_stretches.specs.Teams.{BoxState, TakesMore, TeamDid, books_of, boxes_of, is_given, new_acker, new_desk, spans_of, team_station, was_given}
use Rattle.worker_stretches.proofs.Crewing.{all-by}
use Rattle.worker_stretches.proofs.Knowing.{counts-seen}
use Rattle.worker_stretches.proofs.Teaming.{DidSeen, all_books, team-all, team-weights}

by-all : {X : Type 0} (P : X → Type 0) (xs : List X) → All P xs → AllByRecursion P xs
by-all P [] all = tt
by-all P (x ∷ xs) all = (all 0 x (omega arith), by-all P xs (λ k d below. all (suc k) d (omega arith)))

pub each-permutation : {X : Type 0} (P : X → Type 0) (xs ys : List X) → IsPermutation xs ys → AllByRecursion P xs → AllByRecursion P ys
each-permutation P xs ys same all = by-all P ys (All-permutation P xs ys same (all-by P xs all))

-- ---- desks and ackers in another order

module _ {I : Type 0} {g : Ghosts I} (tells : I → (ℕ → ℕ) → ℕ → Type 0) (t : Topology) (custom : Custom) (book : Book) where
  pub team-moved : (old new new' : List (TaskDesk I g)) (before after after' : List AckerDesk) (was is : BoxState) → IsPermutation new new' → IsPermutation after after'
      → TeamDid tells t custom book old new before after was is → TeamDid tells t custom book old new' before after' was is
  team-moved old new new' before after after' was is desks ackers did = record {
    givings = did.givings;
    olds = did.olds;
    news = IsPermutation-trans (map new_desk did.givings) new new' did.news desks;
    agings = did.agings;
    befores = did.befores;
    afters = IsPermutation-trans (map new_acker did.agings) after after' did.afters ackers;
    counted = λ unmarked tick seen all. each-permutation (λ (d : AckerDesk). d.counted ≤ tick) after after' ackers (did.counted unmarked tick seen all);
    worked = λ counts all. let w = did.worked counts all in record {
      history = w.history;
      moves = moves-alike t custom (team_station old before was (spans_of (was_given counts) did.givings)) (team_station new after is (spans_of (is_given counts) did.givings))
          (team_station old before was (spans_of (was_given counts) did.givings)) (team_station new' after' is (spans_of (is_given counts) did.givings)) w.history
          (record { waiting = λ f. refl; kept = λ k. refl; given = λ s j. refl })
          (record {
            waiting = λ f.
                let a = same-IsPermutation new new' desks (λ (d : TaskDesk I g). (desk_station 0 d).waiting f) in
                let b = same-IsPermutation after after' ackers (λ (d : AckerDesk). (acker_station d).waiting f) in omega arith;
            kept = λ k. same-IsPermutation after after' ackers (λ (d : AckerDesk). weigh_entries k d.acker.held);
            given = λ s j. refl;
          }) w.moves;
      given = w.given;
      drawn = w.drawn;
      inside = w.inside;
      uses = λ f.
          let u = w.uses f in
          let a = same-IsPermutation new new' desks (λ (d : TaskDesk I g). desk_inbox d f) in
          let b = same-IsPermutation after after' ackers (λ (d : AckerDesk). acker_inbox d f) in omega arith;
      lasts = λ routed young few.
          let l = w.lasts routed young (each-permutation (CountsFew t) after' after (IsPermutation-sym after after' ackers) few) in
          (each-permutation (HasYoung t) after after' ackers l.0, l.1);
    };
  }

-- ---- workers after their stretch

module _ {I : Type 0} {g : Ghosts I} (tells : I → (ℕ → ℕ) → ℕ → Type 0) (t : Topology) (boxes : List (Mailbox Mail)) (board : Board) (custom : Custom) where
  abbrev Each : Worker I g → Worker I g → Type 0
  Each = Stretched tells t boxes board custom

  pub stretched-of : (olds news : List (Worker I g)) → AllZip Each olds news → AllByRecursion DrewNone olds → AllByRecursion (IsOf t boxes board) news
  stretched-of [] [] all none = tt
  stretched-of [] (b ∷ news) all none = absurd all
  stretched-of (a ∷ olds) [] all none = absurd all
  stretched-of (a ∷ olds) (b ∷ news) all none =
      (record { passes = all.0.keeps.passes; seat = all.0.keeps.seat; drawn = all.0.keeps.book.drawn ∙ none.0 }, stretched-of olds news all.1 none.1)

  stretched-books : (olds news : List (Worker I g)) → AllZip Each olds news → (f : Number → ℕ) → over numbers_in f (map book_in news) ≡ over numbers_in f (map book_in olds)
  stretched-books [] [] all f = refl
  stretched-books [] (b ∷ news) all f = absurd all
  stretched-books (a ∷ olds) [] all f = absurd all
  stretched-books (a ∷ olds) (b ∷ news) all f = let rest = stretched-books olds news all.1 f in let e = ap (weigh f) all.0.keeps.book.numbers in omega arith

  pub stretched-numbers : (own : BoardSeat) (olds news : List (Worker I g)) → AllZip Each olds news → HaveNumbers own olds → HaveNumbers own news
  stretched-numbers own olds news all =
      numbered_as numbers_in numbers_in (book_of own ∷ map book_in olds) (book_of own ∷ map book_in news) (λ f. let e = stretched-books olds news all f in omega arith)

  pub stretched-rows : (olds news : List (Worker I g)) → AllZip Each olds news → numbers_by (map row_in news) ≡ numbers_by (map row_in olds)
  stretched-rows [] [] all = refl
  stretched-rows [] (b ∷ news) all = absurd all
  stretched-rows (a ∷ olds) [] all = absurd all
  stretched-rows (a ∷ olds) (b ∷ news) all = (λ i. all.0.keeps.numbers i ∷ stretched-rows olds news all.1 i)

  pub stretched-did : (book : Book) (olds news : List (Worker I g)) → AllZip Each olds news → AllByRecursion HasEnough news → AllByRecursion (KnowsOf book) news → AllZip (DidSeen tells t custom book) olds news
  stretched-did book [] [] all fine known = tt
  stretched-did book [] (b ∷ news) all fine known = absurd all
  stretched-did book (a ∷ olds) [] all fine known = absurd all
  stretched-did book (a ∷ olds) (b ∷ news) all fine known =
      ((all.0.did fine.0, counts-seen book (book_of b.seat) a.ackers.items b.ackers.items known.0 (all.0.ticked fine.0)), stretched-did book olds news all.1 fine.1 known.1)

  pub stretched-desks : (olds news : List (Worker I g)) → AllZip Each olds news → AllByRecursion HasEnough news
      → AllByRecursion (IsDesk t) (items_in (map desks_in news)) × AllByRecursion (IsAcker t) (items_in (map ackers_in news))
  stretched-desks [] [] all fine = (tt, tt)
  stretched-desks [] (b ∷ news) all fine = absurd all
  stretched-desks (a ∷ olds) [] all fine = absurd all
  stretched-desks (a ∷ olds) (b ∷ news) all fine =
      let work = all.0.work fine.0 in
      let rest = stretched-desks olds news all.1 fine.1 in
      (each-append (IsDesk t) b.desks.items (items_in (map desks_in news)) work.desks rest.0, each-append (IsAcker t) b.ackers.items (items_in (map ackers_in news)) work.ackers rest.1)

  stretched-many : (olds news : List (Worker I g)) → AllZip Each olds news → length news ≡ length olds
  stretched-many [] [] all = refl
  stretched-many [] (b ∷ news) all = absurd all
  stretched-many (a ∷ olds) [] all = absurd all
  stretched-many (a ∷ olds) (b ∷ news) all = ap (λ (n : ℕ). suc n) (stretched-many olds news all.1)

  pub room-after : (hands : List (Vec (TaskDesk I g) Global)) (olds news : List (Worker I g)) → map desks_in olds ≡ hands → AllZip Each olds news → length news ≡ length hands
  room-after hands olds news is all = stretched-many olds news all ∙ sym (length-map olds desks_in) ∙ ap length is

  -- What is known of a stretch from a row to a row.
  pub record Worked (row split now : List (Pass Mail)) (rows : List Row) (hands : List (Vec (TaskDesk I g) Global)) (offices : List (Vec AckerDesk Global)) (olds news : List (Worker I g))
      (left : List (Vec (TaskDesk I g) Global)) (more : List (Vec AckerDesk Global)) (wants : Bool) : Type 0 where
    pub splits : HasSplit t boxes row split rows
    pub rows_are : map row_in olds ≡ rows
    pub hands_are : map desks_in olds ≡ hands
    pub offices_are : map ackers_in olds ≡ offices
    pub stretched : AllZip Each olds news
    pub joins : HasJoined split (map row_in news) now []
    pub desks : IsPermutation (items_in (map desks_in news)) (items_in left)
    pub ackers : IsPermutation (items_in (map ackers_in news)) (items_in more)
    pub many : length more ≡ length left
    pub enough : wants ≡ false → AllByRecursion HasEnough news

  module _ (row split now : List (Pass Mail)) (rows : List Row) (hands : List (Vec (TaskDesk I g) Global)) (offices : List (Vec AckerDesk Global)) (olds news : List (Worker I g))
      (left : List (Vec (TaskDesk I g) Global)) (more : List (Vec AckerDesk Global)) (wants : Bool) (w : Worked row split now rows hands offices olds news left more wants) where
    pub whole-again : IsFitRow t boxes row → ArePasses t boxes now → AreWhole now
    whole-again fit passes =
        whole-last now (λ n below.
        let there : n < length boxes = let m = passes.many in omega arith in
        let first = whole-first row (whole-fit t boxes row fit) n (let m = fit.passes.many in omega arith) in
        let cut = w.splits.numbers n there first in
        let olds_are = subst (λ (rs : List Row). AreAll n split rs) (sym w.rows_are) cut in
        let then = still-all n split split (map row_in olds) (map row_in news) refl (stretched-rows olds news w.stretched) olds_are in
        w.joins.numbers n then)

    pub hands-left : wants ≡ false → AreHands t left more
    hands-left fine =
        let all = stretched-desks olds news w.stretched (w.enough fine) in record {
          desks = each-permutation (IsDesk t) (items_in (map desks_in news)) (items_in left) w.desks all.0;
          ackers = each-permutation (IsAcker t) (items_in (map ackers_in news)) (items_in more) w.ackers all.1;
          many = w.many;
        }

    pub takes-more : TakesMore row now
    takes-more f =
        let l = w.splits.taken f in
        let n = w.joins.taken f in omega arith

    pub team-worked : (book : Book) → AllByRecursion (KnowsOf book) news → wants ≡ false → TeamDid tells t custom book (items_in hands) (items_in left) (items_in offices) (items_in more) (books_of row now) (books_of now row)
    team-worked book known fine =
        subst (λ (hs : List (Vec (TaskDesk I g) Global)). TeamDid tells t custom book (items_in hs) (items_in left) (items_in offices) (items_in more) (books_of row now) (books_of now row)) w.hands_are
        (subst (λ (os : List (Vec AckerDesk Global)). TeamDid tells t custom book (items_in (map desks_in olds)) (items_in left) (items_in os) (items_in more) (books_of row now) (books_of now row)) w.offices_are
        (team-moved tells t custom book (items_in (map desks_in olds)) (items_in (map desks_in news)) (items_in left) (items_in (map ackers_in olds)) (items_in (map ackers_in news)) (items_in more) (books_of row now) (books_of now row) w.desks w.ackers
        (team-weights tells t custom book (items_in (map desks_in olds)) (items_in (map desks_in news)) (items_in (map ackers_in olds)) (items_in (map ackers_in news)) (all_books tells t custom book olds news) (all_books tells t custom book news olds) (books_of row now) (books_of now row)
        (team-all tells t custom book olds news (stretched-did book olds news w.stretched (w.enough fine) known))
        (λ f.
        let a = weigh-map (λ (r : Row). sent_in r.items f) row_in olds in
        let b = weigh-map (λ (r : Row). taken_in r.items f) row_in olds in
        let c = weigh-map (λ (r : Row). sent_in r.items f) row_in news in
        let d = weigh-map (λ (r : Row). taken_in r.items f) row_in news in
        let e = ap (λ (rs : List Row). sent_by rs f) w.rows_are in
        let h = ap (λ (rs : List Row). taken_by rs f) w.rows_are in
        let i = w.splits.none_sent f in let j = w.splits.none_taken f in
        let k = w.splits.sent f in let l = w.splits.taken f in
        let m = w.joins.sent f in let n = w.joins.taken f in omega arith)
        (λ f.
        let b = weigh-map (λ (r : Row). taken_in r.items f) row_in olds in
        let d = weigh-map (λ (r : Row). taken_in r.items f) row_in news in
        let h = ap (λ (rs : List Row). taken_by rs f) w.rows_are in
        let j = w.splits.none_taken f in
        let l = w.splits.taken f in
        let n = w.joins.taken f in omega arith))))

-- a row that came back is whole
pub whole-back : (t : Topology) (boxes : List (Mailbox Mail)) (row now : List (Pass Mail)) → IsFitRow t boxes row → ArePasses t boxes now → HasComeBack (length boxes) row now → AreWhole now
whole-back t boxes row now fit passes back =
    whole-last now (λ n below. back.numbers n (let m = passes.many in omega arith) (whole-first row (whole-fit t boxes row fit) n (let m = fit.passes.many in let k = passes.many in omega arith)))

-- the same, by what boxes hold before and after it
pub held-after : {I : Type 0} {g : Ghosts I} (tells : I → (ℕ → ℕ) → ℕ → Type 0) (t : Topology) (custom : Custom) (book : Book) (boxes : List (Mailbox Mail)) (old new : List (TaskDesk I g)) (before after : List AckerDesk)
    (row now fit : List (Pass Mail)) → IsFitRow t boxes row → IsFitRow t boxes fit → IsSameRow now fit → TeamDid tells t custom book old new before after (books_of row now) (books_of now row)
    → TeamDid tells t custom book old new before after (boxes_of row) (boxes_of fit)
held-after tells t custom book boxes old new before after row now fit is then same did =
    team-weights tells t custom book old new before after (books_of row now) (books_of now row) (boxes_of row) (boxes_of fit) did
    (λ f. let a = covers row is.fit f in let b = covers fit then.fit f in let s = same.sent f in let k = same.taken f in omega arith)
    (λ f. let k = same.taken f in omega arith)

pub more-after : (row now fit : List (Pass Mail)) → IsSameRow now fit → TakesMore row now → TakesMore row fit
more-after row now fit same more f = let k = same.taken f in let m = more f in omega arith
