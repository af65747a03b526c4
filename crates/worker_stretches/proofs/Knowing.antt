-- What books of seats know of one another, and what they have drawn.
use Rattle.std.proofs.Common.{◌≡◌, ◌≤◌, ℕ, nat_lt, Bool, true, false, true≢false, List, [], ◌∷◌, ◌++◌, append-nil, sym, refl, ap, subst, ◌∙◌, arith}
use borrow.Author.Tests.{ltb-false}
use Rattle.std.specs.Prelude.{if◌then◌else◌}
use Rattle.std.specs.List.{AllByRecursion}
use Rattle.event_worlds.proofs.counted_items.Each.{each-weaker}
use Rattle.pulse_board.specs.Books.{both_of, looked, marked, saw}
use Rattle.pulse_board.specs.declared.rule.Book.{Book}
use Rattle.pulse_board.specs.declared.seat.BoardSeat.{BoardSeat}
use Rattle.pulse_board.specs.Seats.{book_of}
use Rattle.event_worlds.specs.storm_ids.declared.ids.Ids.{Ghosts}
use Rattle.worker_pool.specs.Crews.{AreNotPast}
use Rattle.worker_pool.specs.declared.acker.AckerDesk.{AckerDesk}
use Rattle.worker_pool.specs.declared.worker.Worker.{Worker}
use Rattle.worker_stretches.specs.Parts.{Knows, KnowsOf}
use Rattle.worker_stretches.specs.Teams.{CountsSeen, HaveCounted}
use Rattle.worker_stretches.proofs.Crewing.{either-false}
use Rattle.worker_stretches.proofs.Zipping.{each-last}

pub knows-itself : (b : Book) → Knows b b
knows-itself b unmarked = (unmarked, omega arith)

pub knows-then : (a b c : Book) → Knows a b → Knows b c → Knows a c
knows-then a b c one two unmarked = let x = one unmarked in let y = two x.0 in (y.0, let p = x.1 in let q = y.1 in omega arith)

-- ---- a look

pub knows-looked : (old new : Book) (count : ℕ) → new ≡ looked old count → Knows new old
knows-looked old new count is = subst (λ (x : Book). Knows x old) (sym is) (by (nat_lt count old.seen) refl)
  where
    by : (b : Bool) → nat_lt count old.seen ≡ b → Knows (if b then marked old else saw old count) old
    by true below = λ unmarked. absurd (true≢false unmarked)
    by false above = λ unmarked. (unmarked, ltb-false count old.seen above)

-- ---- a join

pub knows-both : (book a b : Book) → Knows book (both_of a b) → Knows book a × Knows book b
knows-both book a b knows =
    (λ unmarked. let k = knows unmarked in ((either-false a.wrapped b.wrapped k.0).0, let m = k.1 in omega arith), λ unmarked. let k = knows unmarked in ((either-false a.wrapped b.wrapped k.0).1, let m = k.1 in omega arith))

pub drawn-both : (new a b : Book) → new ≡ both_of a b → b.drawn ≡ [] → new.drawn ≡ a.drawn
drawn-both new a b is none = ap (λ (x : Book). x.drawn) is ∙ ap (λ xs. a.drawn ++ xs) none ∙ append-nil a.drawn

module _ {I : Type 0} {g : Ghosts I} where
  -- whoever knows what a seat and the rest of the workers do knows what all workers do
  abbrev pub TellsAll : List (Worker I g) → List (Worker I g) → BoardSeat → Type 0
  TellsAll crews rest own = (book : Book) → Knows book (book_of own) → AllByRecursion (KnowsOf book) rest → AllByRecursion (KnowsOf book) crews

  pub tells-more : (crews rest fewer : List (Worker I g)) (w : Worker I g) (own own' : BoardSeat) → rest ≡ fewer ++ w ∷ [] → book_of own' ≡ both_of (book_of own) (book_of w.seat) → TellsAll crews rest own → TellsAll crews fewer own'
  tells-more crews rest fewer w own own' is join so_far book knows all =
      let both = knows-both book (book_of own) (book_of w.seat) (subst (λ (b : Book). Knows book b) join knows) in
      so_far book both.0 (subst (AllByRecursion (KnowsOf book)) (sym is) (each-last (KnowsOf book) fewer w all both.1))

  pub all-told : (crews : List (Worker I g)) (own : BoardSeat) → TellsAll crews [] own → AllByRecursion (KnowsOf (book_of own)) crews
  all-told crews own tells = tells (book_of own) (knows-itself (book_of own)) tt

  -- the same by a book that knows more
  pub known-on : (a b : Book) (ws : List (Worker I g)) → Knows a b → AllByRecursion (KnowsOf b) ws → AllByRecursion (KnowsOf a) ws
  known-on a b ws knows all = each-weaker (KnowsOf b) (KnowsOf a) (λ w it. knows-then a b (book_of w.seat) knows it) ws all

-- ---- what ackers counted

counted-on : (tick seen : ℕ) (olds news : List AckerDesk) → AreNotPast seen olds news → seen ≤ tick → HaveCounted tick olds → HaveCounted tick news
counted-on tick seen [] [] past below all = tt
counted-on tick seen [] (b ∷ news) past below all = absurd past
counted-on tick seen (a ∷ olds) [] past below all = absurd past
counted-on tick seen (a ∷ olds) (b ∷ news) past below all = (let x = past.0 in let y = all.0 in omega arith, counted-on tick seen olds news past.1 below all.1)

pub counts-seen : (book other : Book) (olds news : List AckerDesk) → Knows book other → (other.wrapped ≡ false → AreNotPast other.seen olds news) → CountsSeen book olds news
counts-seen book other olds news knows past unmarked tick seen all =
    let k = knows unmarked in counted-on tick other.seen olds news (past k.0) (let l = k.1 in omega arith) all
