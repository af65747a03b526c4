-- What all workers did adds up.
use Rattle.std.proofs.Common.{◌≡◌, ◌≤◌, ℕ, zero, suc, ◌+◌, List, [], ◌∷◌, ◌++◌, length, map, Some, sym, refl, ap, subst, arith}
use Rattle.std.specs.Prelude.{slice_get}
use Rattle.std.specs.List.{AllByRecursion, AllZip, range_with_len}
use Rattle.std.specs.List.Sorted.{IsPermutation}
use Rattle.std.proofs.lemmas.List.{map-append}
use Rattle.std.proofs.lemmas.List.Sorted.{IsPermutation-append, IsPermutation-refl}
use Rattle.event_worlds.specs.bolt_ops.RowOp.{Custom}
use Rattle.box_rows.specs.declared.mail.Mail.{Mail}
use Rattle.box_rows.specs.Rows.{sent_in, taken_in}
use Rattle.event_worlds.specs.counted_items.Weights.{weigh}
use Rattle.event_worlds.proofs.counted_items.Each.{each-append, each-back, each-front}
use Rattle.event_worlds.proofs.counted_items.Weighing.{weigh-append}
use Rattle.pulse_board.specs.declared.rule.Book.{Book}
use Rattle.event_worlds.specs.storm_ids.declared.ids.Ids.{Ghosts}
use Rattle.task_queues.specs.declared.pass.Pass.{Pass}
use Rattle.event_worlds.specs.topology_plan.Topology.{Topology}
use Rattle.event_worlds.specs.tree_model.Lists.{root_of}
use Rattle.event_worlds.specs.tuple_account.Histories.{Packet, Receipt, acker_of, joined, nothing}
use Rattle.event_worlds.specs.tuple_account.Moves.{IsAlike, beside}
use Rattle.event_worlds.specs.tuple_account.Parts.{weigh_entries}
use Rattle.event_worlds.specs.tuple_account.Places.{spans}
use Rattle.event_worlds.proofs.tuple_account.Moving.{drawn-both, moves-alike, moves-beside, taken-joined, well-nothing}
use Rattle.worker_pool.specs.Ackers.{Ages, CountsFew, HasYoung, acker_inbox, acker_station}
use Rattle.worker_pool.specs.Crews.{AreGiven, AreNext, CrewDid, Gave, spans_from, sum_from}
use Rattle.worker_pool.specs.declared.acker.AckerDesk.{AckerDesk}
use Rattle.worker_pool.specs.declared.desk.TaskDesk.{TaskDesk}
use Rattle.worker_pool.specs.declared.worker.Worker.{Worker}
use Rattle.worker_pool.specs.Desks.{desk_inbox, desk_station, given_at}
use Rattle.worker_pool.specs.Workers.{Did}
use Rattle.worker_pool.specs.Works.{ended}
use Rattle.worker_pool.proofs.Adding.{inside-both}
use Rattle.worker_stretches.specs.Hands.{items_in}
use Rattle.worker_stretches.specs.Parts.{ackers_in, desks_in}
use Rattle.worker_stretches.specs.Teams.{Aging, AreGivenNow, AreNextWords, BoxState, CountsSeen, Giving, TeamDid, WereGiven, books_of, is_given, new_acker, new_desk, old_acker, old_desk, spans_of, team_station, was_given}
use Rattle.worker_stretches.proofs.Handing.{is_permutation, not-some, some-is}

-- ---- weights by places

sum-shift : {X : Type 0} (p : ℕ → X → ℕ) (n : ℕ) (xs : List X) → sum_from p (suc n) xs ≡ sum_from (λ m. p (suc m)) n xs
sum-shift p n [] = refl
sum-shift p n (x ∷ xs) = let rest = sum-shift p (suc n) xs in omega arith

module _ {I : Type 0} {g : Ghosts I} (tells : I → (ℕ → ℕ) → ℕ → Type 0) where
  -- the number of the desk at a place
  abbrev number_at : List (TaskDesk I g) → ℕ → ℕ
  number_at [] n = 0
  number_at (d ∷ ds) zero = d.number
  number_at (d ∷ ds) (suc n) = number_at ds n

  -- ---- the desks of a worker, pair by pair

  abbrev GaveEach : (ℕ → List ℕ) → List (TaskDesk I g) → List (TaskDesk I g) → Type 0
  GaveEach given [] [] = Unit {0}
  GaveEach given [] (b ∷ news) = ⊥
  GaveEach given (a ∷ olds) [] = ⊥
  GaveEach given (a ∷ olds) (b ∷ news) = Gave tells (given 0) a b × GaveEach (λ n. given (suc n)) olds news

  gave-each : (given : ℕ → List ℕ) (olds news : List (TaskDesk I g)) → length news ≡ length olds
      → ((n : ℕ) (a : TaskDesk I g) → slice_get olds n ≡ Some a → (b : TaskDesk I g) × (slice_get news n ≡ Some b) × Gave tells (given n) a b) → GaveEach given olds news
  gave-each given [] [] many gave = tt
  gave-each given [] (b ∷ news) many gave = absurd (omega arith)
  gave-each given (a ∷ olds) [] many gave = absurd (omega arith)
  gave-each given (a ∷ olds) (b ∷ news) many gave =
      let first = gave 0 a refl in
      let is : b ≡ first.0 = some-is b first.0 first.1 in
      (subst (λ (d : TaskDesk I g). Gave tells (given 0) a d) (sym is) first.2, gave-each (λ n. given (suc n)) olds news (omega arith) (λ n d at. gave (suc n) d at))

  givings_of : (given : ℕ → List ℕ) (olds news : List (TaskDesk I g)) → GaveEach given olds news → List (Giving I g tells)
  givings_of given [] [] gave = []
  givings_of given [] (b ∷ news) gave = absurd gave
  givings_of given (a ∷ olds) [] gave = absurd gave
  givings_of given (a ∷ olds) (b ∷ news) gave = record { old = a; new = b; ids = given 0; gave = gave.0 } ∷ givings_of (λ n. given (suc n)) olds news gave.1

  olds-are : (given : ℕ → List ℕ) (olds news : List (TaskDesk I g)) (gave : GaveEach given olds news) → map old_desk (givings_of given olds news gave) ≡ olds
  unfolding givings_of
  olds-are given [] [] gave = refl
  olds-are given [] (b ∷ news) gave = absurd gave
  olds-are given (a ∷ olds) [] gave = absurd gave
  olds-are given (a ∷ olds) (b ∷ news) gave = ap (λ (ds : List (TaskDesk I g)). a ∷ ds) (olds-are (λ n. given (suc n)) olds news gave.1)

  news-are : (given : ℕ → List ℕ) (olds news : List (TaskDesk I g)) (gave : GaveEach given olds news) → map new_desk (givings_of given olds news gave) ≡ news
  unfolding givings_of
  news-are given [] [] gave = refl
  news-are given [] (b ∷ news) gave = absurd gave
  news-are given (a ∷ olds) [] gave = absurd gave
  news-are given (a ∷ olds) (b ∷ news) gave = ap (λ (ds : List (TaskDesk I g)). b ∷ ds) (news-are (λ n. given (suc n)) olds news gave.1)

  number-is : (olds : List (TaskDesk I g)) (n : ℕ) (d : TaskDesk I g) → slice_get olds n ≡ Some d → number_at olds n ≡ d.number
  number-is [] n d at = absurd (not-some d at)
  number-is (a ∷ olds) zero d at = let is : a ≡ d = some-is a d at in ap (λ (x : TaskDesk I g). x.number) is
  number-is (a ∷ olds) (suc n) d at = number-is olds n d at

  -- what is so of each pair is so at each place
  at-place : (P : List ℕ → TaskDesk I g → Type 0) (given : ℕ → List ℕ) (olds news : List (TaskDesk I g)) (gave : GaveEach given olds news)
      → AllByRecursion (λ (x : Giving I g tells). P x.ids x.old) (givings_of given olds news gave) → (n : ℕ) (d : TaskDesk I g) → slice_get olds n ≡ Some d → P (given n) d
  unfolding givings_of
  at-place P given [] [] gave all n d at = absurd (not-some d at)
  at-place P given [] (b ∷ news) gave all n d at = absurd gave
  at-place P given (a ∷ olds) [] gave all n d at = absurd gave
  at-place P given (a ∷ olds) (b ∷ news) gave all zero d at = let is : a ≡ d = some-is a d at in subst (P (given 0)) is all.0
  at-place P given (a ∷ olds) (b ∷ news) gave all (suc n) d at = at-place P (λ n. given (suc n)) olds news gave.1 all.1 n d at

  module _ (counts : ℕ → ℕ) where
    spans-before : (given : ℕ → List ℕ) (olds news : List (TaskDesk I g)) (gave : GaveEach given olds news) (s j : ℕ)
        → spans_from (λ n. counts (number_at olds n)) 0 olds s j ≡ spans_of (was_given counts) (givings_of given olds news gave) s j
    unfolding givings_of
    spans-before given [] [] gave s j = refl
    spans-before given [] (b ∷ news) gave s j = absurd gave
    spans-before given (a ∷ olds) [] gave s j = absurd gave
    spans-before given (a ∷ olds) (b ∷ news) gave s j =
        let e = sum-shift (λ m (d : TaskDesk I g). spans d.number 0 (counts (number_at (a ∷ olds) m)) s j) 0 olds in
        let rest = spans-before (λ n. given (suc n)) olds news gave.1 s j in omega arith

    spans-after : (given : ℕ → List ℕ) (olds news : List (TaskDesk I g)) (gave : GaveEach given olds news) (s j : ℕ)
        → spans_from (λ n. counts (number_at olds n) + length (given n)) 0 news s j ≡ spans_of (is_given counts) (givings_of given olds news gave) s j
    unfolding givings_of
    spans-after given [] [] gave s j = refl
    spans-after given [] (b ∷ news) gave s j = absurd gave
    spans-after given (a ∷ olds) [] gave s j = absurd gave
    spans-after given (a ∷ olds) (b ∷ news) gave s j =
        let e = sum-shift (λ m (d : TaskDesk I g). spans d.number 0 (counts (number_at (a ∷ olds) m) + length (given m)) s j) 0 news in
        let number = ap (λ (n : ℕ). spans n 0 (counts a.number + length (given 0)) s j) gave.0.number in
        let rest = spans-after (λ n. given (suc n)) olds news gave.1 s j in omega arith

    given-before : (given : ℕ → List ℕ) (olds news : List (TaskDesk I g)) (gave : GaveEach given olds news) → WereGiven counts (givings_of given olds news gave) → AreGiven (λ n. counts (number_at olds n)) olds
    given-before given olds news gave all n d at =
        subst (λ (m : ℕ). given_at d ≡ ended (counts m)) (sym (number-is olds n d at)) (at-place (λ ids e. given_at e ≡ ended (counts e.number)) given olds news gave all n d at)

    given-after : (given : ℕ → List ℕ) (olds news : List (TaskDesk I g)) (gave : GaveEach given olds news)
        → ((n : ℕ) (d : TaskDesk I g) → slice_get news n ≡ Some d → given_at d ≡ ended (counts (number_at olds n) + length (given n))) → AreGivenNow counts (givings_of given olds news gave)
    unfolding givings_of
    given-after given [] [] gave each = tt
    given-after given [] (b ∷ news) gave each = absurd gave
    given-after given (a ∷ olds) [] gave each = absurd gave
    given-after given (a ∷ olds) (b ∷ news) gave each = (each 0 b refl, given-after (λ n. given (suc n)) olds news gave.1 (λ n d at. each (suc n) d at))

    next-words : (words : ℕ → ℕ → ℕ) (given : ℕ → List ℕ) (olds news : List (TaskDesk I g)) (gave : GaveEach given olds news) → AreNextWords words counts (givings_of given olds news gave)
        → AreNext words (λ n. counts (number_at olds n)) given olds
    next-words words given olds news gave all n d at =
        subst (λ (m : ℕ). given n ≡ map (words d.number) (range_with_len (counts m) (length (given n)))) (sym (number-is olds n d at))
        (at-place (λ ids e. ids ≡ map (words e.number) (range_with_len (counts e.number) (length ids))) given olds news gave all n d at)

-- ---- the ackers of a worker, pair by pair

agings_of : (olds news : List AckerDesk) → AllZip Ages olds news → List Aging
agings_of [] [] ages = []
agings_of [] (b ∷ news) ages = absurd ages
agings_of (a ∷ olds) [] ages = absurd ages
agings_of (a ∷ olds) (b ∷ news) ages = record { old = a; new = b; ages = ages.0 } ∷ agings_of olds news ages.1

old-ackers : (olds news : List AckerDesk) (ages : AllZip Ages olds news) → map old_acker (agings_of olds news ages) ≡ olds
unfolding agings_of
old-ackers [] [] ages = refl
old-ackers [] (b ∷ news) ages = absurd ages
old-ackers (a ∷ olds) [] ages = absurd ages
old-ackers (a ∷ olds) (b ∷ news) ages = ap (λ (ds : List AckerDesk). a ∷ ds) (old-ackers olds news ages.1)

new-ackers : (olds news : List AckerDesk) (ages : AllZip Ages olds news) → map new_acker (agings_of olds news ages) ≡ news
unfolding agings_of
new-ackers [] [] ages = refl
new-ackers [] (b ∷ news) ages = absurd ages
new-ackers (a ∷ olds) [] ages = absurd ages
new-ackers (a ∷ olds) (b ∷ news) ages = ap (λ (ds : List AckerDesk). b ∷ ds) (new-ackers olds news ages.1)

-- ---- a worker, and workers beside one another

abbrev pub no_boxes : BoxState
no_boxes = record { waits = λ f. 0; took = λ f. 0 }

abbrev pub all_boxes : BoxState → BoxState → BoxState
all_boxes a b = record { waits = λ f. a.waits f + b.waits f; took = λ f. a.took f + b.took f }

module _ {I : Type 0} {g : Ghosts I} (tells : I → (ℕ → ℕ) → ℕ → Type 0) (t : Topology) (custom : Custom) (book : Book) where
  -- a worker
  pub team-one : (old new : List (TaskDesk I g)) (before after : List AckerDesk) (was is : List (Pass Mail)) → CrewDid tells t custom old new before after was is
      → CountsSeen book before after → TeamDid tells t custom book old new before after (books_of was is) (books_of is was)
  team-one old new before after was is did counted =
      let gave = gave-each tells did.given old new did.many did.gave in record {
        givings = givings_of tells did.given old new gave;
        olds = is_permutation (map old_desk (givings_of tells did.given old new gave)) old (olds-are tells did.given old new gave);
        news = is_permutation (map new_desk (givings_of tells did.given old new gave)) new (news-are tells did.given old new gave);
        agings = agings_of before after did.ages;
        befores = is_permutation (map old_acker (agings_of before after did.ages)) before (old-ackers before after did.ages);
        afters = is_permutation (map new_acker (agings_of before after did.ages)) after (new-ackers before after did.ages);
        counted = counted;
        worked = λ counts all.
            let w = did.worked (λ n. counts (number_at tells old n)) (given-before tells counts did.given old new gave all) in record {
              history = w.history;
              moves = record {
                packets = λ f. w.works.packets f;
                notes = λ k. w.works.notes k;
                draws = λ s j.
                    let e = w.works.draws s j in
                    let a = spans-before tells counts did.given old new gave s j in
                    let b = spans-after tells counts did.given old new gave s j in omega arith;
                well = w.works.well;
              };
              given = given-after tells counts did.given old new gave w.are_given;
              drawn = λ words next. w.drawn words (next-words tells counts words did.given old new gave next);
              inside = w.inside;
              uses = λ f. w.uses f;
              lasts = w.lasts;
            };
      }

  -- nobody
  pub team-none : TeamDid {I = I} {g = g} tells t custom book [] [] [] [] no_boxes no_boxes
  team-none = record {
    givings = [];
    olds = IsPermutation-refl [];
    news = IsPermutation-refl [];
    agings = [];
    befores = IsPermutation-refl [];
    afters = IsPermutation-refl [];
    counted = λ unmarked tick seen all. all;
    worked = λ counts all. record {
      history = nothing;
      moves = record { packets = λ f. omega arith; notes = λ k. omega arith; draws = λ s j. omega arith; well = well-nothing t custom };
      given = tt;
      drawn = λ words next. record { of_begun = tt; of_runs = tt };
      inside = record { starts = refl; begun = refl; heard = refl };
      uses = λ f. omega arith;
      lasts = λ routed young few. (tt, refl);
    };
  }

  abbrev Next : (ℕ → ℕ → ℕ) → (ℕ → ℕ) → Giving I g tells → Type 0
  Next words counts x = x.ids ≡ map (words x.old.number) (range_with_len (was_given counts x) (length x.ids))

  -- side by side
  pub team-beside : (a b c d : List (TaskDesk I g)) (p q r s : List AckerDesk) (u v x y : BoxState) → TeamDid tells t custom book a b p q u v → TeamDid tells t custom book c d r s x y
      → TeamDid tells t custom book (a ++ c) (b ++ d) (p ++ r) (q ++ s) (all_boxes u x) (all_boxes v y)
  team-beside a b c d p q r s u v x y one two = record {
    givings = one.givings ++ two.givings;
    olds = joins old_desk one.givings two.givings a c one.olds two.olds;
    news = joins new_desk one.givings two.givings b d one.news two.news;
    agings = one.agings ++ two.agings;
    befores = joins old_acker one.agings two.agings p r one.befores two.befores;
    afters = joins new_acker one.agings two.agings q s one.afters two.afters;
    counted = λ unmarked tick seen all.
        each-append (λ (d : AckerDesk). d.counted ≤ tick) q s (one.counted unmarked tick seen (each-front (λ (d : AckerDesk). d.counted ≤ tick) p r all)) (two.counted unmarked tick seen (each-back (λ (d : AckerDesk). d.counted ≤ tick) p r all));
    worked = λ counts all.
        let m = one.worked counts (each-front (λ (x : Giving I g tells). given_at x.old ≡ ended (was_given counts x)) one.givings two.givings all) in
        let n = two.worked counts (each-back (λ (x : Giving I g tells). given_at x.old ≡ ended (was_given counts x)) one.givings two.givings all) in record {
          history = joined m.history n.history;
          moves = moves-alike t custom _ _ _ _ (joined m.history n.history)
              (alike a c p r u x (was_given counts) one.givings two.givings) (alike b d q s v y (is_given counts) one.givings two.givings)
              (moves-beside t custom
              (team_station a p u (spans_of (was_given counts) one.givings)) (team_station b q v (spans_of (is_given counts) one.givings))
              (team_station c r x (spans_of (was_given counts) two.givings)) (team_station d s y (spans_of (is_given counts) two.givings)) m.history n.history m.moves n.moves);
          given = each-append (λ (x : Giving I g tells). given_at x.new ≡ ended (is_given counts x)) one.givings two.givings m.given n.given;
          drawn = λ words next.
              drawn-both words m.history n.history (m.drawn words (each-front (Next words counts) one.givings two.givings next)) (n.drawn words (each-back (Next words counts) one.givings two.givings next));
          inside = inside-both m.history n.history m.inside n.inside;
          uses = λ f.
              let i = m.uses f in
              let j = n.uses f in
              let h = taken-joined f m.history n.history in
              let e = weigh-append (λ (x : TaskDesk I g). desk_inbox x f) a c in
              let o = weigh-append (λ (x : TaskDesk I g). desk_inbox x f) b d in
              let k = weigh-append (λ (d : AckerDesk). acker_inbox d f) p r in
              let l = weigh-append (λ (d : AckerDesk). acker_inbox d f) q s in omega arith;
          lasts = λ routed young few.
              let i = m.lasts (each-front (λ (x : Receipt). acker_of t (root_of x.message) ≡ x.acker) m.history.met n.history.met routed) (each-front (HasYoung t) p r young) (each-front (CountsFew t) q s few) in
              let j = n.lasts (each-back (λ (x : Receipt). acker_of t (root_of x.message) ≡ x.acker) m.history.met n.history.met routed) (each-back (HasYoung t) p r young) (each-back (CountsFew t) q s few) in
              (each-append (HasYoung t) q s i.0 j.0, (λ o. i.1 o ++ j.1 o));
        };
  }
    where
      joins : {X Y : Type 0} (f : X → Y) (xs ys : List X) (us vs : List Y) → IsPermutation (map f xs) us → IsPermutation (map f ys) vs → IsPermutation (map f (xs ++ ys)) (us ++ vs)
      joins f xs ys us vs one two = subst (λ zs. IsPermutation zs (us ++ vs)) (sym (map-append f xs ys)) (IsPermutation-append (map f xs) us (map f ys) vs one two)

      alike : (ds es : List (TaskDesk I g)) (ks ls : List AckerDesk) (w z : BoxState) (count : Giving I g tells → ℕ) (xs ys : List (Giving I g tells))
          → IsAlike (beside (team_station ds ks w (spans_of count xs)) (team_station es ls z (spans_of count ys))) (team_station (ds ++ es) (ks ++ ls) (all_boxes w z) (spans_of count (xs ++ ys)))
      alike ds es ks ls w z count xs ys = record {
        waiting = λ f.
            let a = weigh-append (λ (d : TaskDesk I g). (desk_station 0 d).waiting f) ds es in
            let b = weigh-append (λ (d : AckerDesk). (acker_station d).waiting f) ks ls in omega arith;
        kept = λ k. let a = weigh-append (λ (d : AckerDesk). weigh_entries k d.acker.held) ks ls in omega arith;
        given = λ s j. let a = weigh-append (λ (x : Giving I g tells). spans x.old.number 0 (count x) s j) xs ys in omega arith;
      }

  -- all workers
  abbrev pub all_books : List (Worker I g) → List (Worker I g) → BoxState
  all_books rows others = record {
    waits = λ f. weigh (λ (w : Worker I g). sent_in w.row.items f) rows + weigh (λ (w : Worker I g). taken_in w.row.items f) others;
    took = λ f. weigh (λ (w : Worker I g). taken_in w.row.items f) rows;
  }

  pub team-weights : (old new : List (TaskDesk I g)) (before after : List AckerDesk) (u v x y : BoxState) → TeamDid tells t custom book old new before after u v → ((f : Packet → ℕ) → u.waits f + y.waits f ≡ v.waits f + x.waits f) → ((f : Packet → ℕ) → u.took f + y.took f ≡ v.took f + x.took f) → TeamDid tells t custom book old new before after x y
  team-weights old new before after u v x y did same took = record {
    givings = did.givings;
    olds = did.olds;
    news = did.news;
    agings = did.agings;
    befores = did.befores;
    afters = did.afters;
    counted = did.counted;
    worked = λ counts all. let w = did.worked counts all in record {
      history = w.history;
      moves = record { packets = λ f. let p = w.moves.packets f in let e = same f in omega arith; notes = w.moves.notes; draws = w.moves.draws; well = w.moves.well };
      given = w.given;
      drawn = w.drawn;
      inside = w.inside;
      uses = λ f. let u = w.uses f in let k = took f in omega arith;
      lasts = w.lasts;
    };
  }

  -- a worker did what it did, and counted no ticks but those that a seat with this book has seen
  abbrev pub DidSeen : Worker I g → Worker I g → Type 0
  DidSeen a b = Did tells t custom a b × CountsSeen book a.ackers.items b.ackers.items

  pub team-all : (olds news : List (Worker I g)) → AllZip DidSeen olds news
      → TeamDid tells t custom book (items_in (map desks_in olds)) (items_in (map desks_in news)) (items_in (map ackers_in olds)) (items_in (map ackers_in news)) (all_books olds news) (all_books news olds)
  team-all [] [] did = team-weights [] [] [] [] no_boxes no_boxes (all_books [] []) (all_books [] []) team-none (λ f. omega arith) (λ f. omega arith)
  team-all [] (b ∷ news) did = absurd did
  team-all (a ∷ olds) [] did = absurd did
  team-all (a ∷ olds) (b ∷ news) did =
      let one = team-one a.desks.items b.desks.items a.ackers.items b.ackers.items a.row.items b.row.items did.0.0 did.0.1 in
      let rest = team-all olds news did.1 in
      let pair = team-beside a.desks.items b.desks.items (items_in (map desks_in olds)) (items_in (map desks_in news)) a.ackers.items b.ackers.items (items_in (map ackers_in olds)) (items_in (map ackers_in news))
      (books_of a.row.items b.row.items) (books_of b.row.items a.row.items) (all_books olds news) (all_books news olds) one rest in
      team-weights _ _ _ _ _ _ (all_books (a ∷ olds) (b ∷ news)) (all_books (b ∷ news) (a ∷ olds)) pair (λ f. omega arith) (λ f. omega arith)
