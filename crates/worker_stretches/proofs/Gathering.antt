-- Seats of all tasks and ackers, dealt out and gathered.
use Rattle.std.proofs.Common.{◌≡◌, ◌≤◌, ℕ, zero, suc, ◌+◌, List, [], ◌∷◌, length, map, Vec, sym, refl, ap, subst, ◌∙◌, arith}
use Rattle.std.specs.List.{AllByRecursion, range_with_len}
use Rattle.std.specs.List.Sorted.{IsPermutation}
use Rattle.std.specs.declared.alloc.Global.{Global}
use Rattle.std.proofs.lemmas.List.{length-map}
use Rattle.std.proofs.lemmas.List.Sorted.{IsPermutation-map, IsPermutation-sym, IsPermutation-trans}
use Rattle.event_worlds.specs.bolt_ops.RowOp.{Custom}
use Rattle.event_worlds.proofs.counted_items.Sums.{same-IsPermutation}
use Rattle.event_worlds.proofs.counted_items.Weighing.{weigh-ones}
use Rattle.event_engine.specs.declared.acker.AckerSeat.{AckerSeat}
use Rattle.event_engine.specs.declared.task.TaskSeat.{TaskSeat}
use Rattle.pulse_board.specs.declared.rule.Book.{Book}
use Rattle.event_worlds.specs.storm_ids.declared.ids.Ids.{Ghosts}
use Rattle.event_worlds.specs.topology_plan.Topology.{Topology, tasks_in_all}
use Rattle.event_worlds.specs.tuple_account.Parts.{weigh_entries}
use Rattle.event_worlds.proofs.tuple_account.Moving.{moves-alike}
use Rattle.worker_pool.specs.Ackers.{HasYoung, IsAcker, acker_inbox, acker_station}
use Rattle.worker_pool.specs.declared.acker.AckerDesk.{AckerDesk}
use Rattle.worker_pool.specs.declared.desk.TaskDesk.{TaskDesk}
use Rattle.worker_pool.specs.Desks.{IsDesk, desk_inbox, desk_station}
use Rattle.worker_stretches.specs.Hands.{items_in}
use Rattle.worker_stretches.specs.Leads.{SeatsDid}
use Rattle.worker_stretches.specs.Parts.{AreHands}
use Rattle.worker_stretches.specs.Places.{AreAllSeats, AreInHands, HaveAll, IsAckerAt, IsTaskAt, ZipFrom, desk_number, office_number}
use Rattle.worker_stretches.specs.Teams.{Aging, BoxState, Giving, TeamDid, is_given, new_acker, new_desk, old_acker, old_desk, spans_of, team_station, was_given}
use Rattle.worker_stretches.proofs.Working.{each-permutation, team-moved}

pub same-length : {X : Type 0} (xs ys : List X) → IsPermutation xs ys → length ys ≡ length xs
same-length xs ys same = let a = weigh-ones xs in let b = weigh-ones ys in let e = same-IsPermutation xs ys same (λ x. 1) in omega arith

range-long : (k n : ℕ) → length (range_with_len k n) ≡ n
range-long k zero = refl
range-long k (suc n) = ap (λ (m : ℕ). suc m) (range-long (k + 1) n)

-- items whose numbers are those below a count are so many
pub numbers-count : {X : Type 0} (number : X → ℕ) (xs : List X) (n : ℕ) → IsPermutation (map number xs) (range_with_len 0 n) → length xs ≡ n
numbers-count number xs n are = let a = same-length (map number xs) (range_with_len 0 n) are in let b = range-long 0 n in let c = length-map xs number in omega arith

pub numbers-full : {X : Type 0} (number : X → ℕ) (xs : List X) (n : ℕ) → IsPermutation (map number xs) (range_with_len 0 n) → IsPermutation (map number xs) (range_with_len 0 (length xs))
numbers-full number xs n are = subst (λ m. IsPermutation (map number xs) (range_with_len 0 m)) (sym (numbers-count number xs n are)) are

zip-long : {X Y : Type 0} (R : ℕ → X → Y → Type 0) (k : ℕ) (xs : List X) (ys : List Y) → ZipFrom R k xs ys → length ys ≡ length xs
zip-long R k [] [] zip = refl
zip-long R k [] (y ∷ ys) zip = absurd zip
zip-long R k (x ∷ xs) [] zip = absurd zip
zip-long R k (x ∷ xs) (y ∷ ys) zip = ap (λ (n : ℕ). suc n) (zip-long R (suc k) xs ys zip.1)

-- the numbers of pairs are those of their places
zip-numbers : {X Y : Type 0} (R : ℕ → X → Y → Type 0) (number : Y → ℕ) → ((n : ℕ) (x : X) (y : Y) → R n x y → number y ≡ n) → (k : ℕ) (xs : List X) (ys : List Y) → ZipFrom R k xs ys → map number ys ≡ range_with_len k (length ys)
zip-numbers R number is k [] [] zip = refl
zip-numbers R number is k [] (y ∷ ys) zip = absurd zip
zip-numbers R number is k (x ∷ xs) [] zip = absurd zip
zip-numbers R number is k (x ∷ xs) (y ∷ ys) zip =
    (λ i. is k x y zip.0 i ∷ (zip-numbers R number is (suc k) xs ys zip.1 ∙ ap (λ (m : ℕ). range_with_len m (length ys)) (let e : suc k ≡ k + 1 = omega arith in e)) i)

pub acker-numbers : (t : Topology) (seats : List AckerSeat) (places : List AckerDesk) → length seats ≡ t.ackers → ZipFrom IsAckerAt 0 seats places → map office_number places ≡ range_with_len 0 t.ackers
acker-numbers t seats places many zip =
    zip-numbers IsAckerAt office_number (λ n s d at. at.number) 0 seats places zip ∙ ap (range_with_len 0) (zip-long IsAckerAt 0 seats places zip ∙ many)

pub ackers-back : (t : Topology) (seats : List AckerSeat) (places : List AckerDesk) (offices : List (Vec AckerDesk Global)) → ZipFrom IsAckerAt 0 seats places → IsPermutation (items_in offices) places
    → IsPermutation (map office_number (items_in offices)) (range_with_len 0 t.ackers) → length seats ≡ t.ackers
ackers-back t seats places offices zip same numbers =
    let a = zip-long IsAckerAt 0 seats places zip in let b = same-length (items_in offices) places same in let c = numbers-count office_number (items_in offices) t.ackers numbers in omega arith

same-places : (agings : List Aging) → map office_number (map new_acker agings) ≡ map office_number (map old_acker agings)
same-places [] = refl
same-places (x ∷ agings) = (λ i. x.ages.number i ∷ same-places agings i)

moved-numbers : {X : Type 0} (number : X → ℕ) (firsts seconds olds news start : List X) (n : ℕ) → map number start ≡ range_with_len 0 n → IsPermutation start olds → IsPermutation firsts olds
    → map number seconds ≡ map number firsts → IsPermutation seconds news → IsPermutation (map number news) (range_with_len 0 n)
moved-numbers number firsts seconds olds news start n are given first same second =
    subst (IsPermutation (map number news)) are
    (IsPermutation-trans (map number news) (map number seconds) (map number start) (IsPermutation-map number news seconds (IsPermutation-sym seconds news second))
    (subst (λ zs. IsPermutation zs (map number start)) (sym same)
    (IsPermutation-map number firsts start (IsPermutation-trans firsts olds start first (IsPermutation-sym start olds given)))))

module _ {I : Type 0} {g : Ghosts I} (t : Topology) where
  pub hands-dealt : (desks : List (TaskDesk I g)) (places : List AckerDesk) (hands : List (Vec (TaskDesk I g) Global)) (offices : List (Vec AckerDesk Global)) (n : ℕ)
      → AllByRecursion (IsDesk t) desks → AllByRecursion (IsAcker t) places → IsPermutation desks (items_in hands) → IsPermutation places (items_in offices) → length hands ≡ n → length offices ≡ n → AreHands t hands offices
  hands-dealt desks places hands offices n are are_too one two many many_too = record {
    desks = each-permutation (IsDesk t) desks (items_in hands) one are;
    ackers = each-permutation (IsAcker t) places (items_in offices) two are_too;
    many = many_too ∙ sym many;
  }

  pub task-numbers : (seats : List (TaskSeat I g)) (desks : List (TaskDesk I g)) → length seats ≡ tasks_in_all t → ZipFrom IsTaskAt 0 seats desks → map desk_number desks ≡ range_with_len 0 (tasks_in_all t)
  task-numbers seats desks many zip =
      zip-numbers IsTaskAt desk_number (λ n s d at. at.number) 0 seats desks zip ∙ ap (range_with_len 0) (zip-long IsTaskAt 0 seats desks zip ∙ many)

  pub tasks-back : (seats : List (TaskSeat I g)) (desks : List (TaskDesk I g)) (hands : List (Vec (TaskDesk I g) Global)) → ZipFrom IsTaskAt 0 seats desks → IsPermutation (items_in hands) desks
      → IsPermutation (map desk_number (items_in hands)) (range_with_len 0 (tasks_in_all t)) → length seats ≡ tasks_in_all t
  tasks-back seats desks hands zip same numbers =
      let a = zip-long IsTaskAt 0 seats desks zip in let b = same-length (items_in hands) desks same in let c = numbers-count desk_number (items_in hands) (tasks_in_all t) numbers in omega arith

-- ---- what came of a stretch, from hands to seats

module _ {I : Type 0} {g : Ghosts I} (tells : I → (ℕ → ℕ) → ℕ → Type 0) (t : Topology) (custom : Custom) (book : Book) where
  same-numbers : (givings : List (Giving I g tells)) → map desk_number (map new_desk givings) ≡ map desk_number (map old_desk givings)
  same-numbers [] = refl
  same-numbers (x ∷ givings) = (λ i. x.gave.number i ∷ same-numbers givings i)

  pub all-left : (tasks : List (TaskSeat I g)) (ackers : List AckerSeat) (hands left : List (Vec (TaskDesk I g) Global)) (offices more : List (Vec AckerDesk Global)) (was is : BoxState)
      → AreAllSeats t tasks ackers → AreInHands tasks ackers hands offices → TeamDid tells t custom book (items_in hands) (items_in left) (items_in offices) (items_in more) was is → HaveAll t left more
  all-left tasks ackers hands left offices more was is are given did = record {
    tasks = moved-numbers desk_number (map old_desk did.givings) (map new_desk did.givings) (items_in hands) (items_in left) given.desks (tasks_in_all t)
        (task-numbers t tasks given.desks are.many_tasks given.tasks_at) given.in_hands did.olds (same-numbers did.givings) did.news;
    ackers = moved-numbers office_number (map old_acker did.agings) (map new_acker did.agings) (items_in offices) (items_in more) given.places t.ackers
        (acker-numbers t ackers given.places are.many_ackers given.ackers_at) given.in_offices did.befores (same-places did.agings) did.afters;
  }

  team-from : (old old' new : List (TaskDesk I g)) (before before' after : List AckerDesk) (was is : BoxState) → IsPermutation old old' → IsPermutation before before'
      → TeamDid tells t custom book old new before after was is → TeamDid tells t custom book old' new before' after was is
  team-from old old' new before before' after was is desks ackers did = record {
    givings = did.givings;
    olds = IsPermutation-trans (map old_desk did.givings) old old' did.olds desks;
    news = did.news;
    agings = did.agings;
    befores = IsPermutation-trans (map old_acker did.agings) before before' did.befores ackers;
    afters = did.afters;
    counted = λ unmarked tick seen all.
        did.counted unmarked tick seen (each-permutation (λ (d : AckerDesk). d.counted ≤ tick) before' before (IsPermutation-sym before before' ackers) all);
    worked = λ counts all. let w = did.worked counts all in record {
      history = w.history;
      moves = moves-alike t custom (team_station old before was (spans_of (was_given counts) did.givings)) (team_station new after is (spans_of (is_given counts) did.givings))
          (team_station old' before' was (spans_of (was_given counts) did.givings)) (team_station new after is (spans_of (is_given counts) did.givings)) w.history
          (record {
            waiting = λ f.
                let a = same-IsPermutation old old' desks (λ (d : TaskDesk I g). (desk_station 0 d).waiting f) in
                let b = same-IsPermutation before before' ackers (λ (d : AckerDesk). (acker_station d).waiting f) in omega arith;
            kept = λ k. same-IsPermutation before before' ackers (λ (d : AckerDesk). weigh_entries k d.acker.held);
            given = λ s j. refl;
          })
          (record { waiting = λ f. refl; kept = λ k. refl; given = λ s j. refl }) w.moves;
      given = w.given;
      drawn = w.drawn;
      inside = w.inside;
      uses = λ f.
          let u = w.uses f in
          let a = same-IsPermutation old old' desks (λ (d : TaskDesk I g). desk_inbox d f) in
          let b = same-IsPermutation before before' ackers (λ (d : AckerDesk). acker_inbox d f) in omega arith;
      lasts = λ routed young few. w.lasts routed (each-permutation (HasYoung t) before' before (IsPermutation-sym before before' ackers) young) few;
    };
  }

  pub seats-did : (tasks left_tasks : List (TaskSeat I g)) (ackers left_ackers : List AckerSeat) (hands left : List (Vec (TaskDesk I g) Global)) (offices more : List (Vec AckerDesk Global)) (was is : BoxState)
      → AreInHands tasks ackers hands offices → AreInHands left_tasks left_ackers left more → TeamDid tells t custom book (items_in hands) (items_in left) (items_in offices) (items_in more) was is
      → SeatsDid tells t custom book tasks left_tasks ackers left_ackers was is
  seats-did tasks left_tasks ackers left_ackers hands left offices more was is given back did = record {
    old_desks = given.desks;
    new_desks = back.desks;
    old_places = given.places;
    new_places = back.places;
    old_at = given.tasks_at;
    new_at = back.tasks_at;
    before_at = given.ackers_at;
    after_at = back.ackers_at;
    did = team-from (items_in hands) given.desks back.desks (items_in offices) given.places back.places was is (IsPermutation-sym given.desks (items_in hands) given.in_hands) (IsPermutation-sym given.places (items_in offices) given.in_offices)
        (team-moved tells t custom book (items_in hands) (items_in left) back.desks (items_in offices) (items_in more) back.places was is (IsPermutation-sym back.desks (items_in left) back.in_hands) (IsPermutation-sym back.places (items_in more) back.in_offices) did);
  }
