-- How an engine begins.
use Rattle.std.proofs.Common.{◌≡◌, ◌<◌, ◌≤◌, ℕ, zero, suc, ◌+◌, ◌==◌, Bool, true, false, cond, nat_lt, List, [], ◌∷◌, ◌++◌, length, map, None, Some, get_or, sym, refl, ap, subst, ◌∙◌, length-append, eq-eqb, arith}
use Rattle.std.specs.Prelude.{slice_get, replicate}
use Rattle.std.specs.List.{AllByRecursion, range_with_len}
use Rattle.std.proofs.lemmas.Bool.Decides.{nat_tests}
use Rattle.std.proofs.lemmas.List.FromFn.{fill_by_all}
use Rattle.event_worlds.specs.bolt_task.Executing.{collector_in, component_at, number_of, topology_at}
use Rattle.event_worlds.specs.commit_order.Offices.{Office}
use Rattle.event_worlds.specs.commit_order.Orders.{IsOwn, Stand, collector_of, desk_of, office_of, stand_of, wanted_memory}
use Rattle.event_worlds.specs.commit_turns.Desks.{Desk, first_desk}
use Rattle.event_worlds.specs.commit_turns.Kept.{IsKept}
use Rattle.event_worlds.specs.commit_turns.Turns.{last_tick}
use Rattle.event_engine.specs.Engines.{Gives, IsReady, shape}
use Rattle.event_engine.specs.Seats.{AllFrom, HasBuckets, IsSeatOf, acker_side, source_in, task_side}
use Rattle.event_engine.specs.Starts.{AreFirstSeats, IsFirstSeat, IsFirstSource, IsStarted}
use Rattle.event_engine.specs.declared.engine.Engine.{Engine}
use Rattle.event_engine.specs.declared.task.TaskSeat.{TaskSeat}
use Rattle.event_engine.proofs.GoesLemmas.{get-after}
use Rattle.event_worlds.specs.Accounted.{IsInput}
use Rattle.event_worlds.specs.Orderly.{IsOrderly}
use Rattle.event_worlds.proofs.Orderly.{orderly-first}
use Rattle.event_worlds.specs.Worlds.{first_counts, first_stand, first_task, first_world, no_acker}
use Rattle.event_worlds.specs.groupings.Routing.{lanes_of}
use Rattle.event_worlds.specs.output_collector.declared.collector.Collector.{Collector}
use Rattle.event_worlds.specs.output_collector.Collectors as collector
use Rattle.event_worlds.specs.output_collector.Collectors.{ids_in}
use Rattle.event_worlds.specs.storm_ids.declared.ids.Ids.{Ghosts}
use Rattle.event_worlds.specs.topology_plan.declared.parts.Origin.{Origin}
use Rattle.event_worlds.specs.topology_plan.declared.parts.Origin.TheVariants as origin
use Rattle.event_worlds.specs.topology_plan.Topology.{Topology, component_of, subs_of, tasks_in_all}
use Rattle.event_worlds.specs.taken_records.Cuts.{Cut}

pub from_push : {X : Type 0} (P : ℕ → X → Type 0) (k : ℕ) (xs : List X) (x : X) → AllFrom P k xs → P (k + length xs) x → AllFrom P k (xs ++ x ∷ [])
from_push P k [] x all here = let e : k + 0 ≡ k = omega arith in (subst (λ (n : ℕ). P n x) e here, tt)
from_push P k (y ∷ ys) x all here = let e : k + suc (length ys) ≡ suc k + length ys = omega arith in (all.0, from_push P (suc k) ys x all.1 (subst (λ (n : ℕ). P n x) e here))

-- ---- a source with its start words

module _ {I : Type 0} (told : (ℕ → ℕ → ℕ) → Type 0) (tells : I → (ℕ → ℕ) → ℕ → Type 0) (t : Topology) where
  pub first_source : (from : Origin) (n : ℕ) (ids : I) (made : Collector I) → collector.IsStarted tells t from n ids made → ((words : ℕ → ℕ → ℕ) → told words → tells ids (words n) 0)
      → IsFirstSource told tells t from n (ids_in made) (stand_of made)
  first_source from n ids made started fresh = record {
    starts = started.starts;
    enough = started.enough;
    stands = λ i. record { outlet = started.outlet i; given = started.given i };
    first = λ words is. started.drawn.are_next (words n) 0 (fresh words is);
    goes_on = λ words is. subst (tells (ids_in made) (words n)) (let e : 0 + length started.starts ≡ length started.starts = omega arith in e) (started.drawn.goes_on (words n) 0 (fresh words is));
  }

  -- by words that begin with its start words it stands as in the first world
  stands_first : (words : ℕ → ℕ → ℕ) (from : Origin) (n : ℕ) (source : I) (stand : Stand) (is : IsFirstSource told tells t from n source stand)
      → map (words n) (range_with_len 0 (length is.starts)) ≡ is.starts → stand ≡ first_stand t words n from
  stands_first words from n source stand is begins =
      is.stands
      ∙ (λ i. record { outlet = record { topology = t; from = from; lanes = lanes_of t (subs_of t from) ((sym begins ∙ ap (λ (k : ℕ). map (words n) (range_with_len 0 k)) is.enough) i) }; given = is.enough i })

  -- ---- the seats of tasks

  module _ {g : Ghosts I} where
    pub first_seat : (n : ℕ) (ids : I) (s : TaskSeat I g) → topology_at s.task ≡ t → component_at s.task ≡ component_of t n → number_of s.task ≡ n
        → collector.IsStarted tells t (origin.Component (component_of t n)) n ids (collector_in s.task) → ((words : ℕ → ℕ → ℕ) → told words → tells ids (words n) 0)
        → s.inbox.items ≡ [] → s.outbox.items ≡ [] → IsFirstSeat told tells t n s
    first_seat n ids s topology component number started fresh inbox outbox = record {
      seat = record { topology = topology; component = component; number = number };
      inbox = inbox;
      outbox = outbox;
      source = first_source (origin.Component (component_of t n)) n ids (collector_in s.task) started fresh;
    }

    pub seats_more : (n : ℕ) (seats : List (TaskSeat I g)) (s : TaskSeat I g) → AreFirstSeats told tells t n seats → IsFirstSeat told tells t n s → AreFirstSeats told tells t (n + 1) (seats ++ s ∷ [])
    seats_more n seats s first more = record {
      each = from_push (IsFirstSeat told tells t) 0 seats s first.each (subst (λ (k : ℕ). IsFirstSeat told tells t k s) (let many = first.many in let e : n ≡ 0 + length seats = omega arith in e) more);
      many = length-append seats (s ∷ []) ∙ ap (λ (k : ℕ). k + 1) first.many;
    }

    abbrev starts_of : (k : ℕ) (seats : List (TaskSeat I g)) → AllFrom (IsFirstSeat told tells t) k seats → List (List ℕ)
    starts_of k [] all = []
    starts_of k (s ∷ seats) all = all.0.source.starts ∷ starts_of (suc k) seats all.1

-- ---- start words by the numbers of sources

counts_of : (t : Topology) (words : ℕ → ℕ → ℕ) (s : ℕ) (b c : Bool) → nat_lt s (tasks_in_all t + 1) ≡ b → (s == tasks_in_all t) ≡ c
    → first_counts t words s ≡ cond b (length (subs_of t (cond c origin.Spout (origin.Component (component_of t s))))) 0
counts_of t words s b c low is = λ i. cond (low i) (length (subs_of t (cond (is i) origin.Spout (origin.Component (component_of t s))))) 0

counts_task : (t : Topology) (words : ℕ → ℕ → ℕ) (s : ℕ) → s < tasks_in_all t → first_counts t words s ≡ length (subs_of t (origin.Component (component_of t s)))
counts_task t words s below = counts_of t words s true false (grind (arith, nat_tests)) (grind (arith, nat_tests))

counts_spout : (t : Topology) (words : ℕ → ℕ → ℕ) (s : ℕ) → s ≡ tasks_in_all t → first_counts t words s ≡ length (subs_of t origin.Spout)
counts_spout t words s is = counts_of t words s true true (grind (arith, nat_tests)) (eq-eqb s (tasks_in_all t) is)

counts_past : (t : Topology) (words : ℕ → ℕ → ℕ) (s : ℕ) → tasks_in_all t < s → first_counts t words s ≡ 0
counts_past t words s above = counts_of t words s false false (grind (arith, nat_tests)) (grind (arith, nat_tests))

from_weaker : {X : Type 0} (P Q : ℕ → X → Type 0) → ((n : ℕ) (x : X) → P n x → Q n x) → (k : ℕ) (xs : List X) → AllFrom P k xs → AllFrom Q k xs
from_weaker P Q weaker k [] all = tt
from_weaker P Q weaker k (x ∷ xs) all = (weaker k x all.0, from_weaker P Q weaker (suc k) xs all.1)

-- words begin with these
abbrev Begins : (ℕ → ℕ → ℕ) → ℕ → List ℕ → Type 0
Begins words n starts = map (words n) (range_with_len 0 (length starts)) ≡ starts

module _ {I : Type 0} {g : Ghosts I} (told : (ℕ → ℕ → ℕ) → Type 0) (tells : I → (ℕ → ℕ) → ℕ → Type 0) (t : Topology) (last : List ℕ) where
  -- the start words of source i, of the tasks from a number on and then the coordinator
  abbrev given_from : (k : ℕ) (seats : List (TaskSeat I g)) → AllFrom (IsFirstSeat told tells t) k seats → ℕ → List ℕ
  given_from k seats all i = get_or (starts_of told tells t k seats all ++ last ∷ []) i []

  starts_many : (k : ℕ) (seats : List (TaskSeat I g)) (all : AllFrom (IsFirstSeat told tells t) k seats) → length (starts_of told tells t k seats all) ≡ length seats
  starts_many k [] all = refl
  starts_many k (s ∷ seats) all = ap (λ (n : ℕ). suc n) (starts_many (suc k) seats all.1)

  counted_from : (words : ℕ → ℕ → ℕ) (k : ℕ) (seats : List (TaskSeat I g)) (all : AllFrom (IsFirstSeat told tells t) k seats) → k + length seats ≡ tasks_in_all t → length last ≡ length (subs_of t origin.Spout)
      → (i : ℕ) → length (given_from k seats all i) ≡ first_counts t words (k + i)
  counted_from words k [] all end enough zero = enough ∙ sym (counts_spout t words (k + 0) (let e : k + 0 ≡ tasks_in_all t = omega arith in e))
  counted_from words k [] all end enough (suc i) = sym (counts_past t words (k + suc i) (let e : tasks_in_all t < k + suc i = omega arith in e))
  counted_from words k (s ∷ seats) all end enough zero =
      let same : k ≡ k + 0 = omega arith in
      all.0.source.enough ∙ sym (counts_task t words k (let e : k < tasks_in_all t = omega arith in e)) ∙ ap (first_counts t words) same
  counted_from words k (s ∷ seats) all end enough (suc i) =
      let same : suc k + i ≡ k + suc i = omega arith in
      counted_from words (suc k) seats all.1 (let e : suc k + length seats ≡ tasks_in_all t = omega arith in e) enough i ∙ ap (first_counts t words) same

  -- words that are told begin with them
  gives_from : (words : ℕ → ℕ → ℕ) → told words → (k : ℕ) (seats : List (TaskSeat I g)) (all : AllFrom (IsFirstSeat told tells t) k seats) → Begins words (k + length seats) last
      → (i : ℕ) → Begins words (k + i) (given_from k seats all i)
  gives_from words is k [] all end zero = end
  gives_from words is k [] all end (suc i) = refl
  gives_from words is k (s ∷ seats) all end zero = let same : k ≡ k + 0 = omega arith in subst (λ (n : ℕ). Begins words n all.0.source.starts) same (sym (all.0.source.first words is))
  gives_from words is k (s ∷ seats) all end (suc i) =
      let same : suc k + i ≡ k + suc i = omega arith in
      let last_is : k + suc (length seats) ≡ suc k + length seats = omega arith in
      subst (λ (n : ℕ). Begins words n (given_from (suc k) seats all.1 i)) same (gives_from words is (suc k) seats all.1 (subst (λ (n : ℕ). Begins words n last) last_is end) i)

  -- and each source has given so many
  told_from : (words : ℕ → ℕ → ℕ) → told words → (k : ℕ) (seats : List (TaskSeat I g)) (all : AllFrom (IsFirstSeat told tells t) k seats) (end : I) → tells end (words (k + length seats)) (length last)
      → (i : ℕ) (source : I) → slice_get (map source_in seats ++ end ∷ []) i ≡ Some source → tells source (words (k + i)) (length (given_from k seats all i))
  told_from words is k [] all end so zero source at = let e : end ≡ source = let some : Some end ≡ Some source = at in cc in subst (λ (x : I). tells x (words (k + 0)) (length last)) e so
  told_from words is k [] all end so (suc i) source at = absurd (let e : None ≡ Some source = at in cc)
  told_from words is k (s ∷ seats) all end so zero source at =
      let e : source_in s ≡ source = let some : Some (source_in s) ≡ Some source = at in cc in
      let same : k ≡ k + 0 = omega arith in
      subst (λ (n : ℕ). tells source (words n) (length all.0.source.starts)) same (subst (λ (x : I). tells x (words k) (length all.0.source.starts)) e (all.0.source.goes_on words is))
  told_from words is k (s ∷ seats) all end so (suc i) source at =
      let same : suc k + i ≡ k + suc i = omega arith in
      let last_is : k + suc (length seats) ≡ suc k + length seats = omega arith in
      subst (λ (n : ℕ). tells source (words n) (length (given_from (suc k) seats all.1 i))) same
      (told_from words is (suc k) seats all.1 end (subst (λ (n : ℕ). tells end (words n) (length last)) last_is so) i source at)

  -- by words that begin with them the tasks are those of the first world
  sides_first : (words : ℕ → ℕ → ℕ) (k : ℕ) (seats : List (TaskSeat I g)) (all : AllFrom (IsFirstSeat told tells t) k seats) → ((i : ℕ) → Begins words (k + i) (given_from k seats all i))
      → map task_side seats ≡ map (first_task t words) (range_with_len k (length seats))
  sides_first words k [] all begins = refl
  sides_first words k (s ∷ seats) all begins =
      let here : k + 0 ≡ k = omega arith in
      let stand = stands_first told tells t words (origin.Component (component_of t k)) k (source_in s) (task_side s).stand all.0.source (subst (λ (n : ℕ). Begins words n all.0.source.starts) here (begins 0)) in
      let next : suc k ≡ k + 1 = omega arith in
      (λ i. record { inbox = all.0.inbox i; outbox = all.0.outbox i; stand = stand i } ∷ sides_first words (suc k) seats all.1 (λ j. let e : k + suc j ≡ suc k + j = omega arith in subst (λ (n : ℕ). Begins words n (given_from (suc k) seats all.1 j)) e (begins (suc j))) i)
      ∙ ap (λ (n : ℕ). first_task t words k ∷ map (first_task t words) (range_with_len n (length seats))) next

from_zero : (P : ℕ → Type 0) (s : ℕ) → P (0 + s) → P s
from_zero P s holds = let same : 0 + s ≡ s = omega arith in subst P same holds

-- ---- an engine before the first event

module _ {I : Type 0} {g : Ghosts I} (told : (ℕ → ℕ → ℕ) → Type 0) (tells : I → (ℕ → ℕ) → ℕ → Type 0) (t : Topology) (cut : Cut) (e : Engine I g) where
  -- what is made is of a topology, with nothing begun
  pub record IsMade : Type 0 where
    pub seats : AreFirstSeats told tells t (tasks_in_all t) e.tasks.items
    pub last : IsFirstSource told tells t origin.Spout (tasks_in_all t) (ids_in (collector_of e.coordinator)) (stand_of (collector_of e.coordinator))
    pub ackers : map acker_side e.ackers.items ≡ replicate t.ackers no_acker
    pub desk : desk_of e.coordinator ≡ first_desk cut
    pub verdicts : e.verdicts.items ≡ []
    pub orders : e.orders.items ≡ []
    pub tick : e.tick ≡ 0
    pub unheard : e.unheard ≡ 0
    pub shut : e.shut ≡ 0
    pub fates : e.fates ≡ []

  module _ (made : IsMade) where
    abbrev given : ℕ → List ℕ
    given s = given_from told tells t made.last.starts 0 e.tasks.items made.seats.each s

    all_seats : 0 + length e.tasks.items ≡ tasks_in_all t
    all_seats = let many = made.seats.many in omega arith

    is_first : (words : ℕ → ℕ → ℕ) → Gives words (λ s. 0) given → shape e ≡ first_world t cut words
    is_first words gives =
        let begins : (i : ℕ) → Begins words (0 + i) (given i) = λ i. let same : i ≡ 0 + i = omega arith in subst (λ (n : ℕ). Begins words n (given i)) same (gives i) in
        let tasks : map task_side e.tasks.items ≡ map (first_task t words) (range_with_len 0 (tasks_in_all t)) =
        sides_first told tells t made.last.starts words 0 e.tasks.items made.seats.each begins ∙ ap (λ (n : ℕ). map (first_task t words) (range_with_len 0 n)) made.seats.many in
        let at : given (tasks_in_all t) ≡ made.last.starts =
        ap (λ (n : ℕ). get_or (starts_of told tells t 0 e.tasks.items made.seats.each ++ made.last.starts ∷ []) n []) (sym made.seats.many ∙ sym (starts_many told tells t made.last.starts 0 e.tasks.items made.seats.each))
        ∙ get-after (starts_of told tells t 0 e.tasks.items made.seats.each) [] made.last.starts [] in
        let spout = stands_first told tells t words origin.Spout (tasks_in_all t) (ids_in (collector_of e.coordinator)) (stand_of (collector_of e.coordinator)) made.last
        (subst (λ (starts : List ℕ). Begins words (tasks_in_all t) starts) at (gives (tasks_in_all t))) in
        λ i. record {
          tasks = tasks i;
          ackers = made.ackers i;
          spout = spout i;
          verdicts = made.verdicts i;
          orders = made.orders i;
          desk = made.desk i;
          tick = made.tick i;
          unheard = made.unheard i;
          shut = made.shut i;
          fates = made.fates i;
        }

    pub is_started : IsStarted told tells t cut e
    is_started = record {
      given = given;
      counted = λ words s. from_zero (λ (n : ℕ). length (given s) ≡ first_counts t words n) s (counted_from told tells t made.last.starts words 0 e.tasks.items made.seats.each all_seats made.last.enough s);
      first = is_first;
      gives = λ words is s.
          from_zero (λ (n : ℕ). Begins words n (given s)) s
          (gives_from told tells t made.last.starts words is 0 e.tasks.items made.seats.each (subst (λ (n : ℕ). Begins words n made.last.starts) (sym all_seats) (sym (made.last.first words is))) s);
      goes_on = λ words is s source at.
          from_zero (λ (n : ℕ). tells source (words n) (length (given s))) s
          (told_from told tells t made.last.starts words is 0 e.tasks.items made.seats.each (ids_in (collector_of e.coordinator))
          (subst (λ (n : ℕ). tells (ids_in (collector_of e.coordinator)) (words n) (length made.last.starts)) (sym all_seats) (made.last.goes_on words is)) s source at);
    }

-- some words begin with what was given
some_words : (given : ℕ → List ℕ) → ℕ → ℕ → ℕ
some_words given s k = get_or (given s) k 0

some_gives : (given : ℕ → List ℕ) → Gives (some_words given) (λ s. 0) given
unfolding some_words
some_gives given s = sym (fill_by_all (λ k. get_or (given s) k 0) (given s) (length (given s)) 0 refl (λ k below. refl))

-- an engine that is started is ready
module _ {I : Type 0} {g : Ghosts I} (told : (ℕ → ℕ → ℕ) → Type 0) (tells : I → (ℕ → ℕ) → ℕ → Type 0) (t : Topology) (cut : Cut) (e : Engine I g) where
  pub is_ready : IsInput t cut → IsMade told tells t cut e → e.plan.now ≡ t → AllByRecursion (HasBuckets t.buckets) e.ackers.items → office_of e.coordinator ≡ record { topology = t; cut = cut; desk = first_desk cut }
      → IsOwn e.coordinator → wanted_memory e.coordinator ≡ false → IsKept t cut (first_desk cut) [] → IsReady t cut e
  is_ready input made plan buckets office own memory kept =
      let started : IsStarted told tells t cut e = is_started told tells t cut e made in record {
        input = input;
        seated = record {
          plan = plan;
          tasks = from_weaker (IsFirstSeat told tells t) (IsSeatOf t) (λ n s first. first.seat) 0 e.tasks.items made.seats.each;
          ackers = buckets;
          own = own;
          of_topology = ap (λ (o : Office). o.topology) office;
          of_cut = ap (λ (o : Office). o.cut) office;
        };
        orderly = subst (IsOrderly t) (sym (started.first (some_words started.given) (some_gives started.given))) (orderly-first t cut input (some_words started.given));
        kept = subst (λ (d : Desk). IsKept t cut d e.fates) (sym made.desk) (subst (IsKept t cut (first_desk cut)) (sym made.fates) kept);
        ticks = subst (λ (d : Desk). d.tick ≤ last_tick) (sym made.desk) (omega arith);
        has_memory = memory;
      }
