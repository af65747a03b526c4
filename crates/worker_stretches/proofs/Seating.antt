-- Seats that become desks, and desks that become seats.
use Rattle.std.proofs.Common.{◌≡◌, ◌<◌, ℕ, suc, ◌+◌, List, [], ◌∷◌, ◌++◌, length, map, sym, refl, ap, subst, ◌∙◌, arith}
use Rattle.std.specs.List.{AllByRecursion, flat_map, range_with_len}
use Rattle.std.proofs.lemmas.List.{map-append}
use Rattle.event_worlds.specs.bolt_task.declared.task.BoltTask.{BoltTask}
use Rattle.event_worlds.specs.bolt_task.Executing.{collector_in, component_at, number_of, topology_at}
use Rattle.box_rows.specs.Mails.{IsRunFor, IsTrueParcel}
use Rattle.event_worlds.proofs.counted_items.Each.{each-flat_map, each-weaker}
use Rattle.event_worlds.proofs.counted_items.Weighing.{weigh-flat_map}
use Rattle.event_worlds.specs.commit_order.Orders.{stand_of}
use Rattle.event_engine.specs.declared.task.TaskSeat.{TaskSeat}
use Rattle.event_engine.specs.Seats.{AreSeats, IsSeatOf, task_side}
use Rattle.event_worlds.specs.Orderly.{AreTasksOrderly, FitsParcel, IsForTask, IsStandOf, IsTaskOrderly}
use Rattle.event_worlds.specs.Worlds.{TaskSide}
use Rattle.event_worlds.specs.storm_ids.declared.ids.Ids.{Ghosts}
use Rattle.event_worlds.specs.topology_plan.declared.parts.Origin.TheVariants as origin
use Rattle.event_worlds.specs.topology_plan.Topology.{Topology, component_of, tasks_in_all}
use Rattle.event_worlds.specs.tree_model.declared.messages.Parcel.{Parcel}
use Rattle.event_worlds.specs.tuple_account.Histories.{Packet, of_parcel, weigh_parcels}
use Rattle.worker_pool.specs.declared.desk.TaskDesk.{TaskDesk}
use Rattle.worker_pool.specs.declared.outbox.Run.{Run}
use Rattle.worker_pool.specs.Desks.{IsDesk, weigh_inbox}
use Rattle.worker_pool.specs.Outboxes.{AddsAll, IsOutbox, weigh_outbox}
use Rattle.worker_stretches.specs.Places.{IsTaskAt, ZipFrom, desk_number}
use Rattle.worker_stretches.proofs.Zipping.{Zipped, all-from-more, each-last, one-more, no_more, zip-flip, zipped-all, zipped-more, zipped-none}

abbrev pub parcels_in : Run → List Parcel
parcels_in r = r.parcels

-- the parcels of an outbox weigh what its runs do, and fit
pub weighs-flat : (f : Packet → ℕ) (runs : List Run) → weigh_parcels f (flat_map parcels_in runs) ≡ weigh_outbox f runs
weighs-flat f runs = weigh-flat_map (λ (p : Parcel). f (of_parcel p)) parcels_in runs

pub fits-flat : (t : Topology) (runs : List Run) → IsOutbox t runs → AllByRecursion (FitsParcel t) (flat_map parcels_in runs)
fits-flat t runs outbox =
    each-flat_map (FitsParcel t) parcels_in runs
    (each-weaker (λ (r : Run). IsRunFor t r.at r.parcels) (λ (r : Run). AllByRecursion (FitsParcel t) r.parcels)
    (λ r is. each-weaker (IsTrueParcel t r.at) (FitsParcel t) (λ p both. both.0) r.parcels is.each) runs outbox)

orderly-more : (t : Topology) (k n : ℕ) (sides : List TaskSide) (side : TaskSide) → AreTasksOrderly t k sides → n ≡ k + length sides → IsTaskOrderly t n side → AreTasksOrderly t k (sides ++ side ∷ [])
orderly-more t k n [] side all is here = (subst (λ n. IsTaskOrderly t n side) (let e : n ≡ k = omega arith in e) here, tt)
orderly-more t k n (x ∷ sides) side all is here = (all.0, orderly-more t (suc k) n sides side all.1 (omega arith) here)

module _ {I : Type 0} {g : Ghosts I} (t : Topology) where
  pub desk_made : (n : ℕ) (s : TaskSeat I g) (d : TaskDesk I g) → n < tasks_in_all t → IsSeatOf t n s → IsTaskOrderly t n (task_side s) → d.number ≡ n → d.task ≡ s.task → d.inbox ≡ s.inbox → IsOutbox t d.outbox → IsDesk t d
  desk_made n s d there seat orderly number task inbox outbox = record {
    topology = ap topology_at task ∙ seat.topology;
    number = ap number_of task ∙ seat.number ∙ sym number;
    component = ap component_at task ∙ seat.component ∙ ap (component_of t) (sym number);
    there = subst (λ (m : ℕ). m < tasks_in_all t) (sym number) there;
    inbox = subst (λ (m : ℕ). AllByRecursion (IsForTask t m) d.inbox.items) (sym number) (subst (λ xs. AllByRecursion (IsForTask t n) xs) (ap (λ q. q.items) (sym inbox)) orderly.inbox);
    outbox = outbox;
    stand = subst (λ (m : ℕ). IsStandOf t (origin.Component (component_of t m)) (stand_of (collector_in d.task))) (sym number)
        (subst (λ (b : BoltTask I g). IsStandOf t (origin.Component (component_of t n)) (stand_of (collector_in b))) (sym task) orderly.stand);
  }

  pub at_desk : (n : ℕ) (s : TaskSeat I g) (d : TaskDesk I g) → d.number ≡ n → d.task ≡ s.task → d.inbox ≡ s.inbox → AddsAll s.outbox.items [] d.outbox → IsTaskAt n s d
  at_desk n s d number task inbox adds = record {
    number = number;
    task = task;
    inbox = inbox;
    waiting = λ f.
        let a = adds.packets f in
        let b : weigh_inbox f d.number d.inbox.items ≡ weigh_inbox f n s.inbox.items = (λ i. weigh_inbox f (number i) (inbox i).items) in omega arith;
  }

  pub seat_made : (s : TaskSeat I g) (d : TaskDesk I g) → IsDesk t d → s.task ≡ d.task → IsSeatOf t d.number s
  seat_made s d desk task = record {
    topology = ap topology_at task ∙ desk.topology;
    component = ap component_at task ∙ desk.component;
    number = ap number_of task ∙ desk.number;
  }

  pub seat_orderly : (s : TaskSeat I g) (d : TaskDesk I g) → IsDesk t d → s.task ≡ d.task → s.inbox ≡ d.inbox → s.outbox.items ≡ flat_map parcels_in d.outbox → IsTaskOrderly t d.number (task_side s)
  seat_orderly s d desk task inbox outbox = record {
    inbox = subst (λ xs. AllByRecursion (IsForTask t d.number) xs) (ap (λ q. q.items) (sym inbox)) desk.inbox;
    outbox = subst (AllByRecursion (FitsParcel t)) (sym outbox) (fits-flat t d.outbox desk.outbox);
    stand = subst (λ (b : BoltTask I g). IsStandOf t (origin.Component (component_of t d.number)) (stand_of (collector_in b))) (sym task) desk.stand;
  }

  pub at_seat : (s : TaskSeat I g) (d : TaskDesk I g) → s.task ≡ d.task → s.inbox ≡ d.inbox → s.outbox.items ≡ flat_map parcels_in d.outbox → IsTaskAt d.number s d
  at_seat s d task inbox outbox = record {
    number = refl;
    task = sym task;
    inbox = sym inbox;
    waiting = λ f.
        let a = weighs-flat f d.outbox in
        let b = ap (weigh_parcels f) outbox in
        let c : weigh_inbox f d.number s.inbox.items ≡ weigh_inbox f d.number d.inbox.items = (λ i. weigh_inbox f d.number (inbox i).items) in omega arith;
  }

  -- ---- all desks

  pub record Desking (all rest : List (TaskSeat I g)) (made : List (TaskDesk I g)) : Type 0 where
    pub pairs : Zipped IsTaskAt all rest made
    pub desks : AllByRecursion (IsDesk t) made
    pub seats : AreSeats t (length made) rest
    pub orderly : AreTasksOrderly t (length made) (map task_side rest)

  pub desking-none : (all : List (TaskSeat I g)) → AreSeats t 0 all → AreTasksOrderly t 0 (map task_side all) → Desking all all []
  desking-none all seats orderly = record { pairs = zipped-none IsTaskAt all; desks = tt; seats = seats; orderly = orderly }

  pub desking-more : (all left rest : List (TaskSeat I g)) (s : TaskSeat I g) (made : List (TaskDesk I g)) (d : TaskDesk I g) → left ≡ s ∷ rest → Desking all left made → IsDesk t d → IsTaskAt (length made) s d
      → Desking all rest (made ++ d ∷ [])
  desking-more all left rest s made d is so_far desk at = record {
    pairs = zipped-more IsTaskAt all rest s made d (subst (λ (xs : List (TaskSeat I g)). Zipped IsTaskAt all xs made) is so_far.pairs) at;
    desks = each-last (IsDesk t) made d so_far.desks desk;
    seats = subst (λ (n : ℕ). AreSeats t n rest) (sym (one-more made d)) (subst (λ (xs : List (TaskSeat I g)). AreSeats t (length made) xs) is so_far.seats).1;
    orderly = subst (λ (n : ℕ). AreTasksOrderly t n (map task_side rest)) (sym (one-more made d)) (subst (λ (xs : List (TaskSeat I g)). AreTasksOrderly t (length made) (map task_side xs)) is so_far.orderly).1;
  }

  pub desked : (all rest : List (TaskSeat I g)) (made : List (TaskDesk I g)) → Desking all rest made → length rest ≡ 0 → ZipFrom IsTaskAt 0 all made
  desked all rest made so_far none = zipped-all IsTaskAt all made (subst (λ (xs : List (TaskSeat I g)). Zipped IsTaskAt all xs made) (no_more rest none) so_far.pairs)

  -- ---- all seats

  abbrev pub Back : ℕ → TaskDesk I g → TaskSeat I g → Type 0
  Back n d s = IsTaskAt n s d

  pub record Backing (all rest : List (TaskDesk I g)) (made : List (TaskSeat I g)) : Type 0 where
    pub pairs : Zipped Back all rest made
    pub desks : AllByRecursion (IsDesk t) rest
    pub numbered : map desk_number rest ≡ range_with_len (length made) (length rest)
    pub seats : AreSeats t 0 made
    pub orderly : AreTasksOrderly t 0 (map task_side made)

  pub backing-none : (all : List (TaskDesk I g)) → AllByRecursion (IsDesk t) all → map desk_number all ≡ range_with_len 0 (length all) → Backing all all []
  backing-none all desks numbered = record { pairs = zipped-none Back all; desks = desks; numbered = numbered; seats = tt; orderly = tt }

  len-map : (xs : List (TaskSeat I g)) → length (map task_side xs) ≡ length xs
  len-map [] = refl
  len-map (x ∷ xs) = ap (λ (n : ℕ). suc n) (len-map xs)

  pub backing-more : (all left rest : List (TaskDesk I g)) (d : TaskDesk I g) (made : List (TaskSeat I g)) (s : TaskSeat I g) → left ≡ d ∷ rest → Backing all left made
      → IsSeatOf t d.number s → IsTaskOrderly t d.number (task_side s) → IsTaskAt d.number s d → Backing all rest (made ++ s ∷ [])
  backing-more all left rest d made s is so_far seat orderly at =
      let numbers : map desk_number (d ∷ rest) ≡ range_with_len (length made) (length (d ∷ rest)) = subst (λ (xs : List (TaskDesk I g)). map desk_number xs ≡ range_with_len (length made) (length xs)) is so_far.numbered in
      let first : d.number ≡ length made = (let e : d.number ∷ map desk_number rest ≡ length made ∷ range_with_len (length made + 1) (length rest) = numbers in cc) in
      let others : map desk_number rest ≡ range_with_len (length made + 1) (length rest) = (let e : d.number ∷ map desk_number rest ≡ length made ∷ range_with_len (length made + 1) (length rest) = numbers in cc) in record {
        pairs = zipped-more Back all rest d made s (subst (λ (xs : List (TaskDesk I g)). Zipped Back all xs made) is so_far.pairs) (subst (λ (n : ℕ). IsTaskAt n s d) first at);
        desks = (subst (AllByRecursion (IsDesk t)) is so_far.desks).1;
        numbered = others ∙ ap (λ (n : ℕ). range_with_len n (length rest)) (let a = one-more made s in let e : length made + 1 ≡ length (made ++ s ∷ []) = omega arith in e);
        seats = all-from-more (IsSeatOf t) 0 (length made) made s so_far.seats (omega arith) (subst (λ (n : ℕ). IsSeatOf t n s) first seat);
        orderly = subst (AreTasksOrderly t 0) (sym (map-append task_side made (s ∷ [])))
            (orderly-more t 0 (length (map task_side made)) (map task_side made) (task_side s) so_far.orderly (omega arith) (subst (λ (n : ℕ). IsTaskOrderly t n (task_side s)) (first ∙ sym (len-map made)) orderly));
      }

  pub backed : (all : List (TaskDesk I g)) (made : List (TaskSeat I g)) → Zipped Back all [] made → ZipFrom IsTaskAt 0 made all
  backed all made zipped = zip-flip Back 0 all made (zipped-all Back all made zipped)
