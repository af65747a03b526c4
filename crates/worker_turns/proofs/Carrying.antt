-- Packets that are carried: one after another, and what stood stands.
use Rattle.std.proofs.Common.{◌≡◌, ◌<◌, ℕ, zero, suc, ◌+◌, List, [], ◌∷◌, length, map, get_or, set, refl, ap, ◌∙◌, arith}
use Rattle.std.specs.List.{AllByRecursion}
use Rattle.worker_stretches.specs.box_rows.declared.mail.Mail.{Mail}
use Rattle.worker_stretches.specs.box_rows.FitRows.{HoldsMore}
use Rattle.worker_stretches.specs.box_rows.Mails.{weigh_mail}
use Rattle.worker_stretches.specs.box_rows.Rows.{HasSent, HasTaken}
use Rattle.event_worlds.specs.counted_items.Weights.{weigh}
use Rattle.event_worlds.proofs.counted_items.Weighing.{weigh-append}
use Rattle.worker_stretches.specs.event_engine.Exchanges.{delivered_all}
use Rattle.event_worlds.specs.Orderly.{FitsParcel, IsOrderly}
use Rattle.event_worlds.specs.Worlds.{AckerSide, TaskSide, World, acker_at, delivered, gets_message, gets_tuple, no_acker, no_task, task_at}
use Rattle.event_worlds.proofs.Orderly.{orderly-delivered}
use Rattle.event_worlds.proofs.Waiting.{ackers-set, tasks-set}
use Rattle.task_queues.specs.declared.pass.Pass.{Pass}
use Rattle.event_worlds.specs.topology_plan.Topology.{Topology}
use Rattle.event_worlds.specs.tree_model.declared.messages.AckMsg.{AckMsg}
use Rattle.event_worlds.specs.tree_model.declared.messages.Parcel.{Parcel}
use Rattle.event_worlds.specs.tree_model.declared.messages.Parcel.TheVariants.{ToTask, ToAcker}
use Rattle.event_worlds.specs.tree_model.declared.messages.Tuple.{Tuple}
use Rattle.event_worlds.specs.tuple_account.Histories.{Packet, of_parcel, weigh_parcels}
use Rattle.worker_stretches.specs.box_account.Inboxes.{weigh_acker_inboxes, weigh_inboxes, weigh_task_inboxes}
use Rattle.worker_stretches.specs.Teams.{Waiting}
use Rattle.worker_turns.specs.Carrying.{Carries, IsRearranged, counted_in, entries_in, stand_in, waits_in}

-- ---- lists with one item changed

-- an item that comes to the same changes nothing of what items come to
map-set-same : {X Y : Type 0} (f : X → Y) (xs : List X) (n : ℕ) (y d : X) → f y ≡ f (get_or xs n d) → map f (set xs n y) ≡ map f xs
map-set-same f [] n y d same = refl
map-set-same f (x ∷ xs) zero y d same = ap (λ z. z ∷ map f xs) same
map-set-same f (x ∷ xs) (suc n) y d same = ap (λ zs. f x ∷ zs) (map-set-same f xs n y d same)

-- ---- inboxes

inbox-tasks-from : (f : Packet → ℕ) (a : ℕ) (sides : List TaskSide) (i n : ℕ) (y d : TaskSide) → i < length sides → n ≡ a + i
    → weigh_task_inboxes f a (set sides i y) + weigh (λ (x : Tuple). f (of_parcel (ToTask n x))) (get_or sides i d).inbox ≡ weigh_task_inboxes f a sides + weigh (λ (x : Tuple). f (of_parcel (ToTask n x))) y.inbox
inbox-tasks-from f a [] i n y d below at = absurd (omega arith)
inbox-tasks-from f a (x ∷ xs) zero n y d below at = let e : n ≡ a = omega arith in rw e (omega arith)
inbox-tasks-from f a (x ∷ xs) (suc i) n y d below at = let rest = inbox-tasks-from f (a + 1) xs i n y d (omega arith) (omega arith) in omega arith

inbox-ackers-from : (f : Packet → ℕ) (a : ℕ) (sides : List AckerSide) (i n : ℕ) (y d : AckerSide) → i < length sides → n ≡ a + i
    → weigh_acker_inboxes f a (set sides i y) + weigh (λ (x : AckMsg). f (of_parcel (ToAcker n x))) (get_or sides i d).inbox ≡ weigh_acker_inboxes f a sides + weigh (λ (x : AckMsg). f (of_parcel (ToAcker n x))) y.inbox
inbox-ackers-from f a [] i n y d below at = absurd (omega arith)
inbox-ackers-from f a (x ∷ xs) zero n y d below at = let e : n ≡ a = omega arith in rw e (omega arith)
inbox-ackers-from f a (x ∷ xs) (suc i) n y d below at = let rest = inbox-ackers-from f (a + 1) xs i n y d (omega arith) (omega arith) in omega arith

-- ---- worlds whose packets moved

pub arranged-none : (w : World) → IsRearranged w w
arranged-none w = record { stands = refl; entries = refl; counts = refl; spout = refl; desk = refl; tick = refl; unheard = refl; shut = refl; fates = refl }

pub arranged-then : (a b c : World) → IsRearranged a b → IsRearranged b c → IsRearranged a c
arranged-then a b c one two = record {
  stands = two.stands ∙ one.stands;
  entries = two.entries ∙ one.entries;
  counts = two.counts ∙ one.counts;
  spout = two.spout ∙ one.spout;
  desk = two.desk ∙ one.desk;
  tick = two.tick ∙ one.tick;
  unheard = two.unheard ∙ one.unheard;
  shut = two.shut ∙ one.shut;
  fates = two.fates ∙ one.fates;
}

arranged-delivered : (t : Topology) (p : Parcel) (w : World) → IsRearranged w (delivered t p w)
arranged-delivered t (ToTask n tuple) w = record {
  stands = map-set-same stand_in w.tasks n (gets_tuple tuple (task_at t n w)) (no_task t) refl;
  entries = refl;
  counts = refl;
  spout = refl;
  desk = refl;
  tick = refl;
  unheard = refl;
  shut = refl;
  fates = refl;
}
arranged-delivered t (ToAcker n m) w = record {
  stands = refl;
  entries = map-set-same entries_in w.ackers n (gets_message m (acker_at n w)) no_acker refl;
  counts = map-set-same counted_in w.ackers n (gets_message m (acker_at n w)) no_acker refl;
  spout = refl;
  desk = refl;
  tick = refl;
  unheard = refl;
  shut = refl;
  fates = refl;
}

-- a parcel that is delivered waits, and stands in an inbox
waits-delivered : (t : Topology) (f : Packet → ℕ) (p : Parcel) (w : World) → FitsParcel t p → IsOrderly t w → waits_in (delivered t p w) f ≡ waits_in w f + f (of_parcel p)
waits-delivered t f (ToTask n tuple) w fits orderly =
    let there = fits.0 in
    let many = orderly.task_count in
    let s = tasks-set f w.tasks n (gets_tuple tuple (task_at t n w)) (no_task t) (omega arith) in
    let a = weigh-append (λ (x : Tuple). f (of_parcel (ToTask n x))) (task_at t n w).inbox (tuple ∷ []) in omega arith
waits-delivered t f (ToAcker n m) w fits orderly =
    let many = orderly.acker_count in
    let s = ackers-set f w.ackers n (gets_message m (acker_at n w)) no_acker (omega (arith, fits)) in
    let a = weigh-append (λ (x : AckMsg). f (of_parcel (ToAcker n x))) (acker_at n w).inbox (m ∷ []) in omega arith

inboxes-delivered : (t : Topology) (f : Packet → ℕ) (p : Parcel) (w : World) → FitsParcel t p → IsOrderly t w → weigh_inboxes f (delivered t p w) ≡ weigh_inboxes f w + f (of_parcel p)
inboxes-delivered t f (ToTask n tuple) w fits orderly =
    let there = fits.0 in
    let many = orderly.task_count in
    let s = inbox-tasks-from f 0 w.tasks n n (gets_tuple tuple (task_at t n w)) (no_task t) (omega arith) (omega arith) in
    let a = weigh-append (λ (x : Tuple). f (of_parcel (ToTask n x))) (task_at t n w).inbox (tuple ∷ []) in omega arith
inboxes-delivered t f (ToAcker n m) w fits orderly =
    let many = orderly.acker_count in
    let s = inbox-ackers-from f 0 w.ackers n n (gets_message m (acker_at n w)) no_acker (omega (arith, fits)) (omega arith) in
    let a = weigh-append (λ (x : AckMsg). f (of_parcel (ToAcker n x))) (acker_at n w).inbox (m ∷ []) in omega arith

-- ---- carrying

pub carries-none : (w : World) (row : List (Pass Mail)) (left : Waiting) → Carries w w row row left left
carries-none w row left = record { arranged = arranged-none w; waits = λ f. refl; through = λ f. refl; more = λ f. omega arith }

pub carries-then : (u v w : World) (x y z : List (Pass Mail)) (a b c : Waiting) → Carries u v x y a b → Carries v w y z b c → Carries u w x z a c
carries-then u v w x y z a b c one two = record {
  arranged = arranged-then u v w one.arranged two.arranged;
  waits = λ f. two.waits f ∙ one.waits f;
  through = λ f. let p = one.through f in let q = two.through f in omega arith;
  more = λ f. let p = one.more f in let q = two.more f in omega arith;
}

-- ---- parcels that come to their boxes

-- one after another
pub record Received (t : Topology) (ps : List Parcel) (old new : World) : Type 0 where
  pub arranged : IsRearranged old new
  pub waits : (f : Packet → ℕ) → waits_in new f ≡ waits_in old f + weigh_parcels f ps
  pub inboxes : (f : Packet → ℕ) → weigh_inboxes f new ≡ weigh_inboxes f old + weigh_parcels f ps

pub received : (t : Topology) (ps : List Parcel) (w : World) → AllByRecursion (FitsParcel t) ps → IsOrderly t w → Received t ps w (delivered_all t ps w)
received t [] w fits orderly = record { arranged = arranged-none w; waits = λ f. omega arith; inboxes = λ f. omega arith }
received t (p ∷ ps) w fits orderly =
    let rest = received t ps (delivered t p w) fits.1 (orderly-delivered t w p fits.0 orderly) in record {
      arranged = arranged-then w (delivered t p w) (delivered_all t ps (delivered t p w)) (arranged-delivered t p w) rest.arranged;
      waits = λ f. let a = rest.waits f in let b = waits-delivered t f p w fits.0 orderly in omega arith;
      inboxes = λ f. let a = rest.inboxes f in let b = inboxes-delivered t f p w fits.0 orderly in omega arith;
    }

-- what came to inboxes was taken from a box
pub carries-comes : (old new : World) (was is : List (Pass Mail)) (left : Waiting) (m : Mail) (n : ℕ) → IsRearranged old new
    → ((f : Packet → ℕ) → waits_in new f ≡ waits_in old f + weigh_mail f m) → ((f : Packet → ℕ) → weigh_inboxes f new ≡ weigh_inboxes f old + weigh_mail f m)
    → HasTaken n m was is → HoldsMore m is was → Carries old new was is left left
carries-comes old new was is left m n arranged waits inboxes takes holds = record {
  arranged = arranged;
  waits = λ f. let a = waits f in let h = holds f in omega arith;
  through = λ f. let a = inboxes f in let k = takes.taken f in omega arith;
  more = λ f. let k = takes.taken f in omega arith;
}

-- mail that was left went to a box
pub carries-sends : (w : World) (was is : List (Pass Mail)) (left now_left : Waiting) (m : Mail) (n : ℕ) → HasSent n m was is → HoldsMore m was is
    → ((f : Packet → ℕ) → left f ≡ weigh_mail f m + now_left f) → Carries w w was is left now_left
carries-sends w was is left now_left m n sends holds less = record {
  arranged = arranged-none w;
  waits = λ f. let h = holds f in let l = less f in omega arith;
  through = λ f. let k = sends.taken f in omega arith;
  more = λ f. let k = sends.taken f in omega arith;
}

-- what waited in a world is left beside it
pub carries-gives : (old new : World) (row : List (Pass Mail)) (left now_left : Waiting) → IsRearranged old new
    → ((f : Packet → ℕ) → now_left f + waits_in new f ≡ left f + waits_in old f) → ((f : Packet → ℕ) → weigh_inboxes f new ≡ weigh_inboxes f old) → Carries old new row row left now_left
carries-gives old new row left now_left arranged waits inboxes = record {
  arranged = arranged;
  waits = λ f. let a = waits f in omega arith;
  through = λ f. let a = inboxes f in omega arith;
  more = λ f. omega arith;
}
