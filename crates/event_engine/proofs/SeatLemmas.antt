-- What the acts of seats come to.
use Rattle.std.proofs.Common.{◌≡◌, ◌<◌, ℕ, zero, suc, ◌+◌, List, [], ◌∷◌, length, map, Option, Some, None, get_or, set, sym, refl, ap, subst, ◌∙◌, arith}
use Rattle.std.specs.Prelude.{slice_get}
use Rattle.std.specs.List.{AllByRecursion}
use Rattle.std.proofs.lemmas.List.{map-set}
use Rattle.event_worlds.specs.acker_core.declared.verdict.Verdict.{Verdict}
use Rattle.event_worlds.specs.bolt_ops.RowOp.{Custom}
use Rattle.event_worlds.specs.bolt_task.Executing.{IsFor, IsSameTask, component_at, number_of, topology_at}
use Rattle.event_worlds.proofs.counted_items.Each.{each-map, each-to_map, each-weaker}
use Rattle.event_engine.specs.Engines.{IsThere}
use Rattle.event_engine.specs.Seats.{Acts, ActsAt, AllFrom, AnswersAt, AreSeats, HasBuckets, IsSeatOf, PutsMessage, Takes, Works, acker_side, buckets_in, source_in, task_side}
use Rattle.event_engine.specs.declared.acker.AckerSeat.{AckerSeat}
use Rattle.event_engine.specs.declared.task.TaskSeat.{TaskSeat}
use Rattle.event_worlds.specs.Orderly.{FitsParcel, IsForTask, IsTaskOrderly}
use Rattle.event_worlds.specs.Worlds.{AckerSide, TaskSide, acted_past, answered, gets_message, needed_past, no_acker}
use Rattle.event_worlds.specs.output_collector.Draws.{Draws}
use Rattle.event_worlds.specs.storm_ids.declared.ids.Ids.{Ghosts}
use Rattle.event_worlds.specs.storm_values.Rows.{IsRow}
use Rattle.event_worlds.specs.topology_plan.Topology.{Topology, tasks_in_all}
use Rattle.event_worlds.specs.topology_plan.Wired.{width_to}
use Rattle.event_worlds.specs.tree_model.declared.messages.AckMsg.{AckMsg}
use Rattle.event_worlds.specs.tree_model.declared.messages.Parcel.{Parcel}
use Rattle.event_worlds.specs.tree_model.declared.messages.Parcel.TheVariants.{ToTask, ToAcker}

pub draws-none : {S : Type 0} (tells : S → (ℕ → ℕ) → ℕ → Type 0) (d : S) → Draws tells d [] d
draws-none tells d = record {
  are_next = λ words given told. refl;
  goes_on = λ words given told. subst (tells d words) (let e : given ≡ given + 0 = omega arith in e) told;
}

module _ {I : Type 0} {g : Ghosts I} (tells : I → (ℕ → ℕ) → ℕ → Type 0) (t : Topology) (custom : Custom) (n : ℕ) where
  -- a parcel that is handed over is the front one
  pub acts_front : (parcel : Parcel) (old new : TaskSeat I g) → old.outbox.items ≡ parcel ∷ new.outbox.items → new.inbox ≡ old.inbox → new.task ≡ old.task
      → Acts tells t custom n (Some parcel) old new
  acts_front parcel old new front inbox task = record {
    ids = [];
    enough = sym (ap (needed_past t custom old.inbox.items) front);
    side =
        let same : task_side new ≡ record (task_side old) { outbox = new.outbox.items } =
        λ i. record (task_side (record old { inbox = inbox i; task = task i })) { outbox = new.outbox.items }
        in same ∙ ap (λ out. (acted_past t custom n [] (task_side old) out).side) (sym front);
    sent = ap (λ out. (acted_past t custom n [] (task_side old) out).parcel) (sym front);
    drawn = subst (λ (s : I). Draws tells (source_in old) [] s) (λ i. source_in (record old { task = sym task i })) (draws-none tells (source_in old));
    same_task = subst (λ b. IsSameTask b old.task) (sym task) (record { topology = refl; component = refl; number = refl });
  }

  -- with nothing to hand over it executes its front tuple
  pub acts_work : (old new : TaskSeat I g) → old.outbox.items ≡ [] → Works tells t custom n old new → Acts tells t custom n None old new
  acts_work old new empty works = record {
    ids = works.ids;
    enough = works.enough ∙ sym (ap (needed_past t custom old.inbox.items) empty);
    side = works.side ∙ ap (λ out. (acted_past t custom n works.ids (task_side old) out).side) (sym empty);
    sent = ap (λ out. (acted_past t custom n works.ids (task_side old) out).parcel) (sym empty);
    drawn = works.drawn;
    same_task = works.same_task;
  }

-- ---- seats in their rows

-- what is so of an item is so of each that stands there
pub only-there : {X : Type 0} (P : X → Type 0) (xs : List X) (i : ℕ) (x y : X) → slice_get xs i ≡ Some x → P x → slice_get xs i ≡ Some y → P y
only-there {X} P xs i x y at is found =
    let same : x ≡ y = let some : Some x ≡ Some y = sym at ∙ found in cc in subst P same is

pub at-some : {X : Type 0} (xs : List X) (i : ℕ) (x : X) → i < length xs → x ≡ get_or xs i x → slice_get xs i ≡ Some x
at-some [] i x below is = absurd (omega arith)
at-some (y ∷ ys) zero x below is = ap (λ z. Some z) (sym is)
at-some (y ∷ ys) (suc i) x below is = at-some ys i x (omega arith) is

pub get-map : {X Y : Type 0} (f : X → Y) (xs : List X) (i : ℕ) (x : X) (none : Y) → slice_get xs i ≡ Some x → get_or (map f xs) i none ≡ f x
get-map f [] i x none at = absurd (let e : None ≡ Some x = at in cc)
get-map f (y ∷ ys) zero x none at = let e : y ≡ x = let some : Some y ≡ Some x = at in cc in ap f e
get-map f (y ∷ ys) (suc i) x none at = get-map f ys i x none at

pub get-map_some : {X Y : Type 0} (f : X → Y) (xs : List X) (i : ℕ) (x : X) → slice_get xs i ≡ Some x → slice_get (map f xs) i ≡ Some (f x)
get-map_some f [] i x at = absurd (let e : None ≡ Some x = at in cc)
get-map_some f (y ∷ ys) zero x at = let e : y ≡ x = let some : Some y ≡ Some x = at in cc in ap (λ z. Some (f z)) e
get-map_some f (y ∷ ys) (suc i) x at = get-map_some f ys i x at

-- a change of one seat is a change of one side
pub side-set : {X Y : Type 0} (f : X → Y) (xs : List X) (i : ℕ) (x y : X) (change : Y → Y) (none : Y) → slice_get xs i ≡ Some x → f y ≡ change (f x)
    → map f (set xs i y) ≡ set (map f xs) i (change (get_or (map f xs) i none))
side-set f xs i x y change none at changed =
    map-set f xs i y ∙ ap (λ z. set (map f xs) i z) (changed ∙ ap change (sym (get-map f xs i x none at)))

-- and no change where the side is the same
pub side-same : {X Y : Type 0} (f : X → Y) (xs : List X) (i : ℕ) (x y : X) → slice_get xs i ≡ Some x → f y ≡ f x → map f (set xs i y) ≡ map f xs
side-same f [] i x y at same = absurd (let e : None ≡ Some x = at in cc)
side-same f (z ∷ zs) zero x y at same = let e : z ≡ x = let some : Some z ≡ Some x = at in cc in ap (λ w. w ∷ map f zs) (same ∙ ap f (sym e))
side-same f (z ∷ zs) (suc i) x y at same = ap (λ ws. f z ∷ ws) (side-same f zs i x y at same)

-- ---- ackers

pub puts_message : (m : AckMsg) (n : ℕ) (old : List AckerSeat) (x y : AckerSeat) → n < length old → x ≡ get_or old n x → acker_side y ≡ gets_message m (acker_side x) → buckets_in y ≡ buckets_in x
    → PutsMessage m n old (set old n y)
puts_message m n old x y below is side buckets =
    let at = at-some old n x below is in record {
      sides = side-set acker_side old n x y (gets_message m) no_acker at side;
      same_buckets = side-same buckets_in old n x y at buckets;
    }

pub answers_at : (buckets tick n : ℕ) (verdict : Option Verdict) (old : List AckerSeat) (x y : AckerSeat) → n < length old → x ≡ get_or old n x
    → acker_side y ≡ (answered buckets tick (acker_side x)).side → verdict ≡ (answered buckets tick (acker_side x)).verdict → buckets_in y ≡ buckets_in x
    → AnswersAt buckets tick n verdict old (set old n y)
answers_at buckets tick n verdict old x y below is side sent same =
    let at = at-some old n x below is in record {
      sides = side-set acker_side old n x y (λ (s : AckerSide). (answered buckets tick s).side) no_acker at side;
      sent = sent ∙ ap (λ (s : AckerSide). (answered buckets tick s).verdict) (sym (get-map acker_side old n x no_acker at));
      same_buckets = side-same buckets_in old n x y at same;
    }

pub buckets_at : (buckets n : ℕ) (seats : List AckerSeat) (x : AckerSeat) → AllByRecursion (HasBuckets buckets) seats → n < length seats → x ≡ get_or seats n x → buckets_in x ≡ buckets
buckets_at buckets n [] x all below is = absurd (omega arith)
buckets_at buckets zero (y ∷ ys) x all below is = ap buckets_in is ∙ all.0
buckets_at buckets (suc n) (y ∷ ys) x all below is = buckets_at buckets n ys x all.1 (omega arith) is

-- the buckets are those of before
pub buckets_kept : (buckets : ℕ) (old new : List AckerSeat) → map buckets_in new ≡ map buckets_in old → AllByRecursion (HasBuckets buckets) old → AllByRecursion (HasBuckets buckets) new
buckets_kept buckets old new same all =
    each-map (λ (n : ℕ). n ≡ buckets) buckets_in new
    (subst (AllByRecursion (λ (n : ℕ). n ≡ buckets)) (sym same) (each-to_map (λ (n : ℕ). n ≡ buckets) buckets_in old all))

-- ---- tasks

pub from_at : {X : Type 0} (P : ℕ → X → Type 0) (k n : ℕ) (xs : List X) (x : X) → AllFrom P k xs → slice_get xs n ≡ Some x → P (k + n) x
from_at P k n [] x all at = absurd (let e : None ≡ Some x = at in cc)
from_at P k zero (y ∷ ys) x all at =
    let e : y ≡ x = let some : Some y ≡ Some x = at in cc in
    let same : k ≡ k + 0 = omega arith in subst (λ (m : ℕ). P m x) same (subst (P k) e all.0)
from_at P k (suc n) (y ∷ ys) x all at =
    let same : suc k + n ≡ k + suc n = omega arith in subst (λ (m : ℕ). P m x) same (from_at P (suc k) n ys x all.1 at)

pub from_set : {X : Type 0} (P : ℕ → X → Type 0) (k n : ℕ) (xs : List X) (y : X) → AllFrom P k xs → P (k + n) y → AllFrom P k (set xs n y)
from_set P k n [] y all here = tt
from_set P k zero (x ∷ xs) y all here = let same : k + 0 ≡ k = omega arith in (subst (λ (m : ℕ). P m y) same here, all.1)
from_set P k (suc n) (x ∷ xs) y all here =
    let same : k + suc n ≡ suc k + n = omega arith in (all.0, from_set P (suc k) n xs y all.1 (subst (λ (m : ℕ). P m y) same here))

module _ {I : Type 0} {g : Ghosts I} where
  pub seat_at : (t : Topology) (n : ℕ) (seats : List (TaskSeat I g)) (s : TaskSeat I g) → AreSeats t 0 seats → slice_get seats n ≡ Some s → IsSeatOf t n s
  seat_at t n seats s all at = let same : 0 + n ≡ n = omega arith in subst (λ (m : ℕ). IsSeatOf t m s) same (from_at (IsSeatOf t) 0 n seats s all at)

  -- a seat is that of the same task
  pub seats_set : (t : Topology) (n : ℕ) (seats : List (TaskSeat I g)) (x y : TaskSeat I g) → AreSeats t 0 seats → slice_get seats n ≡ Some x → IsSameTask y.task x.task → AreSeats t 0 (set seats n y)
  seats_set t n seats x y all at same =
      let is : IsSeatOf t (0 + n) x = from_at (IsSeatOf t) 0 n seats x all at in
      from_set (IsSeatOf t) 0 n seats y all (record { topology = same.topology ∙ is.topology; component = same.component ∙ is.component; number = same.number ∙ is.number })

  -- a task takes what stands in its box
  pub takes_of : (t : Topology) (n : ℕ) (s : TaskSeat I g) → IsSeatOf t n s → IsTaskOrderly t n (task_side s) → Takes s
  takes_of t n s seat is =
      each-weaker (IsForTask t n) (IsFor s.task)
      (λ tuple for. record {
        to = for.to ∙ sym seat.component;
        row = subst (λ (u : Topology). IsRow (width_to u (component_at s.task)) tuple.row) (sym seat.topology) (subst (λ (c : ℕ). IsRow (width_to t c) tuple.row) (sym seat.component) for.row);
      })
      s.inbox.items is.inbox

-- ---- an act among seats

module _ {I : Type 0} {g : Ghosts I} (tells : I → (ℕ → ℕ) → ℕ → Type 0) (custom : Custom) (n : ℕ) where
  pub acts_at : (parcel : Option Parcel) (old : List (TaskSeat I g)) (x y : TaskSeat I g) → n < length old → x ≡ get_or old n x
      → Acts tells (topology_at x.task) custom (number_of x.task) parcel x y → ActsAt tells custom n parcel old (set old n y)
  acts_at parcel old x y below is acts = record { before = x; after = y; at = at-some old n x below is; acts = acts; others = refl }

  -- among the seats of a topology it is the act of task n
  pub acts_of : (t : Topology) (parcel : Option Parcel) (old new : List (TaskSeat I g)) → AreSeats t 0 old → (a : ActsAt tells custom n parcel old new) → Acts tells t custom n parcel a.before a.after
  acts_of t parcel old new all a =
      let seat : IsSeatOf t n a.before = seat_at t n old a.before all a.at in
      subst (λ (m : ℕ). Acts tells t custom m parcel a.before a.after) seat.number (subst (λ (u : Topology). Acts tells u custom (number_of a.before.task) parcel a.before a.after) seat.topology a.acts)

-- what a task hands over fits where it goes
pub handed_fits : (t : Topology) (custom : Custom) (n : ℕ) (ids : List ℕ) (side : TaskSide) (out : List Parcel) (parcel : Parcel) → AllByRecursion (FitsParcel t) out
    → Some parcel ≡ (acted_past t custom n ids side out).parcel → FitsParcel t parcel
handed_fits t custom n ids side [] parcel fit is = absurd (let e : Some parcel ≡ None = is in cc)
handed_fits t custom n ids side (first ∷ rest) parcel fit is = let e : first ≡ parcel = let some : Some parcel ≡ Some first = is in cc in subst (FitsParcel t) e fit.0

-- so it names a task or an acker that is there
pub fits_there : (t : Topology) (tasks ackers : ℕ) (parcel : Parcel) → tasks ≡ tasks_in_all t → ackers ≡ t.ackers → FitsParcel t parcel → IsThere tasks ackers parcel
fits_there t tasks ackers (ToTask n tuple) a b fits = let below = fits.0 in omega arith
fits_there t tasks ackers (ToAcker n m) a b fits = let below : n < t.ackers = fits in omega arith
