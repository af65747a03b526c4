-- Boxes that are emptied into inboxes.
use Rattle.std.proofs.Common.{◌≡◌, ◌<◌, ◌≤◌, ◌⊎◌, inl, inr, ℕ, zero, suc, ◌+◌, List, [], ◌∷◌, ◌++◌, length, map, set, sym, refl, ap, subst, ◌∙◌, arith}
use Rattle.std.proofs.lemmas.Bool.{cases_eq}
use Rattle.std.specs.Prelude.{slice_get, Some, None}
use Rattle.std.proofs.lemmas.List.{length-map}
use Rattle.std.specs.List.{AllByRecursion}
use Rattle.event_worlds.specs.acker_core.declared.verdict.Verdict.{Verdict}
use Rattle.worker_stretches.specs.box_rows.declared.mail.Mail.{Mail}
use Rattle.worker_stretches.specs.box_rows.declared.mail.Mail.TheVariants as mail
use Rattle.worker_stretches.specs.box_rows.FitRows.{HoldsMore, IsFitRow, held_in}
use Rattle.worker_stretches.specs.box_rows.Mails.{IsTrueMail, IsTrueParcel, weigh_mail}
use Rattle.worker_stretches.specs.box_rows.Rows.{ArePasses, HasSent, HasTaken, IsEmpty, IsFull, IsSameRow, IsViewAt}
use Rattle.event_worlds.proofs.counted_items.Each.{each-append, each-weaker}
use Rattle.event_worlds.proofs.counted_items.Weighing.{weigh-append, weigh-ones}
use Rattle.worker_stretches.specs.event_engine.declared.engine.Engine.{Engine}
use Rattle.worker_stretches.specs.event_engine.Engines.{IsReady, IsStill, cut_in, shape, sources}
use Rattle.worker_stretches.specs.event_engine.Exchanges.{delivered_all, parcels_out, verdicts_out, without_parcels, without_verdicts}
use Rattle.event_worlds.specs.Accounted.{weigh_ackers, weigh_tasks}
use Rattle.event_worlds.specs.Orderly.{AreTasksOrderly, FitsParcel, IsOrderly}
use Rattle.event_worlds.specs.Worlds.{AckerSide, TaskSide, World, acker_at, delivered, gets_message, gets_tuple, no_acker, no_task, task_at}
use Rattle.event_worlds.proofs.Waiting.{each-at, each-set}
use Rattle.event_worlds.specs.storm_ids.declared.ids.Ids.{Ghosts}
use Rattle.task_queues.specs.Books.{sent_of, taken_of}
use Rattle.task_queues.specs.declared.pass.Mailbox.{Mailbox}
use Rattle.task_queues.specs.declared.pass.Pass.{Pass}
use Rattle.task_queues.specs.declared.rule.Stamped.{Stamped}
use Rattle.task_queues.specs.declared.rule.View.{View}
use Rattle.task_queues.specs.Passes.{view_of}
use Rattle.event_worlds.specs.topology_plan.Topology.{Topology}
use Rattle.event_worlds.specs.tree_model.declared.messages.Parcel.{Parcel}
use Rattle.event_worlds.specs.tree_model.declared.messages.Parcel.TheVariants.{ToTask, ToAcker}
use Rattle.event_worlds.specs.taken_records.Cuts.{Cut}
use Rattle.event_worlds.specs.tuple_account.Histories.{Packet, of_parcel, of_verdict, weigh_parcels}
use Rattle.worker_stretches.specs.box_account.Inboxes.{weigh_acker_inboxes, weigh_task_inboxes}
use Rattle.worker_stretches.specs.Teams.{Waiting}
use Rattle.worker_turns.specs.Carrying.{AreEmpty, Brings, Carries, EngineCarries, FitsMail, HaveRoom, IsEmptyAt, KeepsOthers, StaysSwept, counted_in, entries_in, nothing_left, stand_in, weigh_all, weigh_verdicts}
use Rattle.worker_turns.proofs.Carrying.{arranged-none, carries-comes, carries-gives, carries-none, carries-sends, carries-then, received}

-- ---- lists by places

some-one : {X : Type 0} (x y : X) → Some x ≡ Some y → x ≡ y
some-one x y e = cc

none-some : {X : Type 0} (x : X) → None ≡ Some x → ⊥
none-some x e = cc

get-here : {X : Type 0} (xs : List X) (n : ℕ) → n < length xs → (x : X) × (slice_get xs n ≡ Some x)
get-here [] n below = absurd (omega arith)
get-here (x ∷ xs) zero below = (x, refl)
get-here (x ∷ xs) (suc n) below = get-here xs n (omega arith)

get-short : {X : Type 0} (xs : List X) (n : ℕ) (x : X) → slice_get xs n ≡ Some x → n < length xs
get-short [] n x at = absurd (none-some x at)
get-short (y ∷ ys) zero x at = omega arith
get-short (y ∷ ys) (suc n) x at = let e = get-short ys n x at in omega arith

get-set-other : {X : Type 0} (xs : List X) (n m : ℕ) (y : X) → (m ≡ n → ⊥) → slice_get (set xs n y) m ≡ slice_get xs m
get-set-other [] n m y other = refl
get-set-other (x ∷ xs) zero zero y other = absurd (other refl)
get-set-other (x ∷ xs) zero (suc m) y other = refl
get-set-other (x ∷ xs) (suc n) zero y other = refl
get-set-other (x ∷ xs) (suc n) (suc m) y other = get-set-other xs n m y (λ e. other (ap (λ (k : ℕ). suc k) e))

get-mapped : {X Y : Type 0} (f : X → Y) (xs : List X) (n : ℕ) (y : Y) → slice_get (map f xs) n ≡ Some y → (x : X) × (slice_get xs n ≡ Some x) × (f x ≡ y)
get-mapped f [] n y at = absurd (none-some y at)
get-mapped f (x ∷ xs) zero y at = (x, refl, some-one (f x) y at)
get-mapped f (x ∷ xs) (suc n) y at = get-mapped f xs n y at

get-map-at : {X Y : Type 0} (f : X → Y) (xs : List X) (n : ℕ) (x : X) → slice_get xs n ≡ Some x → slice_get (map f xs) n ≡ Some (f x)
get-map-at f [] n x at = absurd (none-some x at)
get-map-at {X = X} f (z ∷ xs) zero x at = ap (λ (o : X). Some (f o)) (some-one z x at)
get-map-at f (z ∷ xs) (suc n) x at = get-map-at f xs n x at

pub all-at : {X : Type 0} (P : X → Type 0) (xs : List X) (n : ℕ) (x : X) → AllByRecursion P xs → slice_get xs n ≡ Some x → P x
all-at P [] n x all at = absurd (none-some x at)
all-at P (y ∷ ys) zero x all at = subst P (some-one y x at) all.0
all-at P (y ∷ ys) (suc n) x all at = all-at P ys n x all.1 at

pub all-by : {X : Type 0} (P : X → Type 0) (xs : List X) → ((n : ℕ) (x : X) → slice_get xs n ≡ Some x → P x) → AllByRecursion P xs
all-by P [] each = tt
all-by P (x ∷ xs) each = (each 0 x refl, all-by P xs (λ n y at. each (suc n) y at))

-- ---- rows

pub others-none : (n : ℕ) (row : List (Pass Mail)) → KeepsOthers n row row
others-none n row = λ m v other at. at

pub others-then : (n : ℕ) (a b c : List (Pass Mail)) → KeepsOthers n a b → KeepsOthers n b c → KeepsOthers n a c
others-then n a b c one two = λ m v other at. one m v other (two m v other at)

others-set : (n : ℕ) (old new : List (Pass Mail)) (w : View Mail) → map view_of new ≡ set (map view_of old) n w → KeepsOthers n old new
others-set n old new w views = λ m v other at.
    sym (get-set-other (map view_of old) n m w other) ∙ ap (λ (vs : List (View Mail)). slice_get vs m) (sym views) ∙ at

pub others-taken : (n : ℕ) (m : Mail) (old new : List (Pass Mail)) → HasTaken n m old new → KeepsOthers n old new
others-taken n m old new takes = others-set n old new _ takes.views

pub others-sent : (n : ℕ) (m : Mail) (old new : List (Pass Mail)) → HasSent n m old new → KeepsOthers n old new
others-sent n m old new sends = others-set n old new _ sends.views

pub others-same : (n : ℕ) (old new : List (Pass Mail)) → IsSameRow old new → KeepsOthers n old new
others-same n old new same = λ m v other at. ap (λ (vs : List (View Mail)). slice_get vs m) (sym same.views) ∙ at

pub empty-at-same : (n : ℕ) (old new : List (Pass Mail)) → IsSameRow old new → IsEmptyAt n old → IsEmptyAt n new
empty-at-same n old new same empty = λ v at. empty v (ap (λ (vs : List (View Mail)). slice_get vs n) (sym same.views) ∙ at)

-- all others were empty, and this one is
pub empty-again : (n : ℕ) (old new : List (Pass Mail)) → AreEmpty old → KeepsOthers n old new → IsEmptyAt n new → AreEmpty new
empty-again n old new empty others here = all-by (λ (v : View Mail). IsEmpty v) (map view_of new) (λ m v at. by m v at (cases_eq m n))
  where
    by : (m : ℕ) (v : View Mail) → IsViewAt m new v → (m ≡ n) ⊎ (m ≡ n → ⊥) → IsEmpty v
    by m v at (inl same) = here v (subst (λ (k : ℕ). IsViewAt k new v) same at)
    by m v at (inr other) = all-at (λ (w : View Mail). IsEmpty w) (map view_of old) m v empty (others m v other at)

-- boxes have room, whatever is in them
pub room-kept : (t : Topology) (boxes : List (Mailbox Mail)) (old new : List (Pass Mail)) → ArePasses t boxes old → ArePasses t boxes new → HaveRoom old → HaveRoom new
room-kept t boxes old new before after room =
    all-by (λ (v : View Mail). 1 ≤ v.capacity) (map view_of new) (λ n v at.
    let p = get-mapped view_of new n v at in
    let short = get-short new n p.0 p.1 in
    let box = get-here boxes n (let a = after.many in omega arith) in
    let q = get-here old n (let a = after.many in let b = before.many in omega arith) in
    let mine = (after.each n box.0 p.0 box.1 p.1).pass.capacity in
    let theirs = (before.each n box.0 q.0 box.1 q.1).pass.capacity in
    let some = all-at (λ (w : View Mail). 1 ≤ w.capacity) (map view_of old) n (view_of q.0) room (get-map-at view_of old n q.0 q.1) in
    let same : v.capacity ≡ (view_of q.0).capacity = ap (λ (w : View Mail). w.capacity) (sym p.2) ∙ mine ∙ sym theirs in omega arith)

-- an empty box with room is not full
pub not-full : (v : View Mail) → IsEmpty v → 1 ≤ v.capacity → IsFull v → ⊥
not-full v empty room full =
    let e = empty (λ (s : Stamped Mail). 1) in
    let a = weigh-ones (sent_of v.books) in
    let b = weigh-ones (taken_of v.books) in absurd (omega arith)

pub full-never : (n : ℕ) (row : List (Pass Mail)) (boxes : List (Mailbox Mail)) (t : Topology) → n < length boxes → ArePasses t boxes row → AreEmpty row → HaveRoom row → ((v : View Mail) → IsViewAt n row v → IsFull v) → ⊥
full-never n row boxes t there passes empty room full =
    let l = length-map row view_of in
    let v = get-here (map view_of row) n (let a = passes.many in omega arith) in
    not-full v.0 (all-at (λ (w : View Mail). IsEmpty w) (map view_of row) n v.0 empty v.1) (all-at (λ (w : View Mail). 1 ≤ w.capacity) (map view_of row) n v.0 room v.1) (full v.0 v.1)

-- ---- what mail brings

swept-delivered : (t : Topology) (p : Parcel) (w : World) → StaysSwept w (delivered t p w)
swept-delivered t (ToTask n tuple) w = record {
  tasks = λ all. each-set (λ (side : TaskSide). side.outbox ≡ []) w.tasks n (gets_tuple tuple (task_at t n w)) all (each-at (λ (side : TaskSide). side.outbox ≡ []) w.tasks n (no_task t) all refl);
  ackers = λ all. all;
  orders = λ none. none;
}
swept-delivered t (ToAcker n m) w = record {
  tasks = λ all. all;
  ackers = λ all. each-set (λ (side : AckerSide). side.outbox ≡ []) w.ackers n (gets_message m (acker_at n w)) all (each-at (λ (side : AckerSide). side.outbox ≡ []) w.ackers n no_acker all refl);
  orders = λ none. none;
}

pub swept-none : (w : World) → StaysSwept w w
swept-none w = record { tasks = λ all. all; ackers = λ all. all; orders = λ none. none }

pub swept-then : (a b c : World) → StaysSwept a b → StaysSwept b c → StaysSwept a c
swept-then a b c one two = record { tasks = λ all. two.tasks (one.tasks all); ackers = λ all. two.ackers (one.ackers all); orders = λ none. two.orders (one.orders none) }

swept-all : (t : Topology) (ps : List Parcel) (w : World) → StaysSwept w (delivered_all t ps w)
swept-all t [] w = swept-none w
swept-all t (p ∷ ps) w = swept-then w (delivered t p w) (delivered_all t ps (delivered t p w)) (swept-delivered t p w) (swept-all t ps (delivered t p w))

pub brings-run : (t : Topology) (ps : List Parcel) (old new : World) → AllByRecursion (FitsParcel t) ps → IsOrderly t old → new ≡ delivered_all t ps old → Brings (mail.Run ps) old new
brings-run t ps old new fits orderly is =
    let r = received t ps old fits orderly in
    subst (Brings (mail.Run ps) old) (sym is) (record { arranged = r.arranged; waits = r.waits; inboxes = r.inboxes; swept = swept-all t ps old })

pub brings-verdict : (v : Verdict) (old new : World) → new ≡ record old { verdicts = old.verdicts ++ v ∷ [] } → Brings (mail.Verdict v) old new
brings-verdict v old new is =
    subst (Brings (mail.Verdict v) old) (sym is) (record {
      arranged = record { stands = refl; entries = refl; counts = refl; spout = refl; desk = refl; tick = refl; unheard = refl; shut = refl; fates = refl };
      waits = λ f. let a = weigh-append (λ (x : Verdict). f (of_verdict x)) old.verdicts (v ∷ []) in omega arith;
      inboxes = λ f. let a = weigh-append (λ (x : Verdict). f (of_verdict x)) old.verdicts (v ∷ []) in omega arith;
      swept = record { tasks = λ all. all; ackers = λ all. all; orders = λ none. none };
    })

pub fits-true : (t : Topology) (at : ℕ) (m : Mail) → IsTrueMail t at m → FitsMail t m
fits-true t at (mail.Run ps) is = each-weaker (IsTrueParcel t at) (FitsParcel t) (λ p both. both.0) ps is.each
fits-true t at (mail.Verdict v) is = tt

-- ---- outboxes that are given out

tasks-without : (f : Packet → ℕ) (a : ℕ) (sides : List TaskSide) → weigh_parcels f (parcels_out sides) + weigh_tasks f a (map without_parcels sides) ≡ weigh_tasks f a sides
tasks-without f a [] = refl
tasks-without f a (side ∷ sides) =
    let w = weigh-append (λ (p : Parcel). f (of_parcel p)) side.outbox (parcels_out sides) in let rest = tasks-without f (a + 1) sides in omega arith

ackers-without : (f : Packet → ℕ) (a : ℕ) (sides : List AckerSide) → weigh_verdicts (verdicts_out sides) f + weigh_ackers f a (map without_verdicts sides) ≡ weigh_ackers f a sides
ackers-without f a [] = refl
ackers-without f a (side ∷ sides) =
    let w = weigh-append (λ (v : Verdict). f (of_verdict v)) side.outbox (verdicts_out sides) in let rest = ackers-without f (a + 1) sides in omega arith

inbox-tasks-without : (f : Packet → ℕ) (a : ℕ) (sides : List TaskSide) → weigh_task_inboxes f a (map without_parcels sides) ≡ weigh_task_inboxes f a sides
inbox-tasks-without f a [] = refl
inbox-tasks-without f a (side ∷ sides) = let rest = inbox-tasks-without f (a + 1) sides in omega arith

inbox-ackers-without : (f : Packet → ℕ) (a : ℕ) (sides : List AckerSide) → weigh_acker_inboxes f a (map without_verdicts sides) ≡ weigh_acker_inboxes f a sides
inbox-ackers-without f a [] = refl
inbox-ackers-without f a (side ∷ sides) = let rest = inbox-ackers-without f (a + 1) sides in omega arith

stands-without : (sides : List TaskSide) → map stand_in (map without_parcels sides) ≡ map stand_in sides
stands-without [] = refl
stands-without (side ∷ sides) = ap (λ xs. side.stand ∷ xs) (stands-without sides)

entries-without : (sides : List AckerSide) → map entries_in (map without_verdicts sides) ≡ map entries_in sides
entries-without [] = refl
entries-without (side ∷ sides) = ap (λ xs. side.entries ∷ xs) (entries-without sides)

counts-without : (sides : List AckerSide) → map counted_in (map without_verdicts sides) ≡ map counted_in sides
counts-without [] = refl
counts-without (side ∷ sides) = ap (λ xs. side.counted ∷ xs) (counts-without sides)

pub none-without : (sides : List TaskSide) → AllByRecursion (λ (side : TaskSide). side.outbox ≡ []) (map without_parcels sides)
none-without [] = tt
none-without (side ∷ sides) = (refl, none-without sides)

pub none-told : (sides : List AckerSide) → AllByRecursion (λ (side : AckerSide). side.outbox ≡ []) (map without_verdicts sides)
none-told [] = tt
none-told (side ∷ sides) = (refl, none-told sides)

-- what tasks had to hand over fits
pub outs-fit : (t : Topology) (n : ℕ) (sides : List TaskSide) → AreTasksOrderly t n sides → AllByRecursion (FitsParcel t) (parcels_out sides)
outs-fit t n [] are = tt
outs-fit t n (side ∷ sides) are = each-append (FitsParcel t) side.outbox (parcels_out sides) are.0.outbox (outs-fit t (suc n) sides are.1)

-- what the coordinator ordered
pub gives-orders : (old new : World) (row : List (Pass Mail)) → new ≡ record old { orders = [] } → Carries old new row row nothing_left (weigh_all old.orders)
gives-orders old new row is =
    subst (λ (w : World). Carries old w row row nothing_left (weigh_all old.orders)) (sym is)
    (carries-gives old (record old { orders = [] }) row nothing_left (weigh_all old.orders)
    (record { stands = refl; entries = refl; counts = refl; spout = refl; desk = refl; tick = refl; unheard = refl; shut = refl; fates = refl })
    (λ f. omega arith) (λ f. refl))

-- what tasks had to hand over
pub gives-parcels : (old new : World) (row : List (Pass Mail)) → new ≡ record old { tasks = map without_parcels old.tasks } → Carries old new row row nothing_left (weigh_all (parcels_out old.tasks))
gives-parcels old new row is =
    subst (λ (w : World). Carries old w row row nothing_left (weigh_all (parcels_out old.tasks))) (sym is)
    (carries-gives old (record old { tasks = map without_parcels old.tasks }) row nothing_left (weigh_all (parcels_out old.tasks))
    (record {
      stands = stands-without old.tasks;
      entries = refl;
      counts = refl;
      spout = refl;
      desk = refl;
      tick = refl;
      unheard = refl;
      shut = refl;
      fates = refl;
    })
    (λ f. let a = tasks-without f 0 old.tasks in omega arith) (λ f. let a = inbox-tasks-without f 0 old.tasks in omega arith))

-- what ackers had
pub gives-verdicts : (old new : World) (row : List (Pass Mail)) → new ≡ record old { ackers = map without_verdicts old.ackers } → Carries old new row row nothing_left (weigh_verdicts (verdicts_out old.ackers))
gives-verdicts old new row is =
    subst (λ (w : World). Carries old w row row nothing_left (weigh_verdicts (verdicts_out old.ackers))) (sym is)
    (carries-gives old (record old { ackers = map without_verdicts old.ackers }) row nothing_left (weigh_verdicts (verdicts_out old.ackers))
    (record {
      stands = refl;
      entries = entries-without old.ackers;
      counts = counts-without old.ackers;
      spout = refl;
      desk = refl;
      tick = refl;
      unheard = refl;
      shut = refl;
      fates = refl;
    })
    (λ f. let a = ackers-without f 0 old.ackers in omega arith) (λ f. let a = inbox-ackers-without f 0 old.ackers in omega arith))

pub brings-run-mail : (t : Topology) (m : Mail) (ps : List Parcel) (old new : World) → m ≡ mail.Run ps → FitsMail t m → IsOrderly t old → new ≡ delivered_all t ps old → Brings m old new
brings-run-mail t m ps old new is fits orderly same = subst (λ (x : Mail). Brings x old new) (sym is) (brings-run t ps old new (subst (FitsMail t) is fits) orderly same)

pub brings-verdict-mail : (m : Mail) (v : Verdict) (old new : World) → m ≡ mail.Verdict v → new ≡ record old { verdicts = old.verdicts ++ v ∷ [] } → Brings m old new
brings-verdict-mail m v old new is same = subst (λ (x : Mail). Brings x old new) (sym is) (brings-verdict v old new same)

-- mail weighs something
pub mail-weighs : (t : Topology) (at : ℕ) (m : Mail) → IsTrueMail t at m → 1 ≤ weigh_mail (λ (p : Packet). 1) m
mail-weighs t at (mail.Run ps) is = let o = weigh-ones ps in let s = is.some in omega arith
mail-weighs t at (mail.Verdict v) is = omega arith

carries-same : (w : World) (row fin : List (Pass Mail)) (left : Waiting) → IsSameRow row fin → Carries w w row fin left left
carries-same w row fin left same = record {
  arranged = arranged-none w;
  waits = λ f. let s = same.sent f in let k = same.taken f in omega arith;
  through = λ f. let k = same.taken f in omega arith;
  more = λ f. let k = same.taken f in omega arith;
}

-- less is held
pub held-less : (t : Topology) (at : ℕ) (m : Mail) (row now : List (Pass Mail)) → IsTrueMail t at m → HoldsMore m now row → held_in now (λ (p : Packet). 1) < held_in row (λ (p : Packet). 1)
held-less t at m row now is holds = let w = mail-weighs t at m is in let h = holds (λ (p : Packet). 1) in omega arith

-- ---- a box that is emptied

module _ {I : Type 0} {g : Ghosts I} (t : Topology) (cut : Cut) (boxes : List (Mailbox Mail)) where
  -- so far
  pub record Gathering (n : ℕ) (old now : Engine I g) (was is : List (Pass Mail)) : Type 0 where
    pub ready : IsReady t cut now
    pub row : IsFitRow t boxes is
    pub still : IsStill old now
    pub others : KeepsOthers n was is
    pub swept : StaysSwept (shape old) (shape now)
    pub sources : sources now ≡ sources old
    pub carries : (left : Waiting) → Carries (shape old) (shape now) was is left left

  pub gathering-none : (n : ℕ) (e : Engine I g) (row : List (Pass Mail)) → IsReady t cut e → IsFitRow t boxes row → Gathering n e e row row
  gathering-none n e row ready fit = record {
    ready = ready;
    row = fit;
    still = record { coordinator = refl; fates = refl };
    others = others-none n row;
    swept = swept-none (shape e);
    sources = refl;
    carries = λ left. carries-none (shape e) row left;
  }

  pub gathering-more : (n : ℕ) (old mid new : Engine I g) (was is now : List (Pass Mail)) (m : Mail) → Gathering n old mid was is → HasTaken n m is now → HoldsMore m now is → IsFitRow t boxes now → IsReady t cut new → IsStill mid new
      → sources new ≡ sources mid → Brings m (shape mid) (shape new) → Gathering n old new was now
  gathering-more n old mid new was is now m so_far takes holds fit ready still sources brings = record {
    ready = ready;
    row = fit;
    still = record { coordinator = still.coordinator ∙ so_far.still.coordinator; fates = still.fates ∙ so_far.still.fates };
    others = others-then n was is now so_far.others (others-taken n m is now takes);
    swept = swept-then (shape old) (shape mid) (shape new) so_far.swept brings.swept;
    sources = sources ∙ so_far.sources;
    carries = λ left. carries-then (shape old) (shape mid) (shape new) was is now left left left (so_far.carries left) (carries-comes (shape mid) (shape new) is now left m n brings.arranged brings.waits brings.inboxes takes holds);
  }

  -- the box was found empty, which is no step of it
  pub gathering-end : (n : ℕ) (old now : Engine I g) (was is fin : List (Pass Mail)) → Gathering n old now was is → IsSameRow is fin → IsFitRow t boxes fin → Gathering n old now was fin
  gathering-end n old now was is fin so_far same fit = record {
    ready = so_far.ready;
    row = fit;
    still = so_far.still;
    others = others-then n was is fin so_far.others (others-same n is fin same);
    swept = so_far.swept;
    sources = so_far.sources;
    carries = λ left. carries-then (shape old) (shape now) (shape now) was is fin left left left (so_far.carries left) (carries-same (shape now) is fin left same);
  }

  pub engine-carries : (n : ℕ) (old now : Engine I g) (was is : List (Pass Mail)) (left : Waiting) → Gathering n old now was is → EngineCarries old now was is left left
  engine-carries n old now was is left so_far = record { still = so_far.still; sources = so_far.sources; carries = so_far.carries left }

  -- ---- all boxes

  -- the boxes below a number are emptied
  pub record GatheringAll (n : ℕ) (old now : Engine I g) (was is : List (Pass Mail)) : Type 0 where
    pub ready : IsReady t cut now
    pub row : IsFitRow t boxes is
    pub still : IsStill old now
    pub sources : sources now ≡ sources old
    pub carries : (left : Waiting) → Carries (shape old) (shape now) was is left left
    pub empty : (m : ℕ) → m < n → IsEmptyAt m is

  pub all-none : (e : Engine I g) (row : List (Pass Mail)) → IsReady t cut e → IsFitRow t boxes row → GatheringAll 0 e e row row
  all-none e row ready fit = record {
    ready = ready;
    row = fit;
    still = record { coordinator = refl; fates = refl };
    sources = refl;
    carries = λ left. carries-none (shape e) row left;
    empty = λ m below. absurd (omega arith);
  }

  pub all-more : (n : ℕ) (old mid new : Engine I g) (was is now : List (Pass Mail)) → GatheringAll n old mid was is → IsReady t cut new → IsFitRow t boxes now → IsStill mid new → KeepsOthers n is now → IsEmptyAt n now
      → ((left : Waiting) → EngineCarries mid new is now left left) → GatheringAll (n + 1) old new was now
  all-more n old mid new was is now so_far ready fit still others here carries = record {
    ready = ready;
    row = fit;
    still = record { coordinator = still.coordinator ∙ so_far.still.coordinator; fates = still.fates ∙ so_far.still.fates };
    sources = (carries nothing_left).sources ∙ so_far.sources;
    carries = λ left. carries-then (shape old) (shape mid) (shape new) was is now left left left (so_far.carries left) (carries left).carries;
    empty = λ m below. by m below (cases_eq m n);
  }
    where
      by : (m : ℕ) → m < n + 1 → (m ≡ n) ⊎ (m ≡ n → ⊥) → IsEmptyAt m now
      by m below (inl same) = subst (λ (k : ℕ). IsEmptyAt k now) (sym same) here
      by m below (inr other) = λ v at. so_far.empty m (below-other m below other) v (others m v other at)
        where
          below-other : (m : ℕ) → m < n + 1 → (m ≡ n → ⊥) → m < n
          below-other m below other = omega arith

  pub all-empty : (n : ℕ) (old now : Engine I g) (was is : List (Pass Mail)) → GatheringAll n old now was is → length boxes ≤ n → AreEmpty is
  all-empty n old now was is so_far all =
      all-by (λ (v : View Mail). IsEmpty v) (map view_of is) (λ m v at.
      let short = get-short (map view_of is) m v at in
      let l = length-map is view_of in
      let p = so_far.row.passes.many in so_far.empty m (omega arith) v at)

  pub all-carries : (n : ℕ) (old now : Engine I g) (was is : List (Pass Mail)) (left : Waiting) → GatheringAll n old now was is → EngineCarries old now was is left left
  all-carries n old now was is left so_far = record { still = so_far.still; sources = so_far.sources; carries = so_far.carries left }

  -- ---- mail that is carried through empty boxes

  -- so much of it was, and the rest is left
  pub record Carrying (old now : Engine I g) (was is : List (Pass Mail)) (left now_left : Waiting) : Type 0 where
    pub ready : IsReady t cut now
    pub row : IsFitRow t boxes is
    pub still : IsStill old now
    pub sources : sources now ≡ sources old
    pub empty : AreEmpty is
    pub room : HaveRoom is
    pub swept : StaysSwept (shape old) (shape now)
    pub carries : Carries (shape old) (shape now) was is left now_left

  pub carrying-none : (e : Engine I g) (row : List (Pass Mail)) (left : Waiting) → IsReady t cut e → IsFitRow t boxes row → AreEmpty row → HaveRoom row → Carrying e e row row left left
  carrying-none e row left ready fit empty room = record {
    ready = ready;
    row = fit;
    still = record { coordinator = refl; fates = refl };
    sources = refl;
    empty = empty;
    room = room;
    swept = swept-none (shape e);
    carries = carries-none (shape e) row left;
  }

  pub carrying-then : (a b c : Engine I g) (x y z : List (Pass Mail)) (p q r : Waiting) → Carrying a b x y p q → Carrying b c y z q r → Carrying a c x z p r
  carrying-then a b c x y z p q r one two = record {
    ready = two.ready;
    row = two.row;
    still = record { coordinator = two.still.coordinator ∙ one.still.coordinator; fates = two.still.fates ∙ one.still.fates };
    sources = two.sources ∙ one.sources;
    empty = two.empty;
    room = two.room;
    swept = swept-then (shape a) (shape b) (shape c) one.swept two.swept;
    carries = carries-then (shape a) (shape b) (shape c) x y z p q r one.carries two.carries;
  }

  -- it was sent, and taken again
  pub carried : (n : ℕ) (old new : Engine I g) (row mid now : List (Pass Mail)) (left now_left : Waiting) (m : Mail) → IsFitRow t boxes row → AreEmpty row → HaveRoom row → HasSent n m row mid → HoldsMore m row mid
      → ((f : Packet → ℕ) → left f ≡ weigh_mail f m + now_left f) → IsReady t cut new → IsFitRow t boxes now → IsStill old new → IsEmptyAt n now → KeepsOthers n mid now → StaysSwept (shape old) (shape new)
      → ((left : Waiting) → EngineCarries old new mid now left left) → Carrying old new row now left now_left
  carried n old new row mid now left now_left m fit empty room sends holds less ready fit_now still here others swept carries = record {
    ready = ready;
    row = fit_now;
    still = still;
    sources = (carries now_left).sources;
    empty = empty-again n row now empty (others-then n row mid now (others-sent n m row mid sends) others) here;
    room = room-kept t boxes row now fit.passes fit_now.passes room;
    swept = swept;
    carries = carries-then (shape old) (shape old) (shape new) row mid now left now_left now_left (carries-sends (shape old) row mid left now_left m n sends holds less) (carries now_left).carries;
  }

  pub engine-carried : (old now : Engine I g) (was is : List (Pass Mail)) (left now_left : Waiting) → Carrying old now was is left now_left → EngineCarries old now was is left now_left
  engine-carried old now was is left now_left c = record { still = c.still; sources = c.sources; carries = c.carries }

  -- one more piece of mail was carried, and the rest is left
  pub carrying-more : (old mid new : Engine I g) (was is now : List (Pass Mail)) (left mid_left now_left : Waiting) (m : Mail) → Carrying old mid was is left mid_left → IsReady t (cut_in mid) new → IsFitRow t boxes now → IsStill mid new → AreEmpty now → HaveRoom now
      → StaysSwept (shape mid) (shape new) → ((p q : Waiting) → ((f : Packet → ℕ) → p f ≡ weigh_mail f m + q f) → EngineCarries mid new is now p q) → ((f : Packet → ℕ) → mid_left f ≡ weigh_mail f m + now_left f) → Carrying old new was now left now_left
  carrying-more old mid new was is now left mid_left now_left m so_far ready fit still empty room swept carries less =
      carrying-then old mid new was is now left mid_left now_left so_far (record {
        ready = subst (λ (k : Cut). IsReady t k new) so_far.ready.seated.of_cut ready;
        row = fit;
        still = still;
        sources = (carries mid_left now_left less).sources;
        empty = empty;
        room = room;
        swept = swept;
        carries = (carries mid_left now_left less).carries;
      })

-- a verdict in front, and a run in front
pub verdict-less : (left rest : List Verdict) (v : Verdict) → left ≡ v ∷ rest → (f : Packet → ℕ) → weigh_verdicts left f ≡ weigh_mail f (mail.Verdict v) + weigh_verdicts rest f
verdict-less left rest v is f = ap (λ (vs : List Verdict). weigh_verdicts vs f) is

pub run-less : (left popped run rest : List Parcel) (p : Parcel) → left ≡ p ∷ popped → p ∷ popped ≡ run ++ rest → (f : Packet → ℕ) → weigh_all left f ≡ weigh_mail f (mail.Run run) + weigh_all rest f
run-less left popped run rest p is front f = ap (λ (ps : List Parcel). weigh_all ps f) (is ∙ front) ∙ weigh-append (λ (x : Parcel). f (of_parcel x)) run rest

module _ {I : Type 0} {g : Ghosts I} where
  pub engine-then : (a b c : Engine I g) (x y z : List (Pass Mail)) (p q r : Waiting) → EngineCarries a b x y p q → EngineCarries b c y z q r → EngineCarries a c x z p r
  engine-then a b c x y z p q r one two = record {
    still = record { coordinator = two.still.coordinator ∙ one.still.coordinator; fates = two.still.fates ∙ one.still.fates };
    sources = two.sources ∙ one.sources;
    carries = carries-then (shape a) (shape b) (shape c) x y z p q r one.carries two.carries;
  }

  -- what is given out is left, and then carried
  pub given-and-carried : (a b c : Engine I g) (x y : List (Pass Mail)) (p q : Waiting) → IsStill a b → sources b ≡ sources a → Carries (shape a) (shape b) x x nothing_left p → ((f : Packet → ℕ) → q f ≡ p f) → EngineCarries b c x y q nothing_left → EngineCarries a c x y nothing_left nothing_left
  given-and-carried a b c x y p q still same gives alike carries =
      engine-then a b c x x y nothing_left p nothing_left (record { still = still; sources = same; carries = gives })
      (record {
        still = carries.still;
        sources = carries.sources;
        carries = record {
          arranged = carries.carries.arranged;
          waits = λ f. let w = carries.carries.waits f in let e = alike f in omega arith;
          through = carries.carries.through;
          more = carries.carries.more;
        };
      })
