-- What the steps of an outbox weigh.
use Rattle.std.proofs.Common.{◌≡◌, ◌<◌, inl, inr, ℕ, zero, suc, Bool, true, false, ◌+◌, List, [], ◌∷◌, ◌++◌, length, None, Some, set, sym, refl, ap, subst, ◌∙◌, arith}
use Rattle.std.specs.Prelude.{slice_get}
use Rattle.std.specs.List.{AllByRecursion}
use Rattle.box_rows.specs.Mails.{IsRunFor, IsTrueParcel, last_box, most_in_run}
use Rattle.box_rows.specs.declared.mail.Mail.{Mail}
use Rattle.box_rows.specs.declared.mail.Mail.TheVariants as mails
use Rattle.box_rows.specs.Rows.{CouldBeFull, HasSent, IsSameRow, sent_in, taken_in}
use Rattle.box_rows.proofs.Weighing.{weigh-at}
use Rattle.event_worlds.proofs.counted_items.Each.{each-append}
use Rattle.event_worlds.proofs.counted_items.Weighing.{weigh-append}
use Rattle.pulse_board.specs.Rule.{bit}
use Rattle.task_queues.specs.declared.pass.Pass.{Pass}
use Rattle.event_worlds.specs.topology_plan.Topology.{Topology}
use Rattle.event_worlds.specs.tree_model.declared.messages.Parcel.{Parcel}
use Rattle.event_worlds.specs.tree_model.declared.messages.Parcel.TheVariants.{ToAcker, ToTask}
use Rattle.event_worlds.specs.tuple_account.Histories.{Packet, of_parcel, weigh_parcels}
use Rattle.worker_pool.specs.declared.outbox.Run.{Run}
use Rattle.worker_pool.specs.Outboxes.{AddsAll, HandsOver, HasRoom, IsOutbox, weigh_outbox}
use Rattle.worker_pool.specs.Says.{HasDone, each_one}
use Rattle.worker_pool.proofs.Saying.{done-same, done-sent, same-none, weigh-ones}

pub each-get : {X : Type 0} (P : X → Type 0) (xs : List X) (n : ℕ) (x : X) → AllByRecursion P xs → slice_get xs n ≡ Some x → P x
each-get P [] n x all at = absurd (let e : None ≡ Some x = at in cc)
each-get P (y ∷ ys) zero x all at = let e : y ≡ x = let some : Some y ≡ Some x = at in cc in subst P e all.0
each-get P (y ∷ ys) (suc n) x all at = each-get P ys n x all.1 at

pub each-put : {X : Type 0} (P : X → Type 0) (xs : List X) (n : ℕ) (y : X) → AllByRecursion P xs → P y → AllByRecursion P (set xs n y)
each-put P [] n y all here = tt
each-put P (x ∷ xs) zero y all here = (here, all.1)
each-put P (x ∷ xs) (suc n) y all here = (all.0, each-put P xs n y all.1 here)

pub get-below : {X : Type 0} (xs : List X) (n : ℕ) (x : X) → slice_get xs n ≡ Some x → n < length xs
get-below [] n x at = absurd (let e : None ≡ Some x = at in cc)
get-below (y ∷ ys) zero x at = omega arith
get-below (y ∷ ys) (suc n) x at = let rest = get-below ys n x at in omega arith

-- a run is for a box that is there
pub run_there : (t : Topology) (at : ℕ) (parcels : List Parcel) → IsRunFor t at parcels → at < last_box t + 1
run_there t at [] is = absurd (omega (arith, is.some))
run_there t at (ToTask n tuple ∷ parcels) is = let b = is.each.0.1 in let f = is.each.0.0.0 in omega arith
run_there t at (ToAcker n m ∷ parcels) is = let b = is.each.0.1 in let f = is.each.0.0 in omega arith

parcels-push : (f : Packet → ℕ) (parcels : List Parcel) (p : Parcel) → weigh_parcels f (parcels ++ p ∷ []) ≡ weigh_parcels f parcels + f (of_parcel p)
parcels-push f parcels p = let a = weigh-append (λ (q : Parcel). f (of_parcel q)) parcels (p ∷ []) in omega arith

len-push : (parcels : List Parcel) (p : Parcel) → length (parcels ++ p ∷ []) ≡ length parcels + 1
len-push [] p = refl
len-push (q ∷ parcels) p = let rest = len-push parcels p in omega arith

-- a run with one more parcel
pub run_more : (t : Topology) (at : ℕ) (parcels : List Parcel) (p : Parcel) → IsRunFor t at parcels → length parcels < most_in_run → IsTrueParcel t at p → IsRunFor t at (parcels ++ p ∷ [])
run_more t at parcels p is room true_p = record {
  some = let l = len-push parcels p in omega arith;
  few = let l = len-push parcels p in omega arith;
  each = each-append (IsTrueParcel t at) parcels (p ∷ []) is.each (true_p, tt);
}

pub run_new : (t : Topology) (at : ℕ) (p : Parcel) → IsTrueParcel t at p → IsRunFor t at (p ∷ [])
run_new t at p is = record { some = omega arith; few = omega arith; each = (is, tt) }

-- a parcel was put into a run
pub put_adds : (runs : List Run) (n : ℕ) (old new : Run) (p : Parcel) → slice_get runs n ≡ Some old → new.parcels ≡ old.parcels ++ p ∷ [] → AddsAll (p ∷ []) runs (set runs n new)
put_adds runs n old new p at is = record {
  packets = λ f.
      let w = weigh-at (λ (r : Run). weigh_parcels f r.parcels) runs n old new at in
      let e = ap (weigh_parcels f) is ∙ parcels-push f old.parcels p in omega arith;
}

pub put_fits : (t : Topology) (runs : List Run) (at n : ℕ) (old new : Run) (p : Parcel) → IsOutbox t runs → HasRoom at n runs → slice_get runs n ≡ Some old → new.at ≡ old.at → new.parcels ≡ old.parcels ++ p ∷ [] → IsTrueParcel t at p
    → IsOutbox t (set runs n new)
put_fits t runs at n old new p all room there same is true_p =
    let e : room.run ≡ old = let s : Some room.run ≡ Some old = sym room.there ∙ there in cc in
    let for_it : old.at ≡ at = sym (ap (λ (r : Run). r.at) e) ∙ room.for_it in
    let few : length old.parcels < most_in_run = subst (λ (r : Run). length r.parcels < most_in_run) e room.room in
    let was : IsRunFor t old.at old.parcels = each-get (λ (r : Run). IsRunFor t r.at r.parcels) runs n old all there in
    let now : IsRunFor t at (old.parcels ++ p ∷ []) = run_more t at old.parcels p (subst (λ (a : ℕ). IsRunFor t a old.parcels) for_it was) few true_p in
    each-put (λ (r : Run). IsRunFor t r.at r.parcels) runs n new all
    (subst (λ (a : ℕ). IsRunFor t a new.parcels) (sym (same ∙ for_it)) (subst (IsRunFor t at) (sym is) now))

-- a run more at the end
pub begin_adds : (runs : List Run) (new : Run) (p : Parcel) → new.parcels ≡ p ∷ [] → AddsAll (p ∷ []) runs (runs ++ new ∷ [])
begin_adds runs new p is = record {
  packets = λ f. let a = weigh-append (λ (r : Run). weigh_parcels f r.parcels) runs (new ∷ []) in let e = ap (weigh_parcels f) is in omega arith;
}

pub begin_fits : (t : Topology) (runs : List Run) (new : Run) (p : Parcel) → IsOutbox t runs → new.parcels ≡ p ∷ [] → IsTrueParcel t new.at p → IsOutbox t (runs ++ new ∷ [])
begin_fits t runs new p all is true_p = each-append (λ (r : Run). IsRunFor t r.at r.parcels) runs (new ∷ []) all (subst (IsRunFor t new.at) (sym is) (run_new t new.at p true_p), tt)

-- ---- parcels one after another

-- so many of them were added, and the rest is left
pub record Added (all : List Parcel) (old new : List Run) (rest : List Parcel) : Type 0 where
  pub packets : (f : Packet → ℕ) → weigh_outbox f new + weigh_parcels f rest ≡ weigh_outbox f old + weigh_parcels f all

pub added-none : (all : List Parcel) (old : List Run) → Added all old old all
added-none all old = record { packets = λ f. refl }

pub added-more : (all : List Parcel) (old mid new : List Run) (p : Parcel) (rest : List Parcel) → Added all old mid (p ∷ rest) → AddsAll (p ∷ []) mid new → Added all old new rest
added-more all old mid new p rest so_far one = record { packets = λ f. let s = so_far.packets f in let o = one.packets f in omega arith }

pub added-all : (all : List Parcel) (old new : List Run) → Added all old new [] → AddsAll all old new
added-all all old new a = record { packets = λ f. let s = a.packets f in omega arith }

-- ---- hand-overs

run_is : (a b : List Parcel) → mails.Run a ≡ mails.Run b → a ≡ b
run_is a b is = cc

true-false : {A : Type 0} → true ≡ false → A
true-false is = absurd cc

false-true : {A : Type 0} → false ≡ true → A
false-true is = absurd cc

pub hands_sent : (t : Topology) (run : Run) (rest : List Run) (was is : List (Pass Mail)) → IsRunFor t run.at run.parcels → HasSent run.at (mails.Run run.parcels) was is → HandsOver true (run ∷ rest) rest was is
hands_sent t run rest was is for_it sent = record {
  sent = λ yes. record { run = run; front = refl; some = for_it.some; sent = sent.sent; taken = sent.taken };
  stays = λ no. true-false no;
  held = λ no. true-false no;
}

pub hands_back : (run : Run) (parcels : List Parcel) (rest new : List Run) (was is : List (Pass Mail)) → new ≡ record { at = run.at; parcels = parcels } ∷ rest → mails.Run parcels ≡ mails.Run run.parcels → IsSameRow was is → CouldBeFull run.at was
    → HandsOver false (run ∷ rest) new was is
hands_back run parcels rest new was is front same_run same could = record {
  sent = λ yes. false-true yes;
  stays = λ no. (front ∙ (λ i. record { at = run.at; parcels = run_is parcels run.parcels same_run i } ∷ rest), same);
  held = λ no. inr could;
}

pub hands_none : (row : List (Pass Mail)) → HandsOver false [] [] row row
hands_none row = record { sent = λ yes. false-true yes; stays = λ no. (refl, same-none row); held = λ no. inl refl }

-- what an outbox lost was sent
pub hands_packets : (did : Bool) (old new : List Run) (was is : List (Pass Mail)) → HandsOver did old new was is → (f : Packet → ℕ) → (weigh_outbox f new + sent_in is f ≡ weigh_outbox f old + sent_in was f) × (taken_in is f ≡ taken_in was f)
hands_packets true old new was is hands f =
    let s = hands.sent refl in
    let o = ap (weigh_outbox f) s.front in
    let k = s.sent f in ((omega arith), s.taken f)
hands_packets false old new was is hands f =
    let s = hands.stays refl in
    let o = ap (weigh_outbox f) s.0 in
    let k = s.1.sent f in ((omega arith), s.1.taken f)

pub hands_done : (left : ℕ) (did : Bool) (old new : List Run) (was is : List (Pass Mail)) → HandsOver did old new was is → HasDone (bit did) left was left is
hands_done left true old new was is hands =
    let s = hands.sent refl in done-sent left (weigh_parcels each_one s.run.parcels) was is (let w : weigh_parcels each_one s.run.parcels ≡ length s.run.parcels = weigh-ones s.run.parcels in let some = s.some in omega arith) (s.sent each_one) (s.taken each_one)
hands_done left false old new was is hands = done-same left was is (hands.stays refl).1
