-- What stands in inboxes and entries, at seats and at desks, and how much was done.
use Rattle.std.proofs.Common.{◌≡◌, ◌<◌, ◌≤◌, ◌^◌, ℕ, zero, suc, ◌+◌, ◌-◌, Bool, true, false, List, [], ◌∷◌, length, map, get_or, refl, sym, ap, subst, ◌∙◌, arith}
use Rattle.std.specs.Prelude.{min}
use Rattle.std.specs.List.{AllByRecursion}
use Rattle.event_worlds.specs.bolt_ops.RowOp.{Custom}
use Rattle.box_rows.specs.declared.mail.Mail.{Mail}
use Rattle.box_rows.specs.Rows.{taken_in}
use Rattle.event_worlds.specs.counted_items.Weights.{weigh}
use Rattle.event_worlds.proofs.counted_items.Each.{each-map, each-weaker}
use Rattle.event_worlds.proofs.counted_items.Weighing.{weigh-map, weigh-ones}
use Rattle.event_engine.specs.declared.acker.AckerSeat.{AckerSeat}
use Rattle.event_engine.specs.declared.task.TaskSeat.{TaskSeat}
use Rattle.event_engine.specs.Seats.{acker_side, task_side}
use Rattle.event_worlds.specs.Worlds.{AckerSide, TaskSide, World, no_acker}
use Rattle.pulse_board.specs.Books.{Tells}
use Rattle.pulse_board.specs.declared.rule.Book.{Book}
use Rattle.event_worlds.specs.rotating_ledger.Held.{Held}
use Rattle.event_worlds.specs.storm_ids.declared.ids.Ids.{Ghosts}
use Rattle.task_queues.specs.declared.pass.Pass.{Pass}
use Rattle.event_worlds.specs.topology_plan.Topology.{Topology}
use Rattle.event_worlds.specs.topology_plan.Valid.{IsValid}
use Rattle.event_worlds.specs.tree_model.declared.messages.AckMsg.{AckMsg}
use Rattle.event_worlds.specs.tree_model.declared.messages.Parcel.TheVariants.{ToAcker}
use Rattle.event_worlds.specs.tree_model.Lists.{root_of}
use Rattle.event_worlds.specs.tuple_account.Histories.{History, Packet, Receipt, acker_of, joined, of_parcel, taken}
use Rattle.event_worlds.specs.tuple_account.Moves.{Reached, Station}
use Rattle.event_worlds.specs.tuple_account.Sound.{IsRouted}
use Rattle.event_worlds.proofs.tuple_account.Moving.{taken-joined}
use Rattle.event_worlds.proofs.tuple_account.Routing as routing
use Rattle.worker_pool.specs.Ackers.{AreRouted, HasYoung, acker_inbox, weigh_messages}
use Rattle.worker_pool.specs.declared.acker.AckerDesk.{AckerDesk}
use Rattle.worker_pool.specs.declared.desk.TaskDesk.{TaskDesk}
use Rattle.worker_pool.specs.Desks.{desk_inbox, weigh_inbox}
use Rattle.world_progress.specs.Doing.{done, in_boxes, messages_in, taken_from, tuples_in}
use Rattle.world_progress.specs.Lasting.{IsSeat}
use Rattle.world_progress.specs.Young.{AreYoung}
use Rattle.world_progress.proofs.Doing as doing
use Rattle.worker_stretches.specs.Places.{IsAckerAt, IsTaskAt, ZipFrom}
use Rattle.box_account.specs.Inboxes.{weigh_acker_inboxes, weigh_inboxes, weigh_task_inboxes}
use Rattle.worker_stretches.specs.Standing.{IsInTime}
use Rattle.worker_stretches.specs.Teams.{HaveCounted, TakesMore}

-- ---- inboxes

pub tasks-left : {I : Type 0} {g : Ghosts I} (f : Packet → ℕ) (k : ℕ) (seats : List (TaskSeat I g)) (desks : List (TaskDesk I g)) → ZipFrom IsTaskAt k seats desks
    → weigh_task_inboxes f k (map task_side seats) ≡ weigh (λ (d : TaskDesk I g). desk_inbox d f) desks
tasks-left f k [] [] zip = refl
tasks-left f k [] (d ∷ desks) zip = absurd zip
tasks-left f k (s ∷ seats) [] zip = absurd zip
tasks-left f k (s ∷ seats) (d ∷ desks) zip =
    let a : weigh_inbox f d.number d.inbox.items ≡ weigh_inbox f k s.inbox.items = (λ i. weigh_inbox f (zip.0.number i) (zip.0.inbox i).items) in
    let n = ap (λ (m : ℕ). weigh_task_inboxes f m (map task_side seats)) (let e : k + 1 ≡ suc k = omega arith in e) in
    let rest = tasks-left f (suc k) seats desks zip.1 in omega arith

pub ackers-left : (f : Packet → ℕ) (k : ℕ) (seats : List AckerSeat) (desks : List AckerDesk) → ZipFrom IsAckerAt k seats desks
    → weigh_acker_inboxes f k (map acker_side seats) ≡ weigh (λ (d : AckerDesk). acker_inbox d f) desks
ackers-left f k [] [] zip = refl
ackers-left f k [] (d ∷ desks) zip = absurd zip
ackers-left f k (s ∷ seats) [] zip = absurd zip
ackers-left f k (s ∷ seats) (d ∷ desks) zip =
    let a : weigh_messages f d.number d.inbox.items ≡ weigh_messages f k s.inbox.items = (λ i. weigh_messages f (zip.0.number i) (zip.0.inbox i).items) in
    let n = ap (λ (m : ℕ). weigh_acker_inboxes f m (map acker_side seats)) (let e : k + 1 ≡ suc k = omega arith in e) in
    let rest = ackers-left f (suc k) seats desks zip.1 in omega arith

-- ---- entries

abbrev packet_of : Receipt → Packet
packet_of r = of_parcel (ToAcker r.acker r.message)

module _ (t : Topology) where
  young-as : (n n' most most' : ℕ) (es es' : List (Held (List AckMsg))) → n ≡ n' → most ≡ most' → es ≡ es' → AreYoung t n most es → AreYoung t n' most' es'
  young-as n n' most most' es es' number count entries young =
      subst (λ (xs : List (Held (List AckMsg))). AreYoung t n' most' xs) entries (subst (λ (m : ℕ). AreYoung t n' m es) count (subst (λ (m : ℕ). AreYoung t m most es) number young))

  module _ (tick : ℕ) where
    abbrev pub SeatsFrom : ℕ → List AckerSeat → Type 0
    SeatsFrom k seats = (n : ℕ) → IsSeat t (k + n) tick (get_or (map acker_side seats) n no_acker)

    pub seats-young : (k : ℕ) (seats : List AckerSeat) (desks : List AckerDesk) → ZipFrom IsAckerAt k seats desks → SeatsFrom k seats → AllByRecursion (HasYoung t) desks × HaveCounted tick desks
    seats-young k [] [] zip all = (tt, tt)
    seats-young k [] (d ∷ desks) zip all = absurd zip
    seats-young k (s ∷ seats) [] zip all = absurd zip
    seats-young k (s ∷ seats) (d ∷ desks) zip all =
        let here = all 0 in
        let at = zip.0 in
        let rest = seats-young (suc k) seats desks zip.1 (λ n. subst (λ (m : ℕ). IsSeat t m tick (get_or (map acker_side seats) n no_acker)) (let e : k + suc n ≡ suc k + n = omega arith in e) (all (suc n))) in
        let number : k + 0 ≡ d.number = let e = at.number in omega arith in
        let entries : s.acker.held ≡ d.acker.held = (λ i. (sym at.acker i).held) in (
          (young-as (k + 0) d.number s.counted d.counted s.acker.held d.acker.held number (sym at.counted) entries here.young, rest.0),
          (let e = at.counted in let c = here.counted in omega arith, rest.1),
        )

    pub young-seats : (k : ℕ) (seats : List AckerSeat) (desks : List AckerDesk) → ZipFrom IsAckerAt k seats desks → AllByRecursion (HasYoung t) desks → HaveCounted tick desks → SeatsFrom k seats
    young-seats k [] [] zip young few n = record { counted = omega arith; young = record { each = tt; once = λ root. omega arith } }
    young-seats k [] (d ∷ desks) zip young few n = absurd zip
    young-seats k (s ∷ seats) [] zip young few n = absurd zip
    young-seats k (s ∷ seats) (d ∷ desks) zip young few zero =
        let at = zip.0 in
        let number : d.number ≡ k + 0 = let e = at.number in omega arith in
        let entries : d.acker.held ≡ s.acker.held = (λ i. (at.acker i).held) in record {
          counted = let e = at.counted in let c = few.0 in omega arith;
          young = young-as d.number (k + 0) d.counted s.counted d.acker.held s.acker.held number at.counted entries young.0;
        }
    young-seats k (s ∷ seats) (d ∷ desks) zip young few (suc n) =
        subst (λ (m : ℕ). IsSeat t m tick (get_or (map acker_side seats) n no_acker)) (let e : suc k + n ≡ k + suc n = omega arith in e) (young-seats (suc k) seats desks zip.1 young.1 few.1 n)

  -- each message that was met went to the acker of its root
  pub met-routed : (custom : Custom) (h more : History) (b : Station) → Reached t custom (joined h more) b → AreRouted t more
  met-routed custom h more b reached =
      each-weaker (λ (r : Receipt). IsRouted t (packet_of r)) (λ (r : Receipt). acker_of t (root_of r.message) ≡ r.acker) (λ r is. sym is) more.met
      (each-map (IsRouted t) packet_of more.met
      (routing.routed t custom (joined h more) b reached (map packet_of more.met) (λ f. let j = taken-joined f h more in let m = weigh-map f packet_of more.met in omega arith)))

-- ---- what was done

one-task : (k : ℕ) (sides : List TaskSide) → weigh_task_inboxes (λ p. 1) k sides ≡ tuples_in sides
one-task k [] = refl
one-task k (side ∷ sides) = let a = weigh-ones side.inbox in let rest = one-task (k + 1) sides in omega arith

one-message : (k : ℕ) (sides : List AckerSide) → weigh_acker_inboxes (λ p. 1) k sides ≡ messages_in sides
one-message k [] = refl
one-message k (side ∷ sides) = let a = weigh-ones side.inbox in let rest = one-message (k + 1) sides in omega arith

-- all that was taken from boxes was executed, met or heard, or stands in an inbox
abbrev pub WentThrough : List (Pass Mail) → History → World → Type 0
WentThrough row h w = (f : Packet → ℕ) → taken_in row f ≡ taken f h + weigh_inboxes f w

-- so it is as much as was done with it, and stands there
through-one : (row : List (Pass Mail)) (h : History) (w : World) → WentThrough row h w → taken_from h + in_boxes w ≡ taken_in row (λ p. 1)
through-one row h w through =
    let e = through (λ p. 1) in
    let a = weigh-ones h.runs in let b = weigh-ones h.met in let c = weigh-ones h.heard in
    let d = one-task 0 w.tasks in let k = one-message 0 w.ackers in let v = weigh-ones w.verdicts in omega arith

pub no-less-done : (row now : List (Pass Mail)) (h more : History) (was is : World) → WentThrough row h was → WentThrough now (joined h more) is → TakesMore row now → is.desk.committed ≡ was.desk.committed
    → done h was + 0 ≤ done (joined h more) is
no-less-done row now h more was is through then takes same =
    let a = through-one row h was through in
    let b = through-one now (joined h more) is then in
    let m = takes (λ p. 1) in
    let x = doing.taken-joined h more in
    let y = doing.begun-joined h more in omega arith

-- ---- ticks

pub in_time-after : (tick now : ℕ) (old new : Book) → now ≡ tick → new.drawn ≡ old.drawn → IsInTime tick old → IsInTime now new
in_time-after tick now old new same drawn in_time = same ∙ in_time ∙ ap (λ (xs : List ℕ). min (length xs) (2 ^ 64 - 1)) (sym drawn)

-- where fewer ticks passed than there are buckets, a seat that tells all saw no more
pub saw-few : (t : Topology) (tick : ℕ) (old new : Book) → IsValid t → IsInTime tick old → new.drawn ≡ old.drawn → Tells new → tick < t.buckets → (new.wrapped ≡ false) × (new.seen ≤ tick)
saw-few t tick old new valid in_time drawn tells short = by new.wrapped refl
  where
    same : length new.drawn ≡ length old.drawn
    same = ap length drawn

    by : (b : Bool) → new.wrapped ≡ b → (new.wrapped ≡ false) × (new.seen ≤ tick)
    by true is = absurd (let m = tells.marked is in let v = valid.buckets.1 in let s = same in omega arith)
    by false is = (is, let l = tells.seen is in let v = valid.buckets.1 in let s = same in omega arith)
