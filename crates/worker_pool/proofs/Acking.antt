-- What a step of an acker comes to.
use Rattle.std.proofs.Common.{◌≡◌, ◌<◌, ◌≤◌, ◌⊎◌, inl, inr, ℕ, zero, suc, Bool, true, false, length, ◌+◌, ◌-◌, List, [], ◌∷◌, ◌++◌, Option, None, Some, sym, refl, ap, set, subst, ◌∙◌, arith}
use Rattle.std.specs.Prelude.{max, min, fold, replicate, slice_get}
use Rattle.std.specs.List.{AllByRecursion}
use Rattle.std.specs.Option.{option_to_list}
use Rattle.event_worlds.specs.acker_core.Entries.{after, list_with, message, met, tick, told_of}
use Rattle.event_worlds.specs.acker_core.Traces.{ticks_in}
use Rattle.event_worlds.specs.acker_core.declared.verdict.Verdict.{Verdict}
use Rattle.box_rows.specs.declared.mail.Mail.{Mail}
use Rattle.box_rows.specs.declared.mail.Mail.TheVariants as mails
use Rattle.box_rows.specs.Mails.{IsTrueMail, IsTrueParcel, last_box}
use Rattle.box_rows.specs.Rows.{CouldBeEmpty, CouldBeFull, HasTaken, IsSameRow, sent_in, taken_in}
use Rattle.event_worlds.specs.counted_items.Weights.{weigh}
use Rattle.event_worlds.proofs.counted_items.Weighing.{weigh-append, weigh-push}
use Rattle.pulse_board.specs.Rule.{bit}
use Rattle.event_worlds.specs.rotating_ledger.Held.{Held, Rotation, dropped, rotated}
use Rattle.event_worlds.specs.storm_values.declared.value.Root.{Root}
use Rattle.task_queues.specs.declared.pass.Pass.{Pass}
use Rattle.event_worlds.specs.topology_plan.Topology.{Topology, tasks_in_all}
use Rattle.event_worlds.specs.tree_model.Lists.{root_of}
use Rattle.event_worlds.specs.tree_model.declared.messages.AckMsg.{AckMsg}
use Rattle.event_worlds.specs.tree_model.declared.messages.Parcel.{Parcel}
use Rattle.event_worlds.specs.tree_model.declared.messages.Parcel.TheVariants.{ToAcker}
use Rattle.event_worlds.specs.tuple_account.Histories.{Packet, Told, of_parcel, of_verdict, nothing, weigh_parcels}
use Rattle.event_worlds.specs.tuple_account.Parts.{meeting, telling_by, weigh_entries}
use Rattle.event_worlds.proofs.tuple_account.Entering.{met-weight, rotated-weight, telling_told}
use Rattle.event_worlds.proofs.tuple_account.Moving.{well-nothing}
use Rattle.worker_pool.specs.declared.acker.AckerDesk.{AckerDesk}
use Rattle.worker_pool.specs.Ackers.{acker_left, AckerDid, AckerSays, Ages, CountsFew, CountsUp, HandsVerdict, HasYoung, IsAcker, IsAckerHeld, ReceivesNotes, weigh_messages, weigh_verdict}
use Rattle.worker_pool.specs.Says.{HasDone, each_one}
use Rattle.worker_pool.specs.Crews.{AreUpTo, CountsUpAt, HasCountedAt, KeepsCountedAt}
use Rattle.worker_pool.proofs.Lists.{is_one, zip-from}
use Rattle.worker_pool.proofs.Saying.{below-more, same-none, set-here, done-left, done-same, done-sent, done-taken, empty-same, full-same, true-false, weigh-ones}
use Rattle.world_progress.specs.Young.{AreYoung}
use Rattle.world_progress.proofs.Seats.{young-met, young-more, young-rotated}

-- ---- rotations

abbrev lists_in : (Root → AckMsg → ℕ) → List (Root × List AckMsg) → ℕ
lists_in g gone = weigh (λ (x : Root × List AckMsg). weigh (g x.0) x.1) gone

-- so many rotations drop these
gone_by : ℕ → ℕ → List (Held (List AckMsg)) → List (Root × List AckMsg)
gone_by buckets zero entries = []
gone_by buckets (suc n) entries = dropped buckets entries ++ gone_by buckets n (rotated buckets entries)

gone-weight : (g : Root → AckMsg → ℕ) (buckets n : ℕ) (entries : List (Held (List AckMsg)))
    → weigh_entries g (fold (after buckets) entries (replicate n tick)) + lists_in g (gone_by buckets n entries) ≡ weigh_entries g entries
unfolding gone_by
gone-weight g buckets zero entries =
    let e : weigh_entries g (fold (after buckets) entries (replicate zero tick)) ≡ weigh_entries g entries = refl in
    let z : lists_in g (gone_by buckets zero entries) ≡ 0 = refl in omega arith
gone-weight g buckets (suc n) entries =
    let rest = gone-weight g buckets n (rotated buckets entries) in
    let r = rotated-weight g buckets entries in
    let a = weigh-append (λ (x : Root × List AckMsg). weigh (g x.0) x.1) (dropped buckets entries) (gone_by buckets n (rotated buckets entries)) in
    let e : weigh_entries g (fold (after buckets) entries (replicate (suc n) tick)) ≡ weigh_entries g (fold (after buckets) (rotated buckets entries) (replicate n tick)) = refl in
    let z : lists_in g (gone_by buckets (suc n) entries) ≡ lists_in g (dropped buckets entries ++ gone_by buckets n (rotated buckets entries)) = refl in omega arith

ticks-only : (n : ℕ) → ticks_in (replicate n tick) ≡ n
ticks-only zero = refl
ticks-only (suc n) = let rest = ticks-only n in omega arith

-- one more at the end
ticks-more : (buckets n : ℕ) (entries : List (Held (List AckMsg))) → rotated buckets (fold (after buckets) entries (replicate n tick)) ≡ fold (after buckets) entries (replicate (suc n) tick)
ticks-more buckets zero entries = refl
ticks-more buckets (suc n) entries = ticks-more buckets n (rotated buckets entries)

-- and drop nothing before an entry is too old
young-ticks : (t : Topology) (n a k b : ℕ) → a + k ≤ b → b < t.buckets → (es : List (Held (List AckMsg))) → AreYoung t n a es
    → AreYoung t n b (fold (after t.buckets) es (replicate k tick)) × (gone_by t.buckets k es ≡ [])
unfolding gone_by
young-ticks t n a zero b few short es young = (young-more t n a b (omega arith) es young, refl)
young-ticks t n a (suc k) b few short es young =
    let now = young-rotated t n a (a + 1) (omega arith) (omega arith) es young in
    let rest = young-ticks t n (a + 1) k b (omega arith) short (rotated t.buckets es) now.0 in
    (rest.0, (λ i. now.1 i ++ rest.1 i))

-- so many rotations were made, and all else stayed
pub record Rotates (old new : AckerDesk) (times : ℕ) : Type 0 where
  pub entries : new.acker.held ≡ fold (after old.acker.buckets) old.acker.held (replicate times tick)
  pub buckets : new.acker.buckets ≡ old.acker.buckets
  pub number : new.number ≡ old.number
  pub inbox : new.inbox ≡ old.inbox
  pub outbox : new.outbox ≡ old.outbox
  pub counted : new.counted ≡ old.counted

pub rotates-none : (d : AckerDesk) → Rotates d d 0
rotates-none d = record { entries = refl; buckets = refl; number = refl; inbox = refl; outbox = refl; counted = refl }

pub rotates-more : (old mid new : AckerDesk) (n m : ℕ) → Rotates old mid n → m ≡ suc n → new.acker ≡ record mid.acker { held = rotated mid.acker.buckets mid.acker.held } → new.number ≡ mid.number → new.inbox ≡ mid.inbox → new.outbox ≡ mid.outbox → new.counted ≡ mid.counted
    → Rotates old new m
rotates-more old mid new n m so_far is acker number inbox outbox counted = record {
  entries =
      ap (λ (r : Rotation (List AckMsg)). r.held) acker
      ∙ (λ i. rotated (so_far.buckets i) (so_far.entries i))
      ∙ ticks-more old.acker.buckets n old.acker.held
      ∙ ap (λ (k : ℕ). fold (after old.acker.buckets) old.acker.held (replicate k tick)) (sym is);
  buckets = ap (λ (r : Rotation (List AckMsg)). r.buckets) acker ∙ so_far.buckets;
  number = number ∙ so_far.number;
  inbox = inbox ∙ so_far.inbox;
  outbox = outbox ∙ so_far.outbox;
  counted = counted ∙ so_far.counted;
}

pub counts_up : (old mid new : AckerDesk) (times aged count buckets : ℕ) → Rotates old mid times → old.acker.buckets ≡ buckets → times ≡ min (aged - old.counted) buckets → count ≡ max old.counted aged → new ≡ record mid { counted = count } → CountsUp old new
counts_up old mid new times aged count buckets all own many on is = record {
  times = times;
  enough = let c = ap (λ (d : AckerDesk). d.counted) is in omega arith;
  most = let c = ap (λ (d : AckerDesk). d.counted) is in omega arith;
  on = let c = ap (λ (d : AckerDesk). d.counted) is in omega arith;
  entries = ap (λ (d : AckerDesk). d.acker.held) is ∙ all.entries;
  buckets = ap (λ (d : AckerDesk). d.acker.buckets) is ∙ all.buckets;
  number = ap (λ (d : AckerDesk). d.number) is ∙ all.number;
  inbox = ap (λ (d : AckerDesk). d.inbox) is ∙ all.inbox;
  outbox = ap (λ (d : AckerDesk). d.outbox) is ∙ all.outbox;
}

-- ---- steps

told-weight : (f : Packet → ℕ) (root : Root) (list : List AckMsg) (o : Option Verdict)
    → weigh (λ (x : Told). f (of_verdict x.verdict)) (telling_by root list o) ≡ weigh (λ (v : Verdict). f (of_verdict v)) (option_to_list o)
told-weight f root list None = refl
told-weight f root list (Some verdict) = refl

still_ages : (old new : AckerDesk) → new.number ≡ old.number → new.acker ≡ old.acker → new.counted ≡ old.counted → Ages old new
still_ages old new number acker counted = record {
  number = number;
  buckets = ap (λ (r : Rotation (List AckMsg)). r.buckets) acker;
  trace = [];
  entries = ap (λ (r : Rotation (List AckMsg)). r.held) acker;
  rotates = let c : new.counted ≡ old.counted = counted in omega arith;
  on = let c : new.counted ≡ old.counted = counted in omega arith;
}

-- the entries are as young
young-same : (t : Topology) (old new : AckerDesk) → new.number ≡ old.number → new.acker ≡ old.acker → new.counted ≡ old.counted → HasYoung t old → HasYoung t new
young-same t old new number acker counted young =
    subst (λ (n : ℕ). AreYoung t n new.counted new.acker.held) (sym number)
    (subst (λ (k : ℕ). AreYoung t old.number k new.acker.held) (sym counted)
    (subst (λ (x : Rotation (List AckMsg)). AreYoung t old.number old.counted x.held) (sym acker) young))

pub still_acker : (t : Topology) (old new : AckerDesk) → CountsUp old new → IsAcker t old → IsAcker t new
still_acker t old new counts is = record { there = subst (λ (n : ℕ). n < t.ackers) (sym counts.number) is.there; buckets = counts.buckets ∙ is.buckets }

module _ (t : Topology) where
  -- the entries stayed, and mail moved
  moved : (old new : AckerDesk) (was is : List (Pass Mail)) → new.number ≡ old.number → new.acker ≡ old.acker → new.counted ≡ old.counted
      → ((f : Packet → ℕ) → (weigh_messages f new.number new.inbox.items + weigh_verdict f new.outbox) + (sent_in is f + taken_in was f) ≡ (weigh_messages f old.number old.inbox.items + weigh_verdict f old.outbox) + (sent_in was f + taken_in is f))
      → ((f : Packet → ℕ) → weigh_messages f new.number new.inbox.items + taken_in was f ≡ weigh_messages f old.number old.inbox.items + taken_in is f)
      → AckerDid t old new was is
  moved old new was is number acker counted packets inbox = record {
    ages = still_ages old new number acker counted;
    meets = record {
      history = nothing;
      works = λ custom. record {
        packets = λ f. let p = packets f in omega arith;
        notes = λ g. let e = ap (λ (x : Rotation (List AckMsg)). weigh_entries g x.held) acker in omega arith;
        draws = λ s j. omega arith;
        well = well-nothing t custom;
      };
      inside = record { starts = refl; begun = refl; heard = refl };
      none_run = refl;
    };
    uses = λ f. let p = inbox f in omega arith;
    lasts = λ routed young few. (young-same t old new number acker counted young, refl);
  }

  pub verdict_handed : (v : Verdict) (old mid new : AckerDesk) (was is : List (Pass Mail)) → old.outbox ≡ Some v → mid.number ≡ old.number → mid.acker ≡ old.acker → mid.inbox ≡ old.inbox → mid.counted ≡ old.counted → (did : Bool) → HandsVerdict t v did mid new was is → AckerDid t old new was is
  verdict_handed v old mid new was is front number acker inbox counted did hands =
      moved old new was is (hands.number ∙ number) (hands.acker ∙ acker) (hands.counted ∙ counted)
      (λ f.
      let p = hands.packets f in
      let k = hands.taken f in
      let o = ap (weigh_verdict f) front in
      let i = ap (λ b. weigh_messages f new.number b.items) (hands.inbox ∙ inbox) in
      let n = ap (λ (n : ℕ). weigh_messages f n old.inbox.items) (hands.number ∙ number) in omega arith)
      (λ f.
      let k = hands.taken f in
      let i = ap (λ b. weigh_messages f new.number b.items) (hands.inbox ∙ inbox) in
      let n = ap (λ (n : ℕ). weigh_messages f n old.inbox.items) (hands.number ∙ number) in omega arith)

  pub notes_received : (run : List Parcel) (old new : AckerDesk) (was is : List (Pass Mail)) (n : ℕ) → ReceivesNotes run old new → HasTaken n (mails.Run run) was is → AckerDid t old new was is
  notes_received run old new was is place receives taken =
      moved old new was is receives.number receives.acker receives.counted
      (λ f.
      let i = receives.inbox f in
      let o = ap (weigh_verdict f) receives.outbox in
      let n = ap (λ (n : ℕ). weigh_messages f n new.inbox.items) receives.number in
      let s = taken.sent f in
      let k = taken.taken f in omega arith)
      (λ f.
      let i = receives.inbox f in
      let n = ap (λ (n : ℕ). weigh_messages f n new.inbox.items) receives.number in
      let k = taken.taken f in omega arith)

  pub acker_rests : (d : AckerDesk) (was is : List (Pass Mail)) → IsSameRow was is → AckerDid t d d was is
  acker_rests d was is same =
      moved d d was is refl refl refl (λ f. let s = same.sent f in let k = same.taken f in omega arith) (λ f. let k = same.taken f in omega arith)

  -- an empty inbox, or an empty outbox, was looked into
  pub acker_after : (old mid new : AckerDesk) (was is : List (Pass Mail)) → mid.number ≡ old.number → mid.acker ≡ old.acker → mid.outbox ≡ old.outbox → mid.counted ≡ old.counted → mid.inbox.items ≡ old.inbox.items → AckerDid t mid new was is → AckerDid t old new was is
  acker_after old mid new was is number acker outbox counted inbox did = record {
    ages = record {
      number = did.ages.number ∙ number;
      buckets = did.ages.buckets ∙ ap (λ (r : Rotation (List AckMsg)). r.buckets) acker;
      trace = did.ages.trace;
      entries = did.ages.entries ∙ ap (λ (r : Rotation (List AckMsg)). fold (after r.buckets) r.held did.ages.trace) acker;
      rotates =
          subst (λ (n : ℕ). min old.acker.buckets (new.counted - n) ≤ ticks_in did.ages.trace) counted
          (subst (λ (r : Rotation (List AckMsg)). min r.buckets (new.counted - mid.counted) ≤ ticks_in did.ages.trace) acker did.ages.rotates);
      on = subst (λ (n : ℕ). n ≤ new.counted) counted did.ages.on;
    };
    meets = record {
      history = did.meets.history;
      works = λ custom. let w = did.meets.works custom in record {
        packets = λ f.
            let p = w.packets f in
            let o = ap (weigh_verdict f) outbox in
            let i = ap (weigh_messages f old.number) inbox in
            let m = ap (λ (n : ℕ). weigh_messages f n mid.inbox.items) number in omega arith;
        notes = λ g. let p = w.notes g in let e = ap (λ (x : Rotation (List AckMsg)). weigh_entries g x.held) acker in omega arith;
        draws = w.draws;
        well = w.well;
      };
      inside = did.meets.inside;
      none_run = did.meets.none_run;
    };
    uses = λ f.
        let p = did.uses f in
        let i = ap (weigh_messages f old.number) inbox in
        let m = ap (λ (n : ℕ). weigh_messages f n mid.inbox.items) number in omega arith;
    lasts = λ routed young few. did.lasts routed (young-same t old mid number acker counted young) few;
  }

  -- entries that are not too old were rotated
  young-counted : (old new : AckerDesk) (counts : CountsUp old new) → old.acker.buckets ≡ t.buckets → HasYoung t old → CountsFew t new → HasYoung t new × (gone_by old.acker.buckets counts.times old.acker.held ≡ [])
  young-counted old new counts own young few =
      let held = young-ticks t old.number old.counted counts.times new.counted (let m = counts.most in let o = counts.on in omega arith) few old.acker.held young in
      let same = subst (λ (b : ℕ). AreYoung t old.number new.counted (fold (after b) old.acker.held (replicate counts.times tick)) × (gone_by b counts.times old.acker.held ≡ [])) (sym own) held in
      (subst (λ (n : ℕ). AreYoung t n new.counted new.acker.held) (sym counts.number) (subst (AreYoung t old.number new.counted) (sym counts.entries) same.0), same.1)

  pub acker_counted : (old new : AckerDesk) (was : List (Pass Mail)) → CountsUp old new → IsAcker t old → AckerDid t old new was was
  acker_counted old new was counts is = record {
    ages = record {
      number = counts.number;
      buckets = counts.buckets;
      trace = replicate counts.times tick;
      entries = counts.entries;
      rotates = let e = counts.enough in let n = ticks-only counts.times in omega arith;
      on = counts.on;
    };
    meets = record {
      history = record nothing { dropped = gone_by old.acker.buckets counts.times old.acker.held };
      works = λ custom. record {
        packets = λ f.
            let i = ap (λ b. weigh_messages f new.number b.items) counts.inbox in
            let n = ap (λ (n : ℕ). weigh_messages f n old.inbox.items) counts.number in
            let o = ap (weigh_verdict f) counts.outbox in omega arith;
        notes = λ g.
            let e = ap (weigh_entries g) counts.entries in
            let w = gone-weight g old.acker.buckets counts.times old.acker.held in omega arith;
        draws = λ s j. omega arith;
        well = record { begun = tt; runs = tt; told = tt };
      };
      inside = record { starts = refl; begun = refl; heard = refl };
      none_run = refl;
    };
    uses = λ f.
        let i = ap (λ b. weigh_messages f new.number b.items) counts.inbox in
        let n = ap (λ (n : ℕ). weigh_messages f n old.inbox.items) counts.number in omega arith;
    lasts = λ routed young few. young-counted old new counts is.buckets young few;
  }

  pub message_met : (m : AckMsg) (old new : AckerDesk) (rest : List AckMsg) (was : List (Pass Mail)) → old.outbox ≡ None → old.inbox.items ≡ m ∷ rest → new.inbox.items ≡ rest → new.outbox ≡ told_of m old.acker.held
      → new.acker ≡ record old.acker { held = met m old.acker.held } → new.number ≡ old.number → new.counted ≡ old.counted → AckerDid t old new was was
  message_met m old new rest was none front left out acker number counted = record {
    ages = record {
      number = number;
      buckets = ap (λ (x : Rotation (List AckMsg)). x.buckets) acker;
      trace = message m ∷ [];
      entries = ap (λ (x : Rotation (List AckMsg)). x.held) acker;
      rotates = let c : new.counted ≡ old.counted = counted in omega arith;
      on = let c : new.counted ≡ old.counted = counted in omega arith;
    };
    meets = record {
      history = meeting old.number m old.acker.held;
      works = λ custom. record {
        packets = λ f.
            let o = ap (weigh_verdict f) none in
            let n = ap (weigh_verdict f) out in
            let w = told-weight f (root_of m) (list_with m old.acker.held) (told_of m old.acker.held) in
            let a = ap (weigh_messages f old.number) front in
            let b = ap (weigh_messages f new.number) left in
            let k = ap (λ (n : ℕ). weigh_messages f n rest) number in omega arith;
        notes = λ g.
            let a = ap (λ (x : Rotation (List AckMsg)). weigh_entries g x.held) acker in
            let w = met-weight g m old.acker.held in omega arith;
        draws = λ s j. omega arith;
        well = record { begun = tt; runs = tt; told = telling_told m old.acker.held };
      };
      inside = record { starts = refl; begun = refl; heard = refl };
      none_run = refl;
    };
    uses = λ f.
        let a = ap (weigh_messages f old.number) front in
        let b = ap (weigh_messages f new.number) left in
        let k = ap (λ (n : ℕ). weigh_messages f n rest) number in omega arith;
    lasts = λ routed young few. (
      young-same t (record old { acker = record old.acker { held = met m old.acker.held } }) new number acker counted (young-met t old.number old.counted m old.acker.held routed.0 young),
      refl,
    );
  }

-- ---- runs of messages

pub record Noting (t : Topology) (run : List Parcel) (old new : AckerDesk) (rest : List Parcel) : Type 0 where
  pub left : AllByRecursion (IsTrueParcel t (tasks_in_all t + old.number)) rest
  pub weights : (f : Packet → ℕ) → weigh_messages f old.number new.inbox.items + weigh_parcels f rest ≡ weigh_messages f old.number old.inbox.items + weigh_parcels f run
  pub acker : new.acker ≡ old.acker
  pub number : new.number ≡ old.number
  pub outbox : new.outbox ≡ old.outbox
  pub counted : new.counted ≡ old.counted

module _ (t : Topology) (run : List Parcel) where
  pub noting-none : (d : AckerDesk) → AllByRecursion (IsTrueParcel t (tasks_in_all t + d.number)) run → Noting t run d d run
  noting-none d left = record { left = left; weights = λ f. refl; acker = refl; number = refl; outbox = refl; counted = refl }

  pub noting-more : (old mid new : AckerDesk) (p : Parcel) (m : AckMsg) (rest : List Parcel) → Noting t run old mid (p ∷ rest) → p ≡ ToAcker mid.number m → new.inbox.items ≡ mid.inbox.items ++ m ∷ []
      → new.acker ≡ mid.acker → new.number ≡ mid.number → new.outbox ≡ mid.outbox → new.counted ≡ mid.counted → Noting t run old new rest
  noting-more old mid new p m rest so_far is inbox acker number outbox counted = record {
    left = so_far.left.1;
    weights = λ f.
        let w = so_far.weights f in
        let e = ap (weigh_messages f old.number) inbox ∙ weigh-push (λ (x : AckMsg). f (of_parcel (ToAcker old.number x))) mid.inbox.items m in
        let q = ap (λ (x : Parcel). f (of_parcel x)) (is ∙ ap (λ (n : ℕ). ToAcker n m) so_far.number) in omega arith;
    acker = acker ∙ so_far.acker;
    number = number ∙ so_far.number;
    outbox = outbox ∙ so_far.outbox;
    counted = counted ∙ so_far.counted;
  }

  pub noted : (old new : AckerDesk) → Noting t run old new [] → ReceivesNotes run old new
  noted old new all = record {
    inbox = λ f. let w = all.weights f in omega arith;
    acker = all.acker;
    number = all.number;
    outbox = all.outbox;
    counted = all.counted;
  }

-- ---- what an acker says

module _ (t : Topology) where
  -- who is held up stays so
  pub acker_stays_held : (d : AckerDesk) (was is : List (Pass Mail)) → IsSameRow was is → IsAckerHeld t d was → IsAckerHeld t d is
  acker_stays_held d was is same held = record { is = by held.is }
    where
      by : ((v : Verdict) × (d.outbox ≡ Some v) × CouldBeFull (last_box t) was) ⊎ ((d.outbox ≡ None) × (d.inbox.items ≡ []) × CouldBeEmpty (tasks_in_all t + d.number) was)
          → ((v : Verdict) × (d.outbox ≡ Some v) × CouldBeFull (last_box t) is) ⊎ ((d.outbox ≡ None) × (d.inbox.items ≡ []) × CouldBeEmpty (tasks_in_all t + d.number) is)
      by (inl (v, there, full)) = inl (v, there, full-same (last_box t) was is same full)
      by (inr (a, b, empty)) = inr (a, b, empty-same (tasks_in_all t + d.number) was is same empty)

  -- a verdict was handed over, or came back
  pub says_verdict : (v : Verdict) (did : Bool) (old mid new : AckerDesk) (was is : List (Pass Mail)) → mid.outbox ≡ None → mid.inbox ≡ old.inbox → HandsVerdict t v did mid new was is → AckerSays t did old new was is
  says_verdict v true old mid new was is none inbox hands = record {
    done = subst (λ (n : ℕ). HasDone 1 (length old.inbox.items) was n is) (sym (ap (λ b. length b.items) (hands.inbox ∙ inbox)))
        (done-sent (length old.inbox.items) 1 was is (omega arith)
        (let p = hands.packets each_one in let o = ap (weigh_verdict each_one) (hands.went refl) in omega arith) (hands.taken each_one));
    held = λ no. true-false no;
  }
  says_verdict v false old mid new was is none inbox hands =
      let b = hands.back refl in record {
        done = subst (λ (n : ℕ). HasDone 0 (length old.inbox.items) was n is) (sym (ap (λ b. length b.items) (hands.inbox ∙ inbox))) (done-same (length old.inbox.items) was is b.1);
        held = λ no. (b.1, record { is = inl (v, b.0, full-same (last_box t) was is b.1 b.2) });
      }

  -- messages came
  pub says_notes : (run : List Parcel) (old new : AckerDesk) (was is : List (Pass Mail)) (place : ℕ) → 1 ≤ length run → ReceivesNotes run old new → HasTaken place (mails.Run run) was is → AckerSays t true old new was is
  says_notes run old new was is place some receives taken = record {
    done = done-taken (length old.inbox.items) (length new.inbox.items) place run was is some
        (let w = receives.inbox each_one in
        let a : weigh_messages each_one old.number new.inbox.items ≡ length new.inbox.items = weigh-ones new.inbox.items in
        let b : weigh_messages each_one old.number old.inbox.items ≡ length old.inbox.items = weigh-ones old.inbox.items in
        let c : weigh_parcels each_one run ≡ length run = weigh-ones run in omega arith) taken;
    held = λ no. true-false no;
  }

  pub notes_mail : {place : ℕ} (mail : Mail) (run : List Parcel) (old new : AckerDesk) (was is : List (Pass Mail)) → mail ≡ mails.Run run → HasTaken place mail was is → ReceivesNotes run old new → AckerDid t old new was is
  notes_mail {place} mail run old new was is is_run took receives = notes_received t run old new was is place receives (subst (λ (m : Mail). HasTaken place m was is) is_run took)

  pub says_notes_mail : {place : ℕ} (mail : Mail) (run : List Parcel) (old new : AckerDesk) (was is : List (Pass Mail)) → mail ≡ mails.Run run → IsTrueMail t place mail → HasTaken place mail was is → ReceivesNotes run old new → AckerSays t true old new was is
  says_notes_mail {place} mail run old new was is is_run fits took receives =
      let fit : IsTrueMail t place (mails.Run run) = subst (IsTrueMail t place) is_run fits in
      says_notes run old new was is place fit.some receives (subst (λ (m : Mail). HasTaken place m was is) is_run took)

  -- none was there
  pub says_no_notes : (d : AckerDesk) (was is : List (Pass Mail)) → d.inbox.items ≡ [] → d.outbox ≡ None → IsSameRow was is → CouldBeEmpty (tasks_in_all t + d.number) was → AckerSays t false d d was is
  says_no_notes d was is no_message no_verdict same empty = record {
    done = done-same (length d.inbox.items) was is same;
    held = λ no. (same, record { is = inr (no_verdict, no_message, empty-same (tasks_in_all t + d.number) was is same empty) });
  }

  pub says_none_there : {place : ℕ} (d : AckerDesk) (was is : List (Pass Mail)) → d.inbox.items ≡ [] → d.outbox ≡ None → place ≡ tasks_in_all t + d.number → IsSameRow was is → CouldBeEmpty place was → AckerSays t false d d was is
  says_none_there {place} d was is no_message no_verdict there same empty = says_no_notes d was is no_message no_verdict same (subst (λ (n : ℕ). CouldBeEmpty n was) there empty)

  -- a message was met
  pub says_met : (old new : AckerDesk) (was : List (Pass Mail)) → length old.inbox.items ≡ suc (length new.inbox.items) → AckerSays t true old new was was
  says_met old new was less = record { done = done-left (length old.inbox.items) (length new.inbox.items) was less; held = λ no. true-false no }

  -- an empty inbox, or an empty outbox, was looked into
  pub acker_says_after : (did : Bool) (old mid new : AckerDesk) (was is : List (Pass Mail)) → mid.inbox.items ≡ old.inbox.items → AckerSays t did mid new was is → AckerSays t did old new was is
  acker_says_after did old mid new was is inbox says = record { done = subst (λ xs. HasDone (bit did) (length xs) was (length new.inbox.items) is) inbox says.done; held = says.held }

-- ---- up to which tick entries have aged

pub counts_done : (old new : AckerDesk) (was : List (Pass Mail)) → CountsUp old new → HasDone 0 (acker_left old) was (acker_left new) was
counts_done old new was counts = subst (λ (n : ℕ). HasDone 0 (length old.inbox.items) was n was) (sym (ap (λ b. length b.items) counts.inbox)) (done-same (length old.inbox.items) was was (same-none was))

pub counted-here : (ackers : List AckerDesk) (n aged : ℕ) (a b : AckerDesk) → slice_get ackers n ≡ Some a → b.counted ≡ aged → HasCountedAt n aged (set ackers n b)
counted-here ackers n aged a b at is = λ d there. subst (λ (x : AckerDesk). x.counted ≡ aged) (is_one b d (sym (set-here ackers n a b at) ∙ there)) is

pub counted-kept : (ackers : List AckerDesk) (n : ℕ) (a b : AckerDesk) → slice_get ackers n ≡ Some a → b.counted ≡ a.counted → KeepsCountedAt n ackers (set ackers n b)
counted-kept ackers n a b at same = λ aged has. counted-here ackers n aged a b at (same ∙ has a at)

pub counts-here : (ackers : List AckerDesk) (n aged : ℕ) (a b : AckerDesk) → slice_get ackers n ≡ Some a → b.counted ≡ max a.counted aged → CountsUpAt n aged ackers (set ackers n b)
counts-here ackers n aged a b at is = λ d there. counted-here ackers n (max d.counted aged) a b at (is ∙ ap (λ (x : AckerDesk). max x.counted aged) (is_one a d (sym at ∙ there)))

-- the ackers before a place aged up to a tick, and the others stayed
pub record CountedTo (aged n : ℕ) (old new : List AckerDesk) : Type 0 where
  pub low : (m : ℕ) → m < n → CountsUpAt m aged old new
  pub rest : (m : ℕ) → n ≤ m → slice_get new m ≡ slice_get old m

pub counted-none : (aged : ℕ) (ackers : List AckerDesk) → CountedTo aged 0 ackers ackers
counted-none aged ackers = record { low = λ m below. absurd (omega arith); rest = λ m above. refl }

pub counted-more : (aged n : ℕ) (first old new : List AckerDesk) → CountedTo aged n first old → ((m : ℕ) → (m ≡ n → ⊥) → slice_get new m ≡ slice_get old m) → CountsUpAt n aged old new → CountedTo aged (n + 1) first new
counted-more aged n first old new so_far others here = record {
  low = below-more (λ m. CountsUpAt m aged first new) n
      (λ m below d was e at. so_far.low m below d was e (sym (others m (λ same. absurd (omega arith))) ∙ at))
      (λ d was. here d (so_far.rest n (omega arith) ∙ was));
  rest = λ m above. others m (λ same. absurd (omega arith)) ∙ so_far.rest m (omega arith);
}

pub counted-all : (aged n : ℕ) (old new : List AckerDesk) → length old ≤ n → length new ≡ length old → CountedTo aged n old new → AreUpTo aged old new
counted-all aged n old new all many to = zip-from (λ (a b : AckerDesk). b.counted ≡ max a.counted aged) old new many (λ m below a b at there. to.low m (omega arith) a at b there)
