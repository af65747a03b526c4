-- What desks do adds up.
use Rattle.std.proofs.Common.{◌≡◌, ◌<◌, ◌≤◌, ℕ, zero, suc, ◌+◌, ◌-◌, ◌==◌, Bool, true, false, cond, List, [], ◌∷◌, ◌++◌, length, map, None, Some, set, sym, refl, ap, subst, ◌∙◌, length-append, eq-eqb, eqb-true, arith}
use Rattle.std.specs.Prelude.{fold, min, slice_get}
use Rattle.std.specs.List.{AllByRecursion, AllZip, range_with_len}
use Rattle.event_worlds.specs.acker_core.Entries.{Met, after, message, tick}
use Rattle.event_worlds.specs.acker_core.Traces.{ticks_in}
use Rattle.std.proofs.lemmas.List.{length-set}
use Rattle.event_worlds.specs.bolt_ops.RowOp.{Custom}
use Rattle.event_worlds.proofs.output_collector.Sending.{Draws-none, Draws-then}
use Rattle.event_worlds.proofs.counted_items.Each.{each-back, each-front}
use Rattle.box_rows.proofs.Weighing.{weigh-at}
use Rattle.box_rows.specs.declared.mail.Mail.{Mail}
use Rattle.box_rows.specs.Rows.{sent_in, taken_in}
use Rattle.worker_pool.specs.declared.desk.TaskDesk.{TaskDesk}
use Rattle.worker_pool.specs.Desks.{DeskDid, desk_inbox, desk_station, given_at, source_at}
use Rattle.worker_pool.specs.Works.{IsInside, Uses, Works, ended}
use Rattle.worker_pool.specs.declared.acker.AckerDesk.{AckerDesk}
use Rattle.worker_pool.specs.Ackers.{AckerDid, Ages, CountsFew, HasYoung, Lasts, acker_inbox, acker_station}
use Rattle.worker_pool.specs.Crews.{AckersDid, AllLast, AreGiven, AreNext, CrewDid, CrewWorked, Gave, ackers_inbox, ackers_station, counted_on, crew_left, crew_station, spans_from, sum_from}
use Rattle.worker_pool.proofs.Outboxing.{each-get, each-put, get-below}
use Rattle.worker_pool.proofs.Saying.{set-here}
use Rattle.worker_pool.proofs.Lists.{is_in, was_in, words-split, zip-before, zip-same, zip-set, zip-then}
use Rattle.event_worlds.specs.storm_ids.declared.ids.Ids.{Ghosts}
use Rattle.task_queues.specs.declared.pass.Pass.{Pass}
use Rattle.event_worlds.specs.topology_plan.Topology.{Topology}
use Rattle.event_worlds.specs.tree_model.Lists.{root_of}
use Rattle.event_worlds.specs.tuple_account.Histories.{Execution, History, Opening, Packet, Receipt, acker_of, joined, nothing}
use Rattle.event_worlds.specs.tuple_account.Places.{HasWords, spans}
use Rattle.event_worlds.specs.tuple_account.Moves.{Station}
use Rattle.event_worlds.specs.tuple_account.Parts.{weigh_entries}
use Rattle.event_worlds.proofs.tuple_account.Moving.{drawn-both, moves-then, taken-joined, well-nothing}

both-none : {X : Type 0} (xs ys : List X) → xs ≡ [] → ys ≡ [] → xs ++ ys ≡ []
both-none xs ys a b = (λ i. a i ++ b i)

pub inside-both : (h k : History) → IsInside h → IsInside k → IsInside (joined h k)
inside-both h k a b = record { starts = both-none h.starts k.starts a.starts b.starts; begun = both-none h.begun k.begun a.begun b.begun; heard = both-none h.heard k.heard a.heard b.heard }

shift : (p q a b x u y v : ℕ) → p ≡ q → x ≡ u → y ≡ v → a + x ≡ b + y → (p + a) + u ≡ (q + b) + v
shift p q a b x u y v e f h is = omega arith

drew_more : (old new x y d : ℕ) → new + x ≡ old + y → x + d ≡ y → old + d ≡ new
drew_more old new x y d is more = omega arith

nothing_more : (c l : ℕ) → l ≡ 0 → c ≡ c + l
nothing_more c l none = omega arith

not_here : (k n : ℕ) → k ≡ k + suc n → ⊥
not_here k n is = omega arith

step_over_back : (k n m : ℕ) → m ≡ k + suc n → m ≡ suc k + n
step_over_back k n m is = omega arith

not_past : (k m : ℕ) → suc k ≤ m → m ≡ k + zero → ⊥
not_past k m above is = omega arith

module _ {X : Type 0} where
  from_same : (p q : ℕ → X → ℕ) (k : ℕ) (xs : List X) → ((m : ℕ) (x : X) → k ≤ m → q m x ≡ p m x) → sum_from q k xs ≡ sum_from p k xs
  from_same p q k [] same = refl
  from_same p q k (x ∷ xs) same =
      let e = same k x (omega arith) in
      let rest = from_same p q (suc k) xs (λ m y above. same m y (omega arith)) in omega arith

  from_set : (p q : ℕ → X → ℕ) (k n : ℕ) (xs : List X) (a b : X) → slice_get xs n ≡ Some a → ((m : ℕ) (x : X) → (m ≡ k + n → ⊥) → q m x ≡ p m x)
      → sum_from q k (set xs n b) + p (k + n) a ≡ sum_from p k xs + q (k + n) b
  from_set p q k n [] a b at same = absurd (let e : None ≡ Some a = at in cc)
  from_set p q k zero (x ∷ xs) a b at same =
      let e : x ≡ a = let some : Some x ≡ Some a = at in cc in
      let i : p k x ≡ p (k + zero) a = ap (p k) e ∙ ap (λ (m : ℕ). p m a) (let z : k ≡ k + zero = omega arith in z) in
      let j : q k b ≡ q (k + zero) b = ap (λ (m : ℕ). q m b) (let z : k ≡ k + zero = omega arith in z) in
      let rest = from_same p q (suc k) xs (λ m y above. same m y (not_past k m above)) in omega arith
  from_set p q k (suc n) (x ∷ xs) a b at same =
      let over : suc k + n ≡ k + suc n = omega arith in
      shift (q k x) (p k x) (sum_from q (suc k) (set xs n b)) (sum_from p (suc k) xs) (p (suc k + n) a) (p (k + suc n) a) (q (suc k + n) b) (q (k + suc n) b)
      (same k x (not_here k n)) (ap (λ (m : ℕ). p m a) over) (ap (λ (m : ℕ). q m b) over)
      (from_set p q (suc k) n xs a b at (λ m y other. same m y (λ is. other (step_over_back k n m is))))

  set_at : (p q : ℕ → X → ℕ) (n : ℕ) (xs : List X) (a b : X) → slice_get xs n ≡ Some a → ((m : ℕ) (x : X) → (m ≡ n → ⊥) → q m x ≡ p m x)
      → sum_from q 0 (set xs n b) + p n a ≡ sum_from p 0 xs + q n b
  set_at p q n xs a b at same =
      let z : 0 + n ≡ n = omega arith in
      subst (λ (m : ℕ). sum_from q 0 (set xs n b) + p m a ≡ sum_from p 0 xs + q m b) z
      (from_set p q 0 n xs a b at (λ m x other. same m x (λ is. other (is ∙ sym z))))

get-some : {X : Type 0} (xs : List X) (n : ℕ) → n < length xs → (x : X) × (slice_get xs n ≡ Some x)
get-some [] n below = absurd (omega arith)
get-some (y ∷ ys) zero below = (y, refl)
get-some (y ∷ ys) (suc n) below = get-some ys n (omega arith)

module _ {I : Type 0} {g : Ghosts I} (words : ℕ → ℕ → ℕ) (counts : ℕ → ℕ) (one two : ℕ → List ℕ) (a : List (TaskDesk I g)) where
  -- words in a row are words in two rows, at each desk
  next_before : AreNext words counts (λ n. one n ++ two n) a → AreNext words counts one a
  next_before next n d at = (words-split (words d.number) (counts n) (one n) (two n) (next n d at)).0

  next_after : (b : List (TaskDesk I g)) → length b ≡ length a → ((n : ℕ) (d : TaskDesk I g) → slice_get a n ≡ Some d → (e : TaskDesk I g) × (slice_get b n ≡ Some e) × (e.number ≡ d.number))
      → AreNext words counts (λ n. one n ++ two n) a → AreNext words (counted_on counts one) two b
  next_after b many same next n e there =
      let d = get-some a n (let l = get-below b n e there in omega arith) in
      let f = same n d.0 d.1 in
      let is : f.0 ≡ e = let some : Some f.0 ≡ Some e = sym f.1 ∙ there in cc in
      let number : (d.0).number ≡ e.number = sym f.2 ∙ ap (λ (q : TaskDesk I g). q.number) is in
      subst (λ (m : ℕ). two n ≡ map (words m) (range_with_len (counted_on counts one n) (length (two n)))) number
      (words-split (words (d.0).number) (counts n) (one n) (two n) (next n d.0 d.1)).1

-- ---- one piece of work after another

module _ (t : Topology) (custom : Custom) where
  pub works-then : (a b c : Station) (x y z : List (Pass Mail)) (h k : History) → Works t custom a x h b y → Works t custom b y k c z → Works t custom a x (joined h k) c z
  works-then a b c x y z h k one two =
      let m = moves-then t custom
      (record { waiting = λ f. a.waiting f + (sent_in x f + taken_in y f) + taken_in z f; kept = a.kept; given = a.given })
      (record { waiting = λ f. b.waiting f + (sent_in y f + taken_in x f) + taken_in z f; kept = b.kept; given = b.given })
      (record { waiting = λ f. c.waiting f + (sent_in z f + taken_in y f) + taken_in x f; kept = c.kept; given = c.given })
      h k
      (record { packets = λ f. let p = one.packets f in omega arith; notes = one.notes; draws = one.draws; well = one.well })
      (record { packets = λ f. let q = two.packets f in omega arith; notes = two.notes; draws = two.draws; well = two.well }) in record {
        packets = λ f. let e = m.packets f in omega arith;
        notes = m.notes;
        draws = m.draws;
        well = m.well;
      }

uses-then : (l m n : (Packet → ℕ) → ℕ) (x y z : List (Pass Mail)) (h k : History) → Uses l x h m y → Uses m y k n z → Uses l x (joined h k) n z
uses-then l m n x y z h k one two = λ f. let p = one f in let q = two f in let j = taken-joined f h k in omega arith

-- ---- ackers

ages-same : (d : AckerDesk) → Ages d d
ages-same d = record { number = refl; buckets = refl; trace = []; entries = refl; rotates = omega arith; on = omega arith }

fold-append : {X Y : Type 0} (f : Y → X → Y) (y : Y) (xs zs : List X) → fold f y (xs ++ zs) ≡ fold f (fold f y xs) zs
fold-append f y [] zs = refl
fold-append f y (x ∷ xs) zs = fold-append f (f y x) xs zs

ticks-append : (xs ys : List Met) → ticks_in (xs ++ ys) ≡ ticks_in xs + ticks_in ys
ticks-append [] ys = omega arith
ticks-append (message m ∷ xs) ys = ticks-append xs ys
ticks-append (tick ∷ xs) ys = let rest = ticks-append xs ys in omega arith

enough-both : (n a b c x y : ℕ) → min n (b - a) ≤ x → min n (c - b) ≤ y → min n (c - a) ≤ x + y
enough-both n a b c x y one two = omega arith

ages-then : (a b c : AckerDesk) → Ages a b → Ages b c → Ages a c
ages-then a b c one two = record {
  number = two.number ∙ one.number;
  buckets = two.buckets ∙ one.buckets;
  trace = one.trace ++ two.trace;
  entries =
      two.entries
      ∙ (λ i. fold (after (one.buckets i)) (one.entries i) two.trace)
      ∙ sym (fold-append (after a.acker.buckets) a.acker.held one.trace two.trace);
  rotates =
      subst (λ (n : ℕ). min a.acker.buckets (c.counted - a.counted) ≤ n) (sym (ticks-append one.trace two.trace))
      (enough-both a.acker.buckets a.counted b.counted c.counted (ticks_in one.trace) (ticks_in two.trace) one.rotates
      (subst (λ (n : ℕ). min n (c.counted - b.counted) ≤ ticks_in two.trace) one.buckets two.rotates));
  on = let p = one.on in let q = two.on in omega arith;
}

module _ (t : Topology) where
  -- nothing is lost in one piece of work, and nothing in the next
  lasts-then : (h k : History) (a b c : List AckerDesk) → AllZip Ages b c → AllLast t h a b → AllLast t k b c → AllLast t (joined h k) a c
  lasts-then h k a b c ages one two = λ routed young few.
      let met_at : Receipt → Type 0 = λ r. acker_of t (root_of r.message) ≡ r.acker in
      let before = one (each-front met_at h.met k.met routed) young (zip-before Ages (CountsFew t) (CountsFew t) (λ x y ages less. let on = ages.on in omega arith) b c ages few) in
      let now = two (each-back met_at h.met k.met routed) before.0 few in
      (now.0, both-none h.dropped k.dropped before.1 now.1)

  pub ackers-none : (ackers : List AckerDesk) (was : List (Pass Mail)) → AckersDid t ackers ackers was was
  ackers-none ackers was = record {
    ages = zip-same Ages ages-same ackers;
    meets = record {
      history = nothing;
      works = λ custom. record {
        packets = λ f. omega arith;
        notes = λ g. omega arith;
        draws = λ s j. omega arith;
        well = well-nothing t custom;
      };
      inside = record { starts = refl; begun = refl; heard = refl };
      none_run = refl;
    };
    uses = λ f. omega arith;
    lasts = λ routed young few. (young, refl);
  }

  pub ackers-then : (a b c : List AckerDesk) (x y z : List (Pass Mail)) → AckersDid t a b x y → AckersDid t b c y z → AckersDid t a c x z
  ackers-then a b c x y z one two =
      let h = one.meets.history in
      let k = two.meets.history in record {
        ages = zip-then Ages ages-then a b c one.ages two.ages;
        meets = record {
          history = joined h k;
          works = λ custom. works-then t custom (ackers_station a) (ackers_station b) (ackers_station c) x y z h k (one.meets.works custom) (two.meets.works custom);
          inside = inside-both h k one.meets.inside two.meets.inside;
          none_run = both-none h.runs k.runs one.meets.none_run two.meets.none_run;
        };
        uses = uses-then (ackers_inbox a) (ackers_inbox b) (ackers_inbox c) x y z h k one.uses two.uses;
        lasts = lasts-then h k a b c two.ages one.lasts two.lasts;
      }

  -- one acker among others loses nothing
  lasts-at : (h : History) (ackers : List AckerDesk) (n : ℕ) (a b : AckerDesk) → slice_get ackers n ≡ Some a → Lasts t h a b → AllLast t h ackers (set ackers n b)
  lasts-at h ackers n a b at lasts = λ routed young few.
      let now = lasts routed (each-get (HasYoung t) ackers n a young at) (each-get (CountsFew t) (set ackers n b) n b few (set-here ackers n a b at)) in
      (each-put (HasYoung t) ackers n b young now.0, now.1)

  pub ackers-at : (ackers : List AckerDesk) (n : ℕ) (a b : AckerDesk) (was is : List (Pass Mail)) → slice_get ackers n ≡ Some a → AckerDid t a b was is → AckersDid t ackers (set ackers n b) was is
  ackers-at ackers n a b was is at did = record {
    ages = zip-set Ages ages-same ackers n a b at did.ages;
    meets = record {
      history = did.meets.history;
      works = λ custom. let w = did.meets.works custom in record {
        packets = λ f. let p = w.packets f in let s = weigh-at (λ (d : AckerDesk). (acker_station d).waiting f) ackers n a b at in omega arith;
        notes = λ g. let p = w.notes g in let s = weigh-at (λ (d : AckerDesk). weigh_entries g d.acker.held) ackers n a b at in omega arith;
        draws = w.draws;
        well = w.well;
      };
      inside = did.meets.inside;
      none_run = did.meets.none_run;
    };
    uses = λ f. let p = did.uses f in let s = weigh-at (λ (d : AckerDesk). acker_inbox d f) ackers n a b at in omega arith;
    lasts = lasts-at did.meets.history ackers n a b at did.lasts;
  }

zip-many : {X : Type 0} (R : X → X → Type 0) (xs ys : List X) → AllZip R xs ys → length ys ≡ length xs
zip-many R [] [] all = refl
zip-many R [] (y ∷ ys) all = absurd all
zip-many R (x ∷ xs) [] all = absurd all
zip-many R (x ∷ xs) (y ∷ ys) all = let rest = zip-many R xs ys all.1 in omega arith

pub ackers-many : (t : Topology) (old new : List AckerDesk) (was is : List (Pass Mail)) → AckersDid t old new was is → length new ≡ length old
ackers-many t old new was is did = zip-many Ages old new did.ages

module _ {I : Type 0} {g : Ghosts I} (tells : I → (ℕ → ℕ) → ℕ → Type 0) (t : Topology) (custom : Custom) where
  -- ---- nothing

  pub did-none : (desks : List (TaskDesk I g)) (ackers : List AckerDesk) (passes : List (Pass Mail)) → CrewDid tells t custom desks desks ackers ackers passes passes
  did-none desks ackers passes = record {
    ages = zip-same Ages ages-same ackers;
    given = λ n. [];
    many = refl;
    gave = λ n a at. (a, at, record { number = refl; draws = Draws-none tells (source_at a) });
    worked = λ counts are. record {
      history = nothing;
      works = record {
        packets = λ f. omega arith;
        notes = λ g. omega arith;
        draws = λ s j. let e : spans_from counts 0 desks s j ≡ spans_from (λ n. counts n + 0) 0 desks s j = ap (λ (c : ℕ → ℕ). spans_from c 0 desks s j) (same counts) in omega arith;
        well = well-nothing t custom;
      };
      are_given = subst (λ (c : ℕ → ℕ). AreGiven c desks) (same counts) are;
      drawn = λ words next. record { of_begun = tt; of_runs = tt };
      inside = record { starts = refl; begun = refl; heard = refl };
      uses = λ f. omega arith;
      lasts = λ routed young few. (young, refl);
    };
  }
    where
      same : (counts : ℕ → ℕ) → counts ≡ (λ (n : ℕ). counts n + 0)
      same counts = λ i n. (let e : counts n ≡ counts n + 0 = omega arith in e) i

  -- ---- one after another

  module _ (a b c : List (TaskDesk I g)) (k l m : List AckerDesk) (x y z : List (Pass Mail)) (first : CrewDid tells t custom a b k l x y) (second : CrewDid tells t custom b c l m y z) where
    abbrev all : ℕ → List ℕ
    all n = first.given n ++ second.given n

    counts-then : (counts : ℕ → ℕ) → counted_on (counted_on counts first.given) second.given ≡ counted_on counts all
    counts-then counts = λ i n. (let l = length-append (first.given n) (second.given n) in let e : counts n + length (first.given n) + length (second.given n) ≡ counts n + length (first.given n ++ second.given n) = omega arith in e) i

    pub did-then : CrewDid tells t custom a c k m x z
    did-then = record {
      ages = zip-then Ages ages-then k l m first.ages second.ages;
      given = all;
      many = second.many ∙ first.many;
      gave = λ n d at.
          let one = first.gave n d at in
          let two = second.gave n one.0 one.1 in (
            two.0,
            two.1,
            record { number = two.2.number ∙ one.2.number; draws = Draws-then tells (source_at d) (source_at one.0) (source_at two.0) (first.given n) (second.given n) one.2.draws two.2.draws },
          );
      worked = λ counts are.
          let one = first.worked counts are in
          let two = second.worked (counted_on counts first.given) one.are_given in record {
            history = joined one.history two.history;
            works = subst (λ (n : ℕ → ℕ). Works t custom (crew_station counts a k) x (joined one.history two.history) (crew_station n c m) z) (counts-then counts)
                (works-then t custom (crew_station counts a k) (crew_station (counted_on counts first.given) b l) (crew_station (counted_on (counted_on counts first.given) second.given) c m) x y z one.history two.history one.works two.works);
            are_given = subst (λ (n : ℕ → ℕ). AreGiven n c) (counts-then counts) two.are_given;
            drawn = λ words next. drawn-both words one.history two.history (one.drawn words (next_before words counts first.given second.given a next))
                (two.drawn words (next_after words counts first.given second.given a b first.many (λ n d at. let e = first.gave n d at in (e.0, e.1, e.2.number)) next));
            inside = inside-both one.history two.history one.inside two.inside;
            uses = uses-then (crew_left a k) (crew_left b l) (crew_left c m) x y z one.history two.history one.uses two.uses;
            lasts = lasts-then t one.history two.history k l m second.ages one.lasts two.lasts;
          };
    }

  -- ---- one desk among others

  module _ (desks : List (TaskDesk I g)) (ackers : List AckerDesk) (n : ℕ) (a b : TaskDesk I g) (was is : List (Pass Mail)) (at : slice_get desks n ≡ Some a) (one : DeskDid tells t custom a b was is) where
    abbrev ids_at : ℕ → List ℕ
    ids_at m = cond (m == n) one.ids []

    here : ids_at n ≡ one.ids
    here = ap (λ (v : Bool). cond v one.ids []) (eq-eqb n n refl)

    else : (m : ℕ) → (m ≡ n → ⊥) → length (ids_at m) ≡ 0
    else m other = by (m == n) refl
      where
        by : (v : Bool) → (m == n) ≡ v → length (cond v one.ids []) ≡ 0
        by true same = absurd (other (eqb-true m n same))
        by false same = refl

    none_at : (m : ℕ) → (m ≡ n → ⊥) → ids_at m ≡ []
    none_at m other = by (m == n) refl
      where
        by : (v : Bool) → (m == n) ≡ v → cond v one.ids [] ≡ []
        by true same = absurd (other (eqb-true m n same))
        by false same = refl

    at_place : (m : ℕ) (d : TaskDesk I g) → slice_get desks m ≡ Some d → (e : TaskDesk I g) × (slice_get (set desks n b) m ≡ Some e) × Gave tells (ids_at m) d e
    at_place m d there =
        was_in desks n m a b d at there (λ (i : ℕ) (x y : TaskDesk I g). Gave tells (ids_at i) x y)
        (subst (λ (xs : List ℕ). Gave tells xs a b) (sym here) (record { number = one.number; draws = one.drawn }))
        (λ other. subst (λ (xs : List ℕ). Gave tells xs d d) (sym (none_at m other)) (record { number = refl; draws = Draws-none tells (source_at d) }))

    module _ (counts : ℕ → ℕ) (are : AreGiven counts desks) where
      abbrev now : ℕ → ℕ
      now = counted_on counts ids_at

      len : now n ≡ counts n + length one.ids
      len = ap (λ (xs : List ℕ). counts n + length xs) here

      given_there : given_at b ≡ ended (counts n + length one.ids) → (m : ℕ) (d : TaskDesk I g) → slice_get (set desks n b) m ≡ Some d → given_at d ≡ ended (now m)
      given_there given m d there =
          is_in desks n m a b d at there (λ (i : ℕ) (x : TaskDesk I g). given_at x ≡ ended (now i)) (given ∙ ap (λ (k : ℕ). ended k) (sym len))
          (λ other was. are m d was ∙ ap (λ (k : ℕ). ended k) (nothing_more (counts m) (length (ids_at m)) (else m other)))

      draws_at : (s j d : ℕ) → spans a.number 0 (counts n) s j + d ≡ spans b.number 0 (counts n + length one.ids) s j → spans_from counts 0 desks s j + d ≡ spans_from now 0 (set desks n b) s j
      draws_at s j d is =
          drew_more (spans_from counts 0 desks s j) (spans_from now 0 (set desks n b) s j) (spans a.number 0 (counts n) s j) (spans b.number 0 (now n) s j) d
          (set_at (λ m (q : TaskDesk I g). spans q.number 0 (counts m) s j) (λ m (q : TaskDesk I g). spans q.number 0 (now m) s j) n desks a b at
          (λ m q other. ap (λ (k : ℕ). spans q.number 0 k s j) (sym (nothing_more (counts m) (length (ids_at m)) (else m other)))))
          (is ∙ ap (λ (k : ℕ). spans b.number 0 k s j) (sym len))

      works_at : (h : History) → Works t custom (desk_station (counts n) a) was h (desk_station (counts n + length one.ids) b) is → Works t custom (crew_station counts desks ackers) was h (crew_station now (set desks n b) ackers) is
      works_at h w = record {
        packets = λ f. let p = w.packets f in let s = weigh-at (λ (d : TaskDesk I g). (desk_station 0 d).waiting f) desks n a b at in omega arith;
        notes = λ g. let p = w.notes g in omega arith;
        draws = λ s j. draws_at s j _ (w.draws s j);
        well = w.well;
      }

      worked_at : CrewWorked t custom counts ids_at desks (set desks n b) ackers ackers was is
      worked_at =
          let w = one.worked (counts n) (are n a at) in record {
            history = w.history;
            works = works_at w.history w.works;
            are_given = given_there w.given;
            drawn = λ words next. w.drawn words (subst (λ (xs : List ℕ). xs ≡ map (words a.number) (range_with_len (counts n) (length xs))) here (next n a at));
            inside = w.inside;
            uses = λ f. let p = w.uses f in let s = weigh-at (λ (d : TaskDesk I g). desk_inbox d f) desks n a b at in omega arith;
            lasts = λ routed young few. (young, w.none_dropped);
          }

    pub did-at : CrewDid tells t custom desks (set desks n b) ackers ackers was is
    did-at = record {
      ages = zip-same Ages ages-same ackers;
      given = ids_at;
      many = length-set desks n b;
      gave = at_place;
      worked = worked_at;
    }

  -- ---- ackers beside desks

  pub did-ackers : (desks : List (TaskDesk I g)) (k l : List AckerDesk) (was is : List (Pass Mail)) → AckersDid t k l was is → CrewDid tells t custom desks desks k l was is
  did-ackers desks k l was is did =
      record {
        given = λ n. [];
        many = refl;
        gave = λ n a at. (a, at, record { number = refl; draws = Draws-none tells (source_at a) });
        ages = did.ages;
        worked = λ counts are.
            let w = did.meets.works custom in
            let same : counts ≡ (λ (n : ℕ). counts n + 0) = λ i n. (let e : counts n ≡ counts n + 0 = omega arith in e) i in record {
              history = did.meets.history;
              works = record {
                packets = λ f. let p = w.packets f in omega arith;
                notes = w.notes;
                draws = λ s j. let d = w.draws s j in let e : spans_from counts 0 desks s j ≡ spans_from (λ n. counts n + 0) 0 desks s j = ap (λ (c : ℕ → ℕ). spans_from c 0 desks s j) same in omega arith;
                well = w.well;
              };
              are_given = subst (λ (c : ℕ → ℕ). AreGiven c desks) same are;
              drawn = λ words next. record {
                of_begun = subst (λ os. AllByRecursion (λ (o : Opening). HasWords words o.begun.source o.begun.at o.begun.ids) os) (sym did.meets.inside.begun) tt;
                of_runs = subst (λ es. AllByRecursion (λ (e : Execution). HasWords words e.run.task e.run.at e.run.ids) es) (sym did.meets.none_run) tt;
              };
              inside = did.meets.inside;
              uses = λ f. let p = did.uses f in omega arith;
              lasts = did.lasts;
            };
      }
