-- What comes into boxes and goes out of outboxes between events.
use Rattle.std.proofs.Common.{◌≡◌, ◌≤◌, ◌<◌, ℕ, zero, suc, ◌+◌, List, [], ◌∷◌, ◌++◌, length, map, append-nil, append_assoc, get_or, set, sym, refl, ap, subst, ◌∙◌, arith}
use Rattle.std.specs.List.{AllByRecursion, flat_map}
use Rattle.std.proofs.lemmas.List.{length-map}
use Rattle.event_worlds.specs.acker_core.declared.verdict.Verdict.{Verdict}
use Rattle.event_engine.specs.Engines.{IsReady, IsSeated, IsStill, IsThere, cut_in, shape, sources, topology_in}
use Rattle.event_engine.specs.Exchanges.{GivesAllParcels, GivesAllVerdicts, GivesParcelsAt, GivesVerdictAt, delivered_all, without_parcels, without_verdicts}
use Rattle.event_engine.specs.Seats.{AreSeats, acker_side, buckets_in, source_in, task_side}
use Rattle.event_engine.specs.declared.acker.AckerSeat.{AckerSeat}
use Rattle.event_engine.specs.declared.engine.Engine.{Engine}
use Rattle.event_engine.specs.declared.task.TaskSeat.{TaskSeat}
use Rattle.event_engine.proofs.EngineLemmas.{ready_still}
use Rattle.event_engine.proofs.LoopLemmas.{still_then}
use Rattle.event_engine.proofs.SeatLemmas.{at-some, fits_there, get-map, seats_set, side-same, side-set}
use Rattle.event_worlds.specs.Orderly.{AreTasksOrderly, FitsParcel, IsOrderly}
use Rattle.event_worlds.proofs.Orderly.{orderly-delivered}
use Rattle.event_worlds.specs.Worlds.{AckerSide, TaskSide, delivered, no_acker}
use Rattle.event_worlds.specs.storm_ids.declared.ids.Ids.{Ghosts}
use Rattle.event_worlds.specs.topology_plan.Topology.{Topology}
use Rattle.event_worlds.specs.tree_model.declared.messages.Parcel.{Parcel}
use Rattle.event_worlds.specs.taken_records.Cuts.{Cut}

-- ---- the first so many of a list

-- they are changed, and the others are as they were
pub changed_to : {X : Type 0} → (X → X) → ℕ → List X → List X
changed_to f zero xs = xs
changed_to f (suc n) [] = []
changed_to f (suc n) (x ∷ xs) = f x ∷ changed_to f n xs

-- what they give, joined
pub given_by : {X Y : Type 0} → (X → List Y) → ℕ → List X → List Y
given_by out zero xs = []
given_by out (suc n) [] = []
given_by out (suc n) (x ∷ xs) = out x ++ given_by out n xs

changed-at : {X : Type 0} (f : X → X) (n : ℕ) (xs : List X) (none : X) → get_or (changed_to f n xs) n none ≡ get_or xs n none
unfolding changed_to
changed-at f zero xs none = refl
changed-at f (suc n) [] none = refl
changed-at f (suc n) (x ∷ xs) none = changed-at f n xs none

changed-next : {X : Type 0} (f : X → X) (n : ℕ) (xs : List X) (none : X) → set (changed_to f n xs) n (f (get_or xs n none)) ≡ changed_to f (suc n) xs
unfolding changed_to
changed-next f zero [] none = refl
changed-next f zero (x ∷ xs) none = refl
changed-next f (suc n) [] none = refl
changed-next f (suc n) (x ∷ xs) none = ap (λ ys. f x ∷ ys) (changed-next f n xs none)

changed-all : {X : Type 0} (f : X → X) (n : ℕ) (xs : List X) → length xs ≤ n → changed_to f n xs ≡ map f xs
unfolding changed_to
changed-all f zero [] all = refl
changed-all f zero (x ∷ xs) all = absurd (omega arith)
changed-all f (suc n) [] all = refl
changed-all f (suc n) (x ∷ xs) all = ap (λ ys. f x ∷ ys) (changed-all f n xs (omega arith))

given-next : {X Y : Type 0} (out : X → List Y) (n : ℕ) (xs : List X) (none : X) → out none ≡ [] → given_by out (suc n) xs ≡ given_by out n xs ++ out (get_or xs n none)
unfolding given_by
given-next out zero [] none empty = sym empty
given-next out zero (x ∷ xs) none empty = append-nil (out x)
given-next out (suc n) [] none empty = sym empty
given-next out (suc n) (x ∷ xs) none empty = ap (λ ys. out x ++ ys) (given-next out n xs none empty) ∙ sym (append_assoc (out x) (given_by out n xs) (out (get_or xs n none)))

given-all : {X Y : Type 0} (out : X → List Y) (n : ℕ) (xs : List X) → length xs ≤ n → given_by out n xs ≡ flat_map out xs
unfolding given_by
given-all out zero [] all = refl
given-all out zero (x ∷ xs) all = absurd (omega arith)
given-all out (suc n) [] all = refl
given-all out (suc n) (x ∷ xs) all = ap (λ ys. out x ++ ys) (given-all out n xs (omega arith))

one_more : (n : ℕ) → suc n ≡ n + 1
one_more n = omega arith

-- ---- verdicts of ackers

-- an acker's verdict goes out
pub gives_verdict : (n : ℕ) (before after : List Verdict) (old : List AckerSeat) (x y : AckerSeat) → n < length old → x ≡ get_or old n x
    → after ≡ before ++ (acker_side x).outbox → acker_side y ≡ without_verdicts (acker_side x) → buckets_in y ≡ buckets_in x
    → GivesVerdictAt n before after old (set old n y)
gives_verdict n before after old x y below is gives side buckets =
    let at = at-some old n x below is in record {
      given = gives ∙ ap (λ (s : AckerSide). before ++ s.outbox) (sym (get-map acker_side old n x no_acker at));
      sides = side-set acker_side old n x y without_verdicts no_acker at side;
      same_buckets = side-same buckets_in old n x y at buckets;
    }

-- the first so many have given theirs
pub record VerdictsGone (n : ℕ) (given : List Verdict) (old mid : List AckerSeat) : Type 0 where
  pub many : length mid ≡ length old
  pub are : given ≡ given_by (λ (s : AckerSide). s.outbox) n (map acker_side old)
  pub sides : map acker_side mid ≡ changed_to without_verdicts n (map acker_side old)
  pub same_buckets : map buckets_in mid ≡ map buckets_in old

pub verdicts_none : (given : List Verdict) (old : List AckerSeat) → given ≡ [] → VerdictsGone 0 given old old
unfolding changed_to given_by
verdicts_none given old none = record { many = refl; are = none; sides = refl; same_buckets = refl }

pub verdicts_more : (n : ℕ) (given after : List Verdict) (old mid new : List AckerSeat) → VerdictsGone n given old mid → GivesVerdictAt n given after mid new → VerdictsGone (n + 1) after old new
verdicts_more n given after old mid new gone gives =
    let sides = map acker_side old in
    let at : get_or (map acker_side mid) n no_acker ≡ get_or sides n no_acker =
    ap (λ (ss : List AckerSide). get_or ss n no_acker) gone.sides ∙ changed-at without_verdicts n sides no_acker in
    subst (λ (k : ℕ). VerdictsGone k after old new) (one_more n) (record {
      many = sym (length-map new buckets_in) ∙ ap length (gives.same_buckets ∙ gone.same_buckets) ∙ length-map old buckets_in;
      are =
          gives.given ∙ (λ i. gone.are i ++ (at i).outbox)
          ∙ sym (given-next (λ (s : AckerSide). s.outbox) n sides no_acker refl);
      sides = gives.sides ∙ (λ i. set (gone.sides i) n (without_verdicts (at i))) ∙ changed-next without_verdicts n sides no_acker;
      same_buckets = gives.same_buckets ∙ gone.same_buckets;
    })

pub verdicts_all : (n : ℕ) (given : List Verdict) (old new : List AckerSeat) → length old ≤ n → VerdictsGone n given old new → GivesAllVerdicts given old new
verdicts_all n given old new all gone =
    let many : length (map acker_side old) ≤ n = let same = length-map old acker_side in omega arith in record {
      are = gone.are ∙ given-all (λ (s : AckerSide). s.outbox) n (map acker_side old) many;
      sides = gone.sides ∙ changed-all without_verdicts n (map acker_side old) many;
      same_buckets = gone.same_buckets;
    }

-- ---- parcels of tasks

module _ {I : Type 0} {g : Ghosts I} where
  -- the first so many have given theirs
  pub record ParcelsGone (n : ℕ) (given : List Parcel) (old mid : List (TaskSeat I g)) : Type 0 where
    pub many : length mid ≡ length old
    pub are : given ≡ given_by (λ (s : TaskSide). s.outbox) n (map task_side old)
    pub sides : map task_side mid ≡ changed_to without_parcels n (map task_side old)
    pub sources : map source_in mid ≡ map source_in old
    pub seats : (t : Topology) → AreSeats t 0 old → AreSeats t 0 mid

  pub parcels_none : (given : List Parcel) (old : List (TaskSeat I g)) → given ≡ [] → ParcelsGone 0 given old old
  unfolding changed_to given_by
  parcels_none given old none = record { many = refl; are = none; sides = refl; sources = refl; seats = λ t are. are }

  pub parcels_more : (n : ℕ) (given after : List Parcel) (old mid new : List (TaskSeat I g)) → ParcelsGone n given old mid → GivesParcelsAt n given after mid new → ParcelsGone (n + 1) after old new
  parcels_more n given after old mid new gone gives =
      let none = without_parcels (task_side gives.before) in
      let sides = map task_side old in
      let was : get_or (map task_side mid) n none ≡ task_side gives.before = get-map task_side mid n gives.before none gives.at in
      let at : get_or (map task_side mid) n none ≡ get_or sides n none =
      ap (λ (ss : List TaskSide). get_or ss n none) gone.sides ∙ changed-at without_parcels n sides none in
      let side : task_side gives.after ≡ without_parcels (task_side gives.before) =
      λ i. record (task_side (record gives.before { task = gives.task i; inbox = gives.inbox i })) { outbox = gives.outbox i } in
      let changes : map task_side new ≡ set (map task_side mid) n (without_parcels (get_or (map task_side mid) n none)) =
      ap (map task_side) gives.others ∙ side-set task_side mid n gives.before gives.after without_parcels none gives.at side in
      let same_sources : map source_in new ≡ map source_in mid =
      ap (map source_in) gives.others ∙ side-same source_in mid n gives.before gives.after gives.at (λ i. source_in (record gives.before { task = gives.task i })) in
      subst (λ (k : ℕ). ParcelsGone k after old new) (one_more n) (record {
        many = sym (length-map new (source_in {I = I} {g = g})) ∙ ap length (same_sources ∙ gone.sources) ∙ length-map old (source_in {I = I} {g = g});
        are =
            gives.given ∙ (λ i. gone.are i ++ ((sym was ∙ at) i).outbox)
            ∙ sym (given-next (λ (s : TaskSide). s.outbox) n sides none refl);
        sides = changes ∙ (λ i. set (gone.sides i) n (without_parcels (at i))) ∙ changed-next without_parcels n sides none;
        sources = same_sources ∙ gone.sources;
        seats = λ u are.
            subst (AreSeats u 0) (sym gives.others)
            (seats_set u n mid gives.before gives.after (gone.seats u are) gives.at (record { topology = λ i. (gives.task i).plan.now; component = λ i. (gives.task i).component; number = λ i. (gives.task i).task }));
      })

  pub parcels_all : (n : ℕ) (given : List Parcel) (old new : List (TaskSeat I g)) → length old ≤ n → ParcelsGone n given old new → GivesAllParcels given old new
  parcels_all n given old new all gone =
      let many : length (map task_side old) ≤ n = let same = length-map old (task_side {I = I} {g = g}) in omega arith in record {
        are = gone.are ∙ given-all (λ (s : TaskSide). s.outbox) n (map task_side old) many;
        sides = gone.sides ∙ changed-all without_parcels n (map task_side old) many;
        sources = gone.sources;
        seats = gone.seats;
      }

-- ---- the engine

-- tasks that have handed over all are orderly
orderly_without : (t : Topology) (n : ℕ) (sides : List TaskSide) → AreTasksOrderly t n sides → AreTasksOrderly t n (map without_parcels sides)
orderly_without t n [] all = tt
orderly_without t n (side ∷ sides) all = (record { inbox = all.0.inbox; outbox = tt; stand = all.0.stand }, orderly_without t (suc n) sides all.1)

module _ {I : Type 0} {g : Ghosts I} (t : Topology) (cut : Cut) (old new : Engine I g) (ready : IsReady t cut old) (still : IsStill old new) where
  pub ready_without_parcels : IsSeated t cut new → shape new ≡ record (shape old) { tasks = map without_parcels (shape old).tasks } → IsReady t cut new
  ready_without_parcels seated same =
      let o = ready.orderly in
      ready_still t cut old new ready still seated
      (subst (IsOrderly t) (sym same) (record {
        task_count = length-map (shape old).tasks without_parcels ∙ o.task_count;
        acker_count = o.acker_count;
        tasks = orderly_without t 0 (shape old).tasks o.tasks;
        orders = o.orders;
        spout = o.spout;
      }))

  pub ready_without_verdicts : IsSeated t cut new → shape new ≡ record (shape old) { ackers = map without_verdicts (shape old).ackers } → IsReady t cut new
  ready_without_verdicts seated same =
      let o = ready.orderly in
      ready_still t cut old new ready still seated
      (subst (IsOrderly t) (sym same) (record {
        task_count = o.task_count;
        acker_count = length-map (shape old).ackers without_verdicts ∙ o.acker_count;
        tasks = o.tasks;
        orders = o.orders;
        spout = o.spout;
      }))

-- ---- parcels that come in

module _ {I : Type 0} {g : Ghosts I} where
  -- some came, and the rest may come
  pub record Receiving (parcels rest : List Parcel) (old mid : Engine I g) : Type 0 where
    pub ready : IsReady (topology_in old) (cut_in old) mid
    pub fit : AllByRecursion (FitsParcel (topology_in old)) rest
    pub same : delivered_all (topology_in old) rest (shape mid) ≡ delivered_all (topology_in old) parcels (shape old)
    pub sources : sources mid ≡ sources old
    pub still : IsStill old mid

  pub receiving_first : (parcels rest : List Parcel) (old : Engine I g) → rest ≡ parcels → IsReady (topology_in old) (cut_in old) old → AllByRecursion (FitsParcel (topology_in old)) parcels → Receiving parcels rest old old
  receiving_first parcels rest old same ready fit = record {
    ready = ready;
    fit = subst (AllByRecursion (FitsParcel (topology_in old))) (sym same) fit;
    same = ap (λ (ps : List Parcel). delivered_all (topology_in old) ps (shape old)) same;
    sources = refl;
    still = record { coordinator = refl; fates = refl };
  }

  module _ (parcels rest left : List Parcel) (parcel : Parcel) (old mid : Engine I g) (receiving : Receiving parcels rest old mid) (front : rest ≡ parcel ∷ left) where
    fits_all : AllByRecursion (FitsParcel (topology_in old)) (parcel ∷ left)
    fits_all = subst (AllByRecursion (FitsParcel (topology_in old))) front receiving.fit

    -- the next one names what is there
    pub received_there : IsThere (length mid.tasks.items) (length mid.ackers.items) parcel
    received_there =
        let o = receiving.ready.orderly in
        fits_there (topology_in old) (length mid.tasks.items) (length mid.ackers.items) parcel
        (sym (length-map mid.tasks.items (task_side {I = I} {g = g})) ∙ o.task_count) (sym (length-map mid.ackers.items acker_side) ∙ o.acker_count) fits_all.0

    -- it came
    pub received_more : (new : Engine I g) → shape new ≡ delivered (topology_in mid) parcel (shape mid) → sources new ≡ sources mid → IsSeated (topology_in old) (cut_in old) new → IsStill mid new → Receiving parcels left old new
    received_more new came same_sources seated still =
        let t = topology_in old in
        let own : shape new ≡ delivered t parcel (shape mid) = came ∙ ap (λ (u : Topology). delivered u parcel (shape mid)) receiving.ready.seated.of_topology in record {
          ready = ready_still t (cut_in old) mid new receiving.ready still seated (subst (IsOrderly t) (sym own) (orderly-delivered t (shape mid) parcel fits_all.0 receiving.ready.orderly));
          fit = fits_all.1;
          same = ap (delivered_all t left) own ∙ ap (λ (ps : List Parcel). delivered_all t ps (shape mid)) (sym front) ∙ receiving.same;
          sources = same_sources ∙ receiving.sources;
          still = still_then old mid new receiving.still still;
        }
