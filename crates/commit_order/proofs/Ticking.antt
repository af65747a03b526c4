-- One tick, as a step of what is known.
use Rattle.std.proofs.Common.{◌≡◌, ℕ, ◌+◌, Bool, not, Option, Some, None, List, [], ◌∷◌, ◌++◌, map, filter, length, refl, sym, ap, ap₂, subst, ◌∙◌}
use Rattle.std.specs.Prelude.{slice_get}
use Rattle.std.specs.List.{AllByRecursion}
use Rattle.std.specs.Option.{option_map}
use Rattle.std.proofs.lemmas.List.{append-nil}
use Rattle.attempt_fates.specs.declared.fates.Attempt.{Attempt}
use Rattle.attempt_fates.specs.declared.fates.End.TheVariants as end
use Rattle.commit_order.proofs.Ending.{aborts_go, aborts_short, Came}
use Rattle.commit_order.proofs.Passing.{adds_front}
use Rattle.commit_order.proofs.Steps.{Within, late-ends, office_by, waits-in_time, waits-late, within_some}
use Rattle.commit_order.specs.Offices.{AddsSome, DropsAll, GoesOn, IsInFlight, Office, Settled, entry_ended, entry_spans, try_at, waits}
use Rattle.commit_turns.specs.declared.wait.Wait.{Wait}
use Rattle.commit_turns.specs.Desks.{Progress, is_late}
use Rattle.commit_turns.specs.Turns.{aborted, counted, drops, in_time_at, last_try, late_at, one_tick}
use Rattle.record_offers.specs.Offers.{OfferState, with_gone}
use Rattle.record_spans.specs.declared.span.Span.{Span}
use Rattle.replay_pending.specs.declared.entry.Entry.{Entry}
use Rattle.replay_pending.specs.InFlight as flight
use Rattle.replay_pending.specs.InFlight.{InFlight, Tries}
use Rattle.taken_records.specs.Cuts.{Cut}
use Rattle.taken_records.specs.Taken.{put_back}
use Rattle.tuple_account.specs.storm_values.Lines.{first_some}
use Rattle.tuple_account.specs.storm_values.declared.value.Root.{Root}
use Rattle.tuple_account.specs.topology_plan.Topology.{Topology}

-- ---- what ended

its_txids : (tick : ℕ) (es : List (Entry Settled)) → map (λ (a : Attempt). a.root.txid) (map (entry_ended tick end.TimedOut) es) ≡ flight.txids_of es
its_txids tick [] = refl
its_txids tick (e ∷ es) = ap (λ rest. e.root.txid ∷ rest) (its_txids tick es)

its_spans : (tick : ℕ) (es : List (Entry Settled)) → map (λ (a : Attempt). a.spans) (map (entry_ended tick end.TimedOut) es) ≡ map entry_spans es
its_spans tick [] = refl
its_spans tick (e ∷ es) = ap (λ rest. e.spans ∷ rest) (its_spans tick es)

its_tries : (t : Topology) (cut : Cut) (tries : Tries) (tick : ℕ) (es : List (Entry Settled)) → map (last_try t cut tries) (map (entry_ended tick end.TimedOut) es) ≡ map (try_at t tries) es
its_tries t cut tries tick [] = refl
its_tries t cut tries tick (e ∷ es) = ap (λ rest. try_at t tries e ∷ rest) (its_tries t cut tries tick es)

-- the first of some, by its root
pub none_first : (es : List (Entry Settled)) → option_map (λ (e : Entry Settled). e.root) (slice_get es 0) ≡ None → es ≡ []
none_first [] is = refl
none_first (e ∷ es) is = absurd (some_none e.root is)
  where
    some_none : (r : Root) → Some r ≡ None → ⊥
    some_none r e = cc

pub record IsFirst (es : List (Entry Settled)) (root : Root) : Type 0 where
  pub first : Entry Settled
  pub others : List (Entry Settled)
  pub are : es ≡ first ∷ others
  pub root_is : first.root ≡ root

pub some_first : (es : List (Entry Settled)) (root : Root) → option_map (λ (e : Entry Settled). e.root) (slice_get es 0) ≡ Some root → IsFirst es root
some_first [] root is = absurd (none_some is)
  where
    none_some : None ≡ Some root → ⊥
    none_some e = cc
some_first (e ∷ es) root is = record { first = e; others = es; are = refl; root_is = same is }
  where
    same : Some e.root ≡ Some root → e.root ≡ root
    same eq = cc

-- ---- the attempts in flight after a tick

pub ticked_in_flight : (t : Topology) (records : ℕ) (p q : InFlight Settled) → IsInFlight t records p → q ≡ flight.ticked p → IsInFlight t records q
ticked_in_flight t records p q is to =
    rw to (record {
      cap = is.cap;
      buckets = is.buckets;
      spans = within_some records (λ (e : Entry Settled). not (flight.is_late p.buckets (p.tick + 1) e)) p.pending is.spans;
    })

module _ (t : Topology) (began : List Span) (offers : OfferState) (committed : ℕ) (p q : InFlight Settled) (out : Bool) (exhausted : Option ℕ)
    (is : IsInFlight t (length offers.records) p) (to : q ≡ flight.ticked p) (late : List (Entry Settled)) (told_late : late ≡ flight.due p) where
  pub late_within : AllByRecursion (Within (length offers.records)) late
  late_within =
      subst (AllByRecursion (Within (length offers.records))) (sym told_late) (within_some (length offers.records) (flight.is_late p.buckets (p.tick + 1)) p.pending is.spans)

  abbrev before : Office
  before = office_by t began offers committed p out exhausted

  -- the tick rose, and those that are late are pending no longer
  abbrev base : Office
  base = record before { desk = record before.desk { tick = p.tick + 1; pending = in_time_at t before.cut (p.tick + 1) (waits p.pending) } }

  abbrev ended : List Attempt
  ended = map (entry_ended (p.tick + 1) end.TimedOut) late

  who : late_at t before.cut (p.tick + 1) (waits p.pending) ≡ ended
  who =
      ap (λ b. map (λ (w : Wait). record { root = w.root; spans = w.spans; start = w.start; finish = p.tick + 1; end = end.TimedOut }) (filter (is_late b (p.tick + 1)) (waits p.pending))) (sym is.buckets)
      ∙ ap (map (λ (w : Wait). record { root = w.root; spans = w.spans; start = w.start; finish = p.tick + 1; end = end.TimedOut })) (sym (waits-late p.buckets (p.tick + 1) p.pending) ∙ ap waits (sym told_late))
      ∙ sym (late-ends (p.tick + 1) end.TimedOut late)

  in_time : waits q.pending ≡ in_time_at t before.cut (p.tick + 1) (waits p.pending)
  in_time =
      ap (λ (r : InFlight Settled). waits r.pending) to ∙ waits-in_time p.buckets (p.tick + 1) p.pending
      ∙ ap (λ b. filter (λ (w : Wait). not (is_late b (p.tick + 1) w)) (waits p.pending)) is.buckets

  turn : one_tick t before.cut before.desk ≡ aborted t before.cut ended base.desk
  turn = ap (λ xs. aborted t before.cut xs base.desk) who

  tries : q.tries ≡ counted t before.cut ended p.tries
  tries =
      ap (λ (r : InFlight Settled). r.tries) to ∙ ap (λ es. flight.counted (flight.txids_of es) p.tries) (sym told_late)
      ∙ ap (λ txids. flight.counted txids p.tries) (sym (its_txids (p.tick + 1) late))

  -- after the tick, with the counts
  after_tick : office_by t began offers committed q out exhausted ≡ record base { desk = record base.desk { tries = counted t before.cut ended p.tries } }
  after_tick =
      (λ i. record before { desk = record before.desk { tick = (to i).tick; tries = tries i; pending = in_time i } })

  pub tick_none : (fates : List Attempt) → late ≡ [] → GoesOn (one_tick t before.cut before.desk) before (office_by t began offers committed q out exhausted) fates fates
  tick_none fates none =
      let empty : ended ≡ [] = ap (map (entry_ended (p.tick + 1) end.TimedOut)) none in
      let goes : one_tick t before.cut before.desk ≡ aborted t before.cut [] base.desk = turn ∙ ap (λ xs. aborted t before.cut xs base.desk) empty in
      let same : office_by t began offers committed q out exhausted ≡ base = after_tick ∙ ap (λ xs. record base { desk = record base.desk { tries = counted t before.cut xs p.tries } }) empty in
      record {
        office = same ∙ ap (λ (to_ : Progress). record before { desk = to_.desk }) (sym goes);
        fates = sym (append-nil fates) ∙ ap (λ (to_ : Progress). fates ++ to_.ended) (sym goes);
      }

  -- those that are late came back
  module _ (root : Root) (one : IsFirst late root) (back : OfferState) (gone : back ≡ with_gone offers (put_back (map entry_spans late) offers.gone)) (last : Option ℕ)
      (tried : last ≡ first_some (map (try_at t q.tries) late)) where
    abbrev pub mid : Office
    mid = office_by t began back committed q out last

    abbrev first : Attempt
    first = entry_ended (p.tick + 1) end.TimedOut one.first

    abbrev others : List Attempt
    others = map (entry_ended (p.tick + 1) end.TimedOut) one.others

    all : ended ≡ first ∷ others
    all = ap (map (entry_ended (p.tick + 1) end.TimedOut)) one.are

    came : Came base mid first others
    came =
        ap₂ (λ (o : OfferState) (e : Option ℕ). office_by t began o committed q out e) gone tried
        ∙ (λ i. record before {
          desk = record before.desk {
            tick = (to i).tick;
            tries = (tries ∙ ap (λ xs. counted t before.cut xs p.tries) all) i;
            gone = (ap (λ xs. put_back xs offers.gone) (sym (its_spans (p.tick + 1) late) ∙ ap (map (λ (a : Attempt). a.spans)) all)) i;
            pending = in_time i;
            exhausted = (ap (λ ts. first_some (map (try_at t ts) late)) (tries ∙ ap (λ xs. counted t before.cut xs p.tries) all)
                ∙ ap first_some (sym (its_tries t before.cut (counted t before.cut (first ∷ others) p.tries) (p.tick + 1) late)
                ∙ ap (map (last_try t before.cut (counted t before.cut (first ∷ others) p.tries))) all)) i;
          };
        })

    goes : one_tick t before.cut before.desk ≡ aborted t before.cut (first ∷ others) base.desk
    goes = turn ∙ ap (λ xs. aborted t before.cut xs base.desk) all

    pub tick_some : (new : Office) (told fates tells : List Attempt) → fates ≡ told ++ ended → DropsAll root mid new fates tells
        → GoesOn (one_tick t before.cut before.desk) before new told tells
    tick_some new told fates tells adds drop =
        let g = aborts_go base mid first others new told fates tells came (adds ∙ ap (λ xs. told ++ xs) all)
        (subst (λ (r : Root). DropsAll r mid new fates tells) (sym one.root_is) drop) in
        record {
          office = g.office ∙ ap (λ (to_ : Progress). record before { desk = to_.desk }) (sym goes);
          fates = g.fates ∙ ap (λ (to_ : Progress). told ++ to_.ended) (sym goes);
        }

    pub tick_short : (told fates tells : List Attempt) → fates ≡ told ++ ended → AddsSome (drops mid.topology mid.cut mid.desk.tick root mid.desk.pending) fates tells
        → AddsSome (one_tick t before.cut before.desk).ended told tells
    tick_short told fates tells adds short =
        subst (λ (to_ : Progress). AddsSome to_.ended told tells) (sym goes)
        (aborts_short base mid first others told fates tells came (adds ∙ ap (λ xs. told ++ xs) all)
        (subst (λ (r : Root). AddsSome (drops mid.topology mid.cut mid.desk.tick r mid.desk.pending) fates tells) (sym one.root_is) short))

  -- of those that are late some were added
  pub late_short : (root : Root) → IsFirst late root → (told tells : List Attempt) → AddsSome ended told tells → AddsSome (one_tick t before.cut before.desk).ended told tells
  late_short root one told tells some =
      let first = entry_ended (p.tick + 1) end.TimedOut one.first in
      let others = map (entry_ended (p.tick + 1) end.TimedOut) one.others in
      let all : ended ≡ first ∷ others = ap (map (entry_ended (p.tick + 1) end.TimedOut)) one.are in
      subst (λ (to_ : Progress). AddsSome to_.ended told tells) (sym (turn ∙ ap (λ xs. aborted t before.cut xs base.desk) all))
      (adds_front (first ∷ others) (drops t before.cut (p.tick + 1) first.root base.desk.pending) told tells (subst (λ xs. AddsSome xs told tells) all some))
