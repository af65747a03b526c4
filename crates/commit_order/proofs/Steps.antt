-- The attempts in flight as the pending attempts that the coordinator knows.
use Rattle.std.proofs.Common.{◌≡◌, ◌≢◌, ℕ, ◌+◌, ◌-◌, ◌^◌, ◌==◌, ◌||◌, ◌&&◌, Bool, true, false, not, cond, Option, Some, None, List, [], ◌∷◌, ◌++◌, map, filter, refl, sym, ap, ap₂, subst, ◌∙◌, Bor, arith}
use Rattle.std.specs.Prelude.{if◌then◌else◌, is_some, option_copied}
use Rattle.std.specs.List.{AllByRecursion, find, list_any}
use Rattle.std.specs.Option.{option_map}
use Rattle.std.proofs.lemmas.Bool.Decides.{nat_tests}
use Rattle.std.proofs.lemmas.List.{map-append}
use Rattle.attempt_fates.specs.declared.fates.End.{End}
use Rattle.commit_order.specs.Offices.{AreWithin, Office, Settled, cut_by, entry_ended, wait_of, waits}
use Rattle.commit_turns.specs.Desks.{ended_at, has_txid, is_late, is_of_root, settled, timed_of, without}
use Rattle.commit_turns.specs.Turns.{last_tick}
use Rattle.record_offers.specs.Offers.{OfferState, with_gone}
use Rattle.taken_records.specs.Taken.{marked}
use Rattle.commit_turns.specs.declared.wait.Wait.{Wait}
use Rattle.record_spans.specs.declared.span.Span.{Span}
use Rattle.replay_pending.specs.declared.entry.Entry.{Entry}
use Rattle.replay_pending.specs.InFlight as flight
use Rattle.replay_pending.specs.InFlight.{AreDistinct, InFlight}
use Rattle.replay_pending.proofs.Found.{first_of_two, found_again, passes}
use Rattle.tuple_account.proofs.rotating_ledger.RootLemmas.{root_eq-same}
use Rattle.tuple_account.specs.rotating_ledger.Held.{root_eq}
use Rattle.tuple_account.specs.storm_values.declared.value.Root.{Root}
use Rattle.tuple_account.specs.topology_plan.Topology.{Topology}

-- an office by its parts
abbrev pub office_by : Topology → List Span → OfferState → ℕ → InFlight Settled → Bool → Option ℕ → Office
office_by t began offers committed p out exhausted = record {
  topology = t;
  cut = cut_by offers began;
  desk = record {
    tick = p.tick;
    committed = committed;
    tries = p.tries;
    gone = offers.gone;
    pending = waits p.pending;
    out = out;
    exhausted = exhausted;
  };
}

-- ---- tests over lists that were mapped

module _ {X Y : Type 0} (f : X → Y) (P : Y → Bool) where
  pub filter-map : (xs : List X) → filter P (map f xs) ≡ map f (filter (λ (x : X). P (f x)) xs)
  filter-map [] = refl
  filter-map (x ∷ xs) = by (P (f x)) (filter-map xs)
    where
      by : (b : Bool) → filter P (map f xs) ≡ map f (filter (λ (x : X). P (f x)) xs)
          → cond b (f x ∷ filter P (map f xs)) (filter P (map f xs))
          ≡ map f (cond b (x ∷ filter (λ (x : X). P (f x)) xs) (filter (λ (x : X). P (f x)) xs))
      by true rest = ap (λ ys. f x ∷ ys) rest
      by false rest = rest

  find-map : (xs : List X) → find P (map f xs) ≡ option_map f (find (λ (x : X). P (f x)) xs)
  find-map [] = refl
  find-map (x ∷ xs) = by (P (f x)) (find-map xs)
    where
      by : (b : Bool) → find P (map f xs) ≡ option_map f (find (λ (x : X). P (f x)) xs)
          → cond b (Some (f x)) (find P (map f xs)) ≡ option_map f (cond b (Some x) (find (λ (x : X). P (f x)) xs))
      by true rest = refl
      by false rest = rest

  any-map : (xs : List X) → list_any P (map f xs) ≡ list_any (λ (x : X). P (f x)) xs
  any-map [] = refl
  any-map (x ∷ xs) = ap (λ b. P (f x) || b) (any-map xs)

-- what a function gives of something, it gives of some value
pub some_of : {X Y : Type 0} (f : X → Y) (o : Option X) (y : Y) → option_map f o ≡ Some y → (x : X) × (o ≡ Some x) × (f x ≡ y)
some_of f None y is = absurd (none_is is)
  where
    none_is : None ≡ Some y → ⊥
    none_is e = cc
some_of {X} {Y} f (Some x) y is = (x, refl, ap by is)
  where
    by : Option Y → Y
    by None = f x
    by (Some z) = z

-- it is of the transaction after this one, and settled
abbrev pub is_next : ℕ → Wait → Bool
is_next before w = (w.root.txid == before + 1) && is_some w.settled

-- ---- what is asked of the attempts in flight

module _ (es : List (Entry Settled)) where
  pub waits-txid : (txid : ℕ) → flight.has_txid txid es ≡ has_txid txid (waits es)
  waits-txid txid = sym (any-map wait_of (λ (w : Wait). txid == w.root.txid) es)

  pub waits-timed : (root : Root) → timed_of root (waits es) ≡ option_map wait_of (flight.timed_of root es)
  waits-timed root = find-map wait_of (λ (w : Wait). is_of_root root w && not (is_some w.settled)) es

  pub waits-next : (before : ℕ)
      → find (is_next before) (waits es) ≡ option_map wait_of (flight.settled_after before es)
  waits-next before = find-map wait_of (is_next before) es

  -- the timed attempt of a root
  pub timed_found : (root : Root) (r : Option (Bor (Entry Settled))) (e : Bor (Entry Settled)) → option_copied r ≡ flight.timed_of root es → r ≡ Some e
      → (timed_of root (waits es) ≡ Some (wait_of e.now)) × (e.now.root ≡ root)
  timed_found root r e is some =
      let at : flight.timed_of root es ≡ Some e.now = sym is ∙ ap option_copied some in
      let on = first_of_two (root_eq root e.now.root) (flight.is_timed e.now) (passes (flight.is_timed_of root) es e.now at) in
      (waits-timed root ∙ ap (option_map wait_of) at, sym (root_eq-same root e.now.root on))

  pub timed_none : (root : Root) (r : Option (Bor (Entry Settled))) → option_copied r ≡ flight.timed_of root es → r ≡ None
      → timed_of root (waits es) ≡ None
  timed_none root r is none = waits-timed root ∙ ap (option_map wait_of) (sym is ∙ ap option_copied none)

  -- the settled attempt of the transaction after one
  pub next_found : (before : ℕ) (r : Option (Bor (Entry Settled))) (e : Bor (Entry Settled)) → option_copied r ≡ flight.settled_after before es → r ≡ Some e
      → find (is_next before) (waits es) ≡ Some (wait_of e.now)
  next_found before r e is some = waits-next before ∙ ap (option_map wait_of) (sym is ∙ ap option_copied some)

  pub next_none : (before : ℕ) (r : Option (Bor (Entry Settled))) → option_copied r ≡ flight.settled_after before es → r ≡ None
      → find (is_next before) (waits es) ≡ None
  next_none before r is none = waits-next before ∙ ap (option_map wait_of) (sym is ∙ ap option_copied none)

  pub waits-ended : (root : Root) → waits (flight.ended root es) ≡ without root (waits es)
  waits-ended root = sym (filter-map wait_of (λ (w : Wait). not (is_of_root root w)) es)

  -- an attempt that was found by any test is the one of its root
  pub waits-found : (like : Wait → Bool) (w : Wait) (root : Root) → AreDistinct es → find like (waits es) ≡ Some w → w.root ≡ root
      → option_map wait_of (flight.entry_of root es) ≡ Some w
  waits-found like w root are is same =
      let at = some_of wait_of (find (λ (e : Entry Settled). like (wait_of e)) es) w (sym (find-map wait_of like es) ∙ is) in
      let again = found_again (λ (e : Entry Settled). like (wait_of e)) es at.0 are at.1 in
      let roots : at.0.root ≡ root = ap (λ (v : Wait). v.root) at.2 ∙ same in
      ap (λ r. option_map wait_of (flight.entry_of r es)) (sym roots) ∙ ap (option_map wait_of) again ∙ ap Some at.2

-- the attempt that is committed next, by its root
pub next_there : (ws : List Wait) (before : ℕ) (r : Option Root) (root : Root) → r ≡ option_map (λ (w : Wait). w.root) (find (is_next before) ws) → r ≡ Some root
    → (w : Wait) × (find (is_next before) ws ≡ Some w) × (w.root ≡ root)
next_there ws before r root is some = some_of (λ (w : Wait). w.root) (find (is_next before) ws) root (sym is ∙ some)

-- ---- what is done to them

pub waits-settled : (root : Root) (list : Settled) (es : List (Entry Settled)) → waits (flight.settled root list es) ≡ settled root list (waits es)
waits-settled root list [] = refl
waits-settled root list (e ∷ es) = ap₂ (λ w ws. w ∷ ws) (by (root_eq root e.root)) (waits-settled root list es)
  where
    by : (b : Bool) → wait_of (cond b (record e { settled = Some list }) e) ≡ cond b (record (wait_of e) { settled = Some list }) (wait_of e)
    by true = refl
    by false = refl

module _ (t : Topology) (began : List Span) (offers : OfferState) (committed : ℕ) (p q : InFlight Settled) (out : Bool) (exhausted : Option ℕ) where
  abbrev before : Office
  before = office_by t began offers committed p out exhausted

  pub settle_step : (root : Root) (list : Settled) → q ≡ record p { pending = flight.settled root list p.pending }
      → office_by t began offers committed q out exhausted ≡ record before { desk = record before.desk { pending = settled root list (waits p.pending) } }
  settle_step root list is =
      ap (λ r. office_by t began offers committed r out exhausted) is
      ∙ ap (λ ws. record before { desk = record before.desk { pending = ws } }) (waits-settled root list p.pending)

  pub end_step : (root : Root) → q ≡ record p { pending = flight.ended root p.pending }
      → office_by t began offers committed q out exhausted ≡ record before { desk = record before.desk { pending = without root (waits p.pending) } }
  end_step root is =
      ap (λ r. office_by t began offers committed r out exhausted) is
      ∙ ap (λ ws. record before { desk = record before.desk { pending = ws } }) (waits-ended p.pending root)

  pub abort_step : (root : Root) (spans : List Span) (new : OfferState) → q ≡ flight.aborted root p → new ≡ with_gone offers (marked false spans offers.gone)
      → office_by t began new committed q out exhausted
      ≡ record before {
        desk = record before.desk {
          tries = flight.with_aborted root.txid p.tries;
          gone = marked false spans offers.gone;
          pending = without root (waits p.pending);
        };
      }
  abort_step root spans new is back =
      ap₂ (λ r o. office_by t began o committed r out exhausted) is back
      ∙ ap (λ ws. record before { desk = record before.desk { tries = flight.with_aborted root.txid p.tries; gone = marked false spans offers.gone; pending = ws } })
      (waits-ended p.pending root)

  pub begin_step : (root : Root) (spans : List Span) (new : OfferState) → q ≡ flight.begun root spans p → new ≡ with_gone offers (marked true spans offers.gone)
      → office_by t began new committed q out exhausted
      ≡ record before {
        desk = record before.desk {
          tries = flight.with_begun root.txid root.attempt p.tries;
          gone = marked true spans offers.gone;
          pending = waits p.pending ++ record { root = root; spans = spans; start = p.tick; settled = None } ∷ [];
        };
      }
  begin_step root spans new is back =
      ap₂ (λ r o. office_by t began o committed r out exhausted) is back
      ∙ ap (λ ws. record before { desk = record before.desk { tries = flight.with_begun root.txid root.attempt p.tries; gone = marked true spans offers.gone; pending = ws } })
      (map-append wait_of p.pending (flight.fresh root spans p.tick ∷ []))

-- ---- one tick

pub late-ends : (tick : ℕ) (end : End) (es : List (Entry Settled)) → map (entry_ended tick end) es ≡ map (ended_at tick end) (waits es)
late-ends tick end [] = refl
late-ends tick end (e ∷ es) = ap (λ rest. entry_ended tick end e ∷ rest) (late-ends tick end es)

-- a tick changes something where its number is not the last
pub ticks_on : (exhausted : Option ℕ) (tick : ℕ) → (if is_some exhausted then true else tick == last_tick) ≡ false → tick ≢ 2 ^ 64 - 1
ticks_on None tick off = grind (arith, nat_tests)
ticks_on (Some txid) tick off = absurd (cc)

-- those that a tick tells are the pending attempts that are late
pub waits-late : (buckets tick : ℕ) (es : List (Entry Settled)) → waits (filter (flight.is_late buckets tick) es) ≡ filter (is_late buckets tick) (waits es)
waits-late buckets tick es = sym (filter-map wait_of (is_late buckets tick) es)

pub waits-in_time : (buckets tick : ℕ) (es : List (Entry Settled))
    → waits (filter (λ (e : Entry Settled). not (flight.is_late buckets tick e)) es) ≡ filter (λ (w : Wait). not (is_late buckets tick w)) (waits es)
waits-in_time buckets tick es = sym (filter-map wait_of (λ (w : Wait). not (is_late buckets tick w)) es)

-- ---- spans of records

module _ (records : ℕ) where
  abbrev pub Within : Entry Settled → Type 0
  Within e = AreWithin records e.spans

  pub within_some : (p : Entry Settled → Bool) (es : List (Entry Settled)) → AllByRecursion Within es → AllByRecursion Within (filter p es)
  within_some p [] all = tt
  within_some p (e ∷ es) all = by (p e) (within_some p es all.1)
    where
      by : (b : Bool) → AllByRecursion Within (filter p es) → AllByRecursion Within (cond b (e ∷ filter p es) (filter p es))
      by true rest = (all.0, rest)
      by false rest = rest

  pub within_parts : (p : Entry Settled → Bool) (es : List (Entry Settled)) → AllByRecursion Within (filter p es) → AllByRecursion Within (filter (λ e. not (p e)) es)
      → AllByRecursion Within es
  within_parts p [] some others = tt
  within_parts p (e ∷ es) some others = by (p e) some others (within_parts p es)
    where
      by : (b : Bool) → AllByRecursion Within (cond b (e ∷ filter p es) (filter p es)) → AllByRecursion Within (cond (not b) (e ∷ filter (λ x. not (p x)) es) (filter (λ x. not (p x)) es))
          → (AllByRecursion Within (filter p es) → AllByRecursion Within (filter (λ x. not (p x)) es) → AllByRecursion Within es) → AllByRecursion Within (e ∷ es)
      by true one two rest = (one.0, rest one.1 two)
      by false one two rest = (two.0, rest one two.1)

  pub within_settled : (root : Root) (list : Settled) (es : List (Entry Settled)) → AllByRecursion Within es → AllByRecursion Within (flight.settled root list es)
  within_settled root list [] all = tt
  within_settled root list (e ∷ es) all = (by (root_eq root e.root), within_settled root list es all.1)
    where
      by : (b : Bool) → Within (cond b (record e { settled = Some list }) e)
      by true = all.0
      by false = all.0

  pub within_push : (es : List (Entry Settled)) (e : Entry Settled) → AllByRecursion Within es → Within e → AllByRecursion Within (es ++ e ∷ [])
  within_push [] e all one = (one, tt)
  within_push (x ∷ es) e all one = (all.0, within_push es e all.1 one)

  pub within_found : (p : Entry Settled → Bool) (es : List (Entry Settled)) (e : Entry Settled) → AllByRecursion Within es → find p es ≡ Some e → Within e
  within_found p [] e all is = absurd (none_is is)
    where
      none_is : None ≡ Some e → ⊥
      none_is same = cc
  within_found p (x ∷ es) e all is = by (p x) is (within_found p es e all.1)
    where
      same : Some x ≡ Some e → x ≡ e
      same eq = ap (of x) eq
        where
          of : Entry Settled → Option (Entry Settled) → Entry Settled
          of d None = d
          of d (Some z) = z

      by : (b : Bool) → cond b (Some x) (find p es) ≡ Some e → (find p es ≡ Some e → Within e) → Within e
      by true here rest = subst Within (same here) all.0
      by false there rest = rest there
